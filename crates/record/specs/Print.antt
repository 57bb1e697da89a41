-- What is printed of bytes.
use Rattle.std.specs.Prelude.{ℕ, zero, suc, ◌/◌, ◌%◌, Bool, true, false, List, [], ◌∷◌, ◌++◌, length, take, drop, flat_map, codes}
use Rattle.std.specs.Fmt.{digit_glyph, decimal}

-- a byte as two hexadecimal digits in lower case
abbrev pub pair_of : ℕ → List ℕ
pair_of b = digit_glyph false (b / 16) ∷ digit_glyph false (b % 16) ∷ []

abbrev pub hex_of : List ℕ → List ℕ
hex_of bs = flat_map pair_of bs

-- behind a space, where there are any
abbrev pub tail_of : List ℕ → List ℕ
tail_of [] = []
tail_of (b ∷ bs) = codes " " ++ hex_of (b ∷ bs)

-- a line for record n
abbrev pub packet_line : ℕ → List ℕ → List ℕ
packet_line n bs = decimal n ++ codes " in " ++ hex_of bs ++ codes "\n"

-- the lines of data: 512 bytes each and a rest, in at most `most` lines
abbrev pub packet_lines : ℕ → ℕ → List ℕ → List ℕ
packet_lines n zero bs = []
packet_lines n (suc most) [] = []
packet_lines n (suc most) (b ∷ bs) = packet_line n (take 512 (b ∷ bs)) ++ packet_lines n most (drop 512 (b ∷ bs))

abbrev pub csw_line : ℕ → List ℕ → Bool → List ℕ
csw_line n bs true = packet_line n bs
csw_line n bs false = []

-- the first `moved` bytes in packets, and the 13 behind them if a CSW was sent
abbrev pub sent_lines : ℕ → List ℕ → ℕ → Bool → List ℕ
sent_lines n sent moved csw = packet_lines n (length sent) (take moved sent) ++ csw_line n (take 13 (drop moved sent)) csw
