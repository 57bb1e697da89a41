-- White space at the two ends of a text, as `str::trim` takes it away: the code points with the property White_Space of
-- Unicode (PropList.txt), at the start and at the end of a list of octets. It is defined for any list; on UTF-8 it is what the Rust does.
-- Assumes nothing.
use Rattle.std.specs.Prelude.{ℕ, zero, suc, pred, ◌+◌, ◌*◌, ◌%◌, Bool, true, false, cond, List, [], ◌∷◌, ◌==◌, slice_index, slice_index_or}
use Rattle.text.specs.Utf8.{Range, ◌–◌, only, within, any_of, char_len}

-- the code points with the property White_Space
unfoldable pub white_space : List Range
white_space =
    0x0009 – 0x000D ∷ only 0x0020 ∷ only 0x0085 ∷ only 0x00A0 ∷ only 0x1680
    ∷ 0x2000 – 0x200A ∷ 0x2028 – 0x2029 ∷ only 0x202F ∷ only 0x205F ∷ only 0x3000 ∷ []

-- the bits of a code point so far, and behind them the six x of a tail octet, 10xxxxxx
infixl 65 ◌⊳◌
abbrev pub ◌⊳◌ : ℕ → ℕ → ℕ
v ⊳ b = v * 64 + b % 64

-- the code point of a character of n octets that the list begins with: the bits marked x in the table of RFC 3629, section 3,
--     0xxxxxxx | 110xxxxx 10xxxxxx | 1110xxxx 10xxxxxx 10xxxxxx | 11110xxx 10xxxxxx 10xxxxxx 10xxxxxx
unfoldable pub code_point : ℕ → List ℕ → ℕ
code_point n s =
    cond (n == 1) (slice_index s 0 % 128)
    (cond (n == 2) (slice_index s 0 % 32 ⊳ slice_index_or s 1 0)
    (cond (n == 3) (slice_index s 0 % 16 ⊳ slice_index_or s 1 0 ⊳ slice_index_or s 2 0)
    (slice_index s 0 % 8 ⊳ slice_index_or s 1 0 ⊳ slice_index_or s 2 0 ⊳ slice_index_or s 3 0)))

-- how many octets the white space has that the list begins with, and 0 where it begins with none
unfoldable pub blank_len : List ℕ → ℕ
blank_len s = cond (any_of (within (code_point (char_len s) s)) white_space) (char_len s) 0

-- the list without its first k octets and the white space behind them
unfoldable pub lead : ℕ → List ℕ → List ℕ
lead k [] = []
lead (suc k) (b ∷ s) = lead k s
lead zero (b ∷ s) = elim (blank_len (b ∷ s)) [ zero ↦ b ∷ s | suc k ↦ lead k s ]

-- the list without the white space at its start
unfoldable pub trim_start : List ℕ → List ℕ
trim_start s = lead 0 s

-- the list is empty
abbrev pub is_nil : List ℕ → Bool
is_nil [] = true
is_nil (b ∷ s) = false

-- the first k octets, and what is behind them up to the first character from which on there is only white space
unfoldable pub keep : ℕ → List ℕ → List ℕ
keep k [] = []
keep (suc k) (b ∷ s) = b ∷ keep k s
keep zero (b ∷ s) = cond (is_nil (trim_start (b ∷ s))) [] (b ∷ keep (pred (char_len (b ∷ s))) s)

-- the list without the white space at its end
unfoldable pub trim_end : List ℕ → List ℕ
trim_end s = keep 0 s

-- the list without the white space at its two ends
unfoldable pub trim : List ℕ → List ℕ
trim s = trim_end (trim_start s)
