-- The tokens of a shell line (document 01, "Shell"): a token is the run of the line between two spaces, the line's ends count as
-- spaces, and a token may be empty. Rust's `line.split(' ')` gives the same list. Also the other parts of a text that end at a
-- byte (the `;` and the zero byte of a partition field), and the comparisons of texts.
-- Assumes nothing.
use Rattle.std.specs.Prelude.{ℕ, ◌+◌, Bool, true, false, cond, ◌&&◌, List, [], ◌∷◌, length, drop, ◌==◌, nat_lt, Option, None, Some}
use Prim.Native.Char.{code}
use Prim.Native.String.{String, [] as []ˢ, ◌∷◌ as ◌∷ˢ◌}

-- what stands before the first `stop`, or the whole where there is none
unfoldable pub until : ℕ → List ℕ → List ℕ
until stop [] = []
until stop (b ∷ s) = cond (b == stop) [] (b ∷ until stop s)

-- where the token that starts at a place ends
abbrev pub token_end : List ℕ → ℕ → ℕ
token_end line at = at + length (until 0x20 (drop at line))

-- where the next token starts: past the space there, and nowhere at the line's end
unfoldable pub place_after : List ℕ → ℕ → Option ℕ
place_after line at = cond (nat_lt (token_end line at) (length line)) (Some (token_end line at + 1)) None

-- all tokens of a line
abbrev pub on_first : ℕ → List (List ℕ) → List (List ℕ)
on_first b [] = (b ∷ []) ∷ []
on_first b (t ∷ ts) = (b ∷ t) ∷ ts

unfoldable pub tokens_of : List ℕ → List (List ℕ)
tokens_of [] = [] ∷ []
tokens_of (b ∷ s) = cond (b == 0x20) ([] ∷ tokens_of s) (on_first b (tokens_of s))

-- the tokens of a line from a place on
unfoldable pub rest_of : List ℕ → Option ℕ → List (List ℕ)
rest_of line (Some p) = tokens_of (drop p line)
rest_of line None = []

-- the bytes of a text in ASCII, for definitions that name a word
abbrev pub ascii : String → List ℕ
ascii []ˢ = []
ascii (c ∷ˢ s) = code c ∷ ascii s

-- the first text begins with the second
unfoldable pub starts_with : List ℕ → List ℕ → Bool
starts_with s [] = true
starts_with [] (b ∷ f) = false
starts_with (a ∷ s) (b ∷ f) = a == b && starts_with s f

-- the two texts are equal
unfoldable pub same : List ℕ → List ℕ → Bool
same [] [] = true
same [] (b ∷ t) = false
same (a ∷ s) [] = false
same (a ∷ s) (b ∷ t) = a == b && same s t
