-- Little-endian words: a number as bytes, the lowest first, and the number that bytes make.
-- What protocol.rs takes from `to_le_bytes`, `from_le_bytes` and `copy_from_slice`.
use Rattle.std.specs.Prelude.{ℕ, zero, suc, ◌+◌, ◌*◌, ◌/◌, ◌%◌, cond, List, [], ◌∷◌, length, take, drop, nat_le}
use Rattle.std.proofs.lemmas.List.Edits.{sets}

-- the n lowest bytes of x
unfoldable pub bytes_of : ℕ → ℕ → List ℕ
bytes_of zero x = []
bytes_of (suc n) x = x % 256 ∷ bytes_of n (x / 256)

-- the number whose bytes are the list
unfoldable pub le : List ℕ → ℕ
le [] = 0
le (b ∷ s) = b + 256 * le s

-- the number of n bytes from a place on; what lies past the end counts as zeros
unfoldable pub word_at : ℕ → List ℕ → ℕ → ℕ
word_at n s at = le (take n (drop at s))

-- the list with xs laid over it from a place on; as it was where xs does not fit
unfoldable pub laid : List ℕ → ℕ → List ℕ → List ℕ
laid s at xs = cond (nat_le (at + length xs) (length s)) (sets s at xs) s
