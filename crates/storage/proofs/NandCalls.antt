-- Laws of what the NAND chip's calls leave: a page program byte by byte from the front, and bytes of 0xFF.
use mathlib.Core.Path.{◌≡◌, refl, ap, ◌∙◌}
use mathlib.Core.List.{List, [], ◌∷◌}
use Prim.Native.Nat.{ℕ, zero, suc, ◌+◌, ◌<◌, ◌≤◌}
use native.Mathlib.Nat.{not-suc-le-zero, le_of_suc-le-suc}
use native.Mathlib.Numerals.{add-one}
use native.Mathlib.Omega.{arith}
use lib.Bits.{bit_and}
use lib.ListN.{length, take, drop, set, get_or, length-replicate, length-take, length-drop}
use Rattle.storage.specs.Nand.{blanks, kept}

-- ---- a page program

-- the first n bytes of it, as the loop goes
unfoldable pub kept_to : ℕ → List ℕ → List ℕ → List ℕ
kept_to zero old new = old
kept_to (suc n) [] new = []
kept_to (suc n) (x ∷ old) [] = x ∷ old
kept_to (suc n) (x ∷ old) (y ∷ new) = bit_and x y ∷ kept_to n old new

kept_suc : (n : ℕ) (old new : List ℕ) → n < length old → n < length new
    → set (kept_to n old new) n (bit_and (get_or (kept_to n old new) n 0) (get_or new n 0)) ≡ kept_to (suc n) old new
unfolding kept_to
kept_suc zero [] new h k = absurd (not-suc-le-zero h)
kept_suc zero (x ∷ old) [] h k = absurd (not-suc-le-zero k)
kept_suc zero (x ∷ old) (y ∷ new) h k = refl
kept_suc (suc n) [] new h k = absurd (not-suc-le-zero h)
kept_suc (suc n) (x ∷ old) [] h k = absurd (not-suc-le-zero k)
kept_suc (suc n) (x ∷ old) (y ∷ new) h k = ap (λ (r : List ℕ). bit_and x y ∷ r) (kept_suc n old new (le_of_suc-le-suc h) (le_of_suc-le-suc k))

pub kept_more : (n : ℕ) (old new : List ℕ) → n < length old → n < length new
    → set (kept_to n old new) n (bit_and (get_or (kept_to n old new) n 0) (get_or new n 0)) ≡ kept_to (n + 1) old new
kept_more n old new h k = rw add-one (kept_suc n old new h k)

kept_all : (old new : List ℕ) → kept_to (length old) old new ≡ kept old new
unfolding kept_to kept
kept_all [] new = refl
kept_all (x ∷ old) [] = refl
kept_all (x ∷ old) (y ∷ new) = ap (λ (r : List ℕ). bit_and x y ∷ r) (kept_all old new)

pub kept_whole : (n : ℕ) (old new : List ℕ) → n ≡ length old → kept_to n old new ≡ kept old new
kept_whole n old new e = rw e (kept_all old new)

-- a program leaves as many bytes as there were
pub length_kept : (old new : List ℕ) → length (kept old new) ≡ length old
unfolding kept
length_kept [] new = refl
length_kept (x ∷ old) [] = refl
length_kept (x ∷ old) (y ∷ new) = ap suc (length_kept old new)

-- as many bytes as are programmed, where they lie within the chip
pub length_page : (a : ℕ) (xs l : List ℕ) → a + length xs ≤ length l → length (kept (take (length xs) (drop a l)) xs) ≡ length xs
length_page a xs l h = length_kept (take (length xs) (drop a l)) xs ∙ simp (length-take, length-drop) (omega arith)

-- ---- a block of 0xFF

pub length_blanks : (n : ℕ) → length (blanks n) ≡ n
unfolding blanks
length_blanks n = length-replicate {A = ℕ} n 255
