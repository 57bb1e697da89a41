-- Laws of little-endian words. A word of four or eight bytes is the sum that the code forms of them, and a number that is laid
-- down as bytes is read back. The missing bytes of a short list are zeros on both sides, so no law asks for a length.
use Rattle.std.proofs.Common.{◌≡◌, ℕ, zero, suc, ◌+◌, ◌-◌, ◌*◌, ◌/◌, ◌%◌, ◌^◌, ◌<◌, List, [], ◌∷◌, length, get_or, take, drop, sym, refl, ap, ◌∙◌, le_of_lt, zero-lt-suc, mul_comm, add_comm, pow-suc, arith, lit<, length-drop, drop_of_length-le, take_all, drop-drop}
use native.Mathlib.Nat.{mod-one, one-le-pow}
use borrow.Rule.Slice.PartAt.{part_to_end}
use lib.Arith.{mod-mul}
use lib.Seq.{take-nil}
use Rattle.wire.specs.Bytes.{bytes_of, le}

-- ---- the sums

pub four : (s : List ℕ) → get_or s 0 0 + 256 * (get_or s 1 0 + 256 * (get_or s 2 0 + 256 * get_or s 3 0)) ≡ le (take 4 s)
unfolding le
four [] = refl
four (a ∷ []) = refl
four (a ∷ b ∷ []) = refl
four (a ∷ b ∷ c ∷ []) = refl
four (a ∷ b ∷ c ∷ d ∷ s) = omega arith

pub two : (s : List ℕ) → ((k : ℕ) → get_or s k 0 < 256) → le (take 4 s) % 65536 ≡ le (take 2 s)
unfolding le
two [] h = refl
two (a ∷ []) h = omega (arith, h 0)
two (a ∷ b ∷ []) h = omega (arith, h 0, h 1)
two (a ∷ b ∷ c ∷ []) h = omega (arith, h 0, h 1)
two (a ∷ b ∷ c ∷ d ∷ s) h = omega (arith, h 0, h 1)

-- the upper half of eight bytes stands 32 bits up
pub halves : (s : List ℕ) → le (take 4 s) + 0x1_0000_0000 * le (take 4 (drop 4 s)) ≡ le (take 8 s)
unfolding le
halves [] = refl
halves (a ∷ []) = omega arith
halves (a ∷ b ∷ []) = omega arith
halves (a ∷ b ∷ c ∷ []) = omega arith
halves (a ∷ b ∷ c ∷ d ∷ s) = omega arith

-- the word at a place: past the end it is 0, and eight bytes are two words of four
pub past : (n : ℕ) (s : List ℕ) (at : ℕ) → length s < at → le (take n (drop at s)) ≡ 0
unfolding le
past n s at h = rw (drop_of_length-le s (le_of_lt h), take-nil)

-- the part of a slice from a place on
pub ruleset rests = (part_to_end)

pub eight_at : (s : List ℕ) (at : ℕ) → le (take 4 (drop at s)) + 0x1_0000_0000 * le (take 4 (drop (at + 4) s)) ≡ le (take 8 (drop at s))
eight_at s at =
    ap (λ (t : List ℕ). le (take 4 (drop at s)) + 0x1_0000_0000 * le (take 4 t)) (sym (drop-drop 4 at s)) ∙ halves (drop at s)

pub eight_short : (s : List ℕ) (at : ℕ) → length s - at < 4 → le (take 4 (drop at s)) ≡ le (take 8 (drop at s))
eight_short s at h =
    rw (take_all 4 (drop at s) (rw length-drop (omega arith)), take_all 8 (drop at s) (rw length-drop (omega arith)))

-- ---- a number laid down is read back

-- the bytes of x make x again, as far as they go
pub le_bytes_of : (n x : ℕ) → le (bytes_of n x) ≡ x % 256 ^ n
unfolding le bytes_of
le_bytes_of zero x = sym (mod-one x)
le_bytes_of (suc n) x =
    ap (λ (y : ℕ). x % 256 + 256 * y) (le_bytes_of n (x / 256))
    ∙ add_comm (x % 256) (256 * (x / 256 % 256 ^ n))
    ∙ ap (λ (y : ℕ). y + x % 256) (mul_comm 256 (x / 256 % 256 ^ n))
    ∙ sym (mod-mul x (one-le-pow n 256 (lit< tt)) (zero-lt-suc 255))
    ∙ ap (λ (m : ℕ). x % m) (sym (pow-suc 256 n))
