-- The register's shift is linear; a run of bytes goes in one part after the other; a checksum is continued.
use Rattle.std.proofs.Common.{◌≡◌, ℕ, zero, suc, ◌+◌, ◌-◌, ◌*◌, ◌/◌, ◌%◌, ◌^◌, ◌<◌, ◌≤◌, List, [], ◌∷◌, ◌++◌, length, get_or, drop, sym, refl, ap, ◌∙◌, ap₂, mod-lt, zero-lt-suc, suc-add, zero-add, mul-one, add-one, arith, drop_of_length-le, drop-cons, pow_pos}
use lib.Bits.{xor_add_and, and_mask, shifted_half, shifted_even}
use lib.Pow.{split}
use Rattle.wire.specs.Crc.{◌⊕◌, shift, shifts, byte_in, crc_from, complement, crc_update}
use Rattle.wire.proofs.Xor.{⊕_self, ⊕_assoc, ⊕_comm, ⊕_half, ⊕_odd, ⊕_zero, ⊕_shifted}

-- the polynomial taken as often as two bits say
taken : (x y : ℕ) → x < 2 → y < 2 → (x ⊕ y) * 0xEDB88320 ≡ x * 0xEDB88320 ⊕ y * 0xEDB88320
unfolding ◌⊕◌
taken zero zero hx hy = refl
taken zero (suc zero) hx hy = refl
taken (suc zero) zero hx hy = refl
taken (suc zero) (suc zero) hx hy = refl
taken zero (suc (suc y)) hx hy = absurd (omega arith)
taken (suc zero) (suc (suc y)) hx hy = absurd (omega arith)
taken (suc (suc x)) y hx hy = absurd (omega arith)

pub shift-⊕ : (a b : ℕ) → shift (a ⊕ b) ≡ shift a ⊕ shift b
unfolding shift
shift-⊕ a b =
    rw (⊕_half, ⊕_odd, taken (a % 2) (b % 2) (mod-lt a (zero-lt-suc 1)) (mod-lt b (zero-lt-suc 1))) (simp (⊕_assoc, ⊕_comm))

pub shifts-⊕ : (n a b : ℕ) → shifts n (a ⊕ b) ≡ shifts n a ⊕ shifts n b
unfolding shifts
shifts-⊕ zero a b = refl
shifts-⊕ (suc n) a b = ap (shifts n) (shift-⊕ a b) ∙ shifts-⊕ n (shift a) (shift b)

-- shifts after shifts
pub shifts_add : (m n x : ℕ) → shifts n (shifts m x) ≡ shifts (m + n) x
unfolding shifts
shifts_add zero n x = ap (λ (k : ℕ). shifts k x) (sym (zero-add n))
shifts_add (suc m) n x = shifts_add m n (shift x) ∙ ap (λ (k : ℕ). shifts k x) (sym (suc-add m n))

-- zeros fall out
pub shifts_out : (n a : ℕ) → shifts n (a * 2 ^ n) ≡ a
unfolding shifts shift
shifts_out zero a = mul-one a
shifts_out (suc n) a =
    ap (shifts n) (ap₂ (λ (h o : ℕ). h ⊕ o * 0xEDB88320) (shifted_half a n) (shifted_even a n) ∙ ⊕_zero (a * 2 ^ n)) ∙ shifts_out n a

-- the n shifts of a number are its higher bits and the shifts of its n lowest
pub shifts_split : (n x : ℕ) → shifts n x ≡ x / 2 ^ n ⊕ shifts n (x % 2 ^ n)
shifts_split n x =
    ap (shifts n) (sym (split x n) ∙ sym (⊕_shifted (x / 2 ^ n) n (x % 2 ^ n) (mod-lt x (pow_pos n))))
    ∙ shifts-⊕ n (x / 2 ^ n * 2 ^ n) (x % 2 ^ n)
    ∙ ap (λ (h : ℕ). h ⊕ shifts n (x % 2 ^ n)) (shifts_out n (x / 2 ^ n))

-- ---- a run of bytes

pub crc_next : (s : List ℕ) (i r : ℕ) → i < length s → crc_from (byte_in r (get_or s i 0)) (drop (i + 1) s) ≡ crc_from r (drop i s)
unfolding crc_from
crc_next s i r h = rw (add-one, drop-cons s i 0)

pub crc_end : (s : List ℕ) (i r : ℕ) → length s ≤ i → crc_from r (drop i s) ≡ r
unfolding crc_from
crc_end s i r h = ap (crc_from r) (drop_of_length-le s h)

pub crc_append : (a b : List ℕ) (r : ℕ) → crc_from r (a ++ b) ≡ crc_from (crc_from r a) b
unfolding crc_from
crc_append [] b r = refl
crc_append (x ∷ a) b r = crc_append a b (byte_in r x)

-- ---- the complement

-- the code's complement is the definition's
pub not_is : (r : ℕ) → r < 2 ^ 32 → 0xFFFFFFFF - r ≡ complement r
unfolding complement ◌⊕◌
not_is r h = omega (arith, xor_add_and r 0xFFFFFFFF, and_mask r 32)

complement_twice : (r : ℕ) → complement (complement r) ≡ r
unfolding complement
complement_twice r = ⊕_assoc r 0xFFFFFFFF 0xFFFFFFFF ∙ ap (λ (x : ℕ). r ⊕ x) (⊕_self 0xFFFFFFFF) ∙ ⊕_zero r

-- THE LAW: a checksum is continued
pub crc_continues : (c : ℕ) (a b : List ℕ) → crc_update c (a ++ b) ≡ crc_update (crc_update c a) b
unfolding crc_update
crc_continues c a b =
    ap complement (crc_append a b (complement c) ∙ ap (λ (x : ℕ). crc_from x b) (sym (complement_twice (crc_from (complement c) a))))
