-- Addition modulo 2, bit by bit, is associative and commutative.
use Rattle.std.proofs.Common.{◌≡◌, ℕ, ◌+◌, ◌*◌, ◌/◌, ◌%◌, ◌^◌, ◌<◌}
use lib.Bits.{xor_assoc, xor_shr, xor_mod, xor_comm, xor_zero_r, xor_self, xor_shifted}
use Rattle.wire.specs.Crc.{◌⊕◌}

pub ⊕_assoc : (a b c : ℕ) → (a ⊕ b) ⊕ c ≡ a ⊕ (b ⊕ c)
unfolding ◌⊕◌
⊕_assoc a b c = xor_assoc a b c

pub ⊕_comm : (a b : ℕ) → a ⊕ b ≡ b ⊕ a
unfolding ◌⊕◌
⊕_comm a b = xor_comm a b

pub ⊕_half : (a b : ℕ) → (a ⊕ b) / 2 ≡ a / 2 ⊕ b / 2
unfolding ◌⊕◌
⊕_half a b = xor_shr a b 1

pub ⊕_odd : (a b : ℕ) → (a ⊕ b) % 2 ≡ a % 2 ⊕ b % 2
unfolding ◌⊕◌
⊕_odd a b = xor_mod a b 1

pub ⊕_shr : (a b k : ℕ) → (a ⊕ b) / 2 ^ k ≡ a / 2 ^ k ⊕ b / 2 ^ k
unfolding ◌⊕◌
⊕_shr a b k = xor_shr a b k

pub ⊕_zero : (a : ℕ) → a ⊕ 0 ≡ a
unfolding ◌⊕◌
⊕_zero a = xor_zero_r a

pub ⊕_self : (a : ℕ) → a ⊕ a ≡ 0
unfolding ◌⊕◌
⊕_self a = xor_self a

-- a number shifted past another is joined to it
pub ⊕_shifted : (a k b : ℕ) → b < 2 ^ k → a * 2 ^ k ⊕ b ≡ a * 2 ^ k + b
unfolding ◌⊕◌
⊕_shifted a k b = xor_shifted a k b
