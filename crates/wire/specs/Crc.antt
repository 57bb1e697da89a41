-- CRC-32 of ITU-T V.42, 8.1.1.6.2 (the 32-bit frame check sequence), as a shift register: what protocol.rs calls `crc32_update`.
--
-- The Recommendation divides the content, as a polynomial over the numbers modulo 2, by the generator polynomial
--   x^32 + x^26 + x^23 + x^22 + x^16 + x^12 + x^11 + x^10 + x^8 + x^7 + x^5 + x^4 + x^2 + x + 1
-- in a register that is preset to all ones, and sends the ones complement of the remainder. A byte's lowest bit goes first, so the
-- register is kept mirrored: the coefficient of x^e stands at the bit 31 - e, and a bit falls out at the low end.
use Rattle.std.specs.Prelude.{◌≡◌, ℕ, zero, suc, ◌+◌, ◌-◌, ◌*◌, ◌/◌, ◌%◌, ◌^◌, List, [], ◌∷◌, bit_xor, refl}

-- the sum modulo 2 of two registers, bit by bit
unfoldable pub ◌⊕◌ : ℕ → ℕ → ℕ
a ⊕ b = bit_xor a b

infixl 60 ◌⊕◌
-- the register that has a one at each of some powers of x
mirrored : List ℕ → ℕ
mirrored [] = 0
mirrored (e ∷ es) = 2 ^ (31 - e) + mirrored es

-- the generator polynomial without x^32, which is what falls out
generator : mirrored (26 ∷ 23 ∷ 22 ∷ 16 ∷ 12 ∷ 11 ∷ 10 ∷ 8 ∷ 7 ∷ 5 ∷ 4 ∷ 2 ∷ 1 ∷ 0 ∷ []) ≡ 0xEDB88320
unfolding mirrored
generator = refl

-- one shift: where a one falls out, the generator polynomial is added
unfoldable pub shift : ℕ → ℕ
shift r = r / 2 ⊕ r % 2 * 0xEDB88320

unfoldable pub shifts : ℕ → ℕ → ℕ
shifts zero r = r
shifts (suc n) r = shifts n (shift r)

-- a byte goes in at the low end
unfoldable pub byte_in : ℕ → ℕ → ℕ
byte_in r b = shifts 8 (r ⊕ b)

-- the register after a run of bytes
unfoldable pub crc_from : ℕ → List ℕ → ℕ
crc_from r [] = r
crc_from r (b ∷ bs) = crc_from (byte_in r b) bs

-- the ones complement
unfoldable pub complement : ℕ → ℕ
complement r = r ⊕ 0xFFFFFFFF

-- the checksum of what has the checksum c and of more bytes: the register starts at all ones and is complemented at the end, so a
-- checksum is continued by complementing it first
unfoldable pub crc_update : ℕ → List ℕ → ℕ
crc_update c bs = complement (crc_from (complement c) bs)

-- the checksum of a run of bytes
unfoldable pub crc32 : List ℕ → ℕ
crc32 bs = crc_update 0 bs
