-- The number that a token says, as `number` of shell.rs reads it (document 01, "Shell"): white space at the ends aside,
-- hexadecimal after 0x or 0X, else decimal; one + may stand before the digits; no digit, any other byte and 2^64 or more are refused.
-- Assumes nothing.
use Rattle.std.specs.Prelude.{ℕ, ◌+◌, ◌-◌, ◌*◌, ◌^◌, Bool, cond, List, [], ◌∷◌, drop, ◌==◌, nat_lt, Option, None, Some}
use Rattle.text.specs.Utf8.{◌–◌, only, within, begins, any_of}
use Rattle.text.specs.Trim.{trim}

-- 0 to 9, A to F, a to f; 16 for any other byte
unfoldable pub digit_of : ℕ → ℕ
digit_of b =
    cond (within b (0x30 – 0x39)) (b - 0x30) (cond (within b (0x41 – 0x46)) (b - 0x37) (cond (within b (0x61 – 0x66)) (b - 0x57) 16))

-- the number that the digits make behind those that made v
unfoldable pub digits : ℕ → ℕ → List ℕ → Option ℕ
digits base v [] = cond (nat_lt v (2 ^ 64)) (Some v) None
digits base v (b ∷ s) = cond (nat_lt (digit_of b) base) (digits base (v * base + digit_of b) s) None

-- at least one digit
unfoldable pub some : ℕ → List ℕ → Option ℕ
some base [] = None
some base (b ∷ s) = digits base 0 (b ∷ s)

-- one + may stand before them
unfoldable pub signed : ℕ → List ℕ → Option ℕ
signed base [] = None
signed base (b ∷ s) = cond (b == 0x2B) (some base s) (some base (b ∷ s))

-- 0x or 0X at the start
unfoldable pub is_hex : List ℕ → Bool
is_hex t = any_of (begins t) ((only 0x30 ∷ only 0x78 ∷ []) ∷ (only 0x30 ∷ only 0x58 ∷ []) ∷ [])

-- the number in a text that is trimmed
unfoldable pub numeral : List ℕ → Option ℕ
numeral t = cond (is_hex t) (signed 16 (drop 2 t)) (signed 10 t)

-- the number in a token
unfoldable pub number_in : List ℕ → Option ℕ
number_in s = numeral (trim s)
