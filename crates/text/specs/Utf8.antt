-- UTF-8 by the grammar of RFC 3629, section 4. Each definition names the rule of the grammar that it carries:
--     UTF8-octets = *( UTF8-char )
--     UTF8-char   = UTF8-1 / UTF8-2 / UTF8-3 / UTF8-4
--     UTF8-1      = %x00-7F
--     UTF8-2      = %xC2-DF UTF8-tail
--     UTF8-3      = %xE0 %xA0-BF UTF8-tail / %xE1-EC 2( UTF8-tail ) / %xED %x80-9F UTF8-tail / %xEE-EF 2( UTF8-tail )
--     UTF8-4      = %xF0 %x90-BF 2( UTF8-tail ) / %xF1-F3 3( UTF8-tail ) / %xF4 %x80-8F 2( UTF8-tail )
--     UTF8-tail   = %x80-BF
-- Assumes nothing.
use Rattle.std.specs.Prelude.{◌≡◌, ℕ, zero, suc, Bool, true, false, cond, ◌&&◌, ◌||◌, List, [], ◌∷◌, ◌++◌, nat_le}

-- a range of numbers: %xC2-DF is 0xC2 – 0xDF, and %xE0 is only 0xE0
pub data Range : Type 0 where
  ◌–◌ : ℕ → ℕ → Range

infix 68 ◌–◌
abbrev pub only : ℕ → Range
only b = b – b

abbrev pub within : ℕ → Range → Bool
within b (lo – hi) = nat_le lo b && nat_le b hi

-- the list begins with an octet of each range of the row
unfoldable pub begins : List ℕ → List Range → Bool
begins s [] = true
begins [] (r ∷ rs) = false
begins (b ∷ s) (r ∷ rs) = within b r && begins s rs

-- the test holds of one of the alternatives
unfoldable pub any_of : {A : Type 0} → (A → Bool) → List A → Bool
any_of p [] = false
any_of p (x ∷ xs) = p x || any_of p xs

-- UTF8-tail
abbrev pub tail : Range
tail = 0x80 – 0xBF

-- UTF8-1
unfoldable pub utf8_1 : List (List Range)
utf8_1 = (0x00 – 0x7F ∷ []) ∷ []

-- UTF8-2
unfoldable pub utf8_2 : List (List Range)
utf8_2 = (0xC2 – 0xDF ∷ tail ∷ []) ∷ []

-- UTF8-3
unfoldable pub utf8_3 : List (List Range)
utf8_3 =
    (only 0xE0 ∷ 0xA0 – 0xBF ∷ tail ∷ [])
    ∷ (0xE1 – 0xEC ∷ tail ∷ tail ∷ [])
    ∷ (only 0xED ∷ 0x80 – 0x9F ∷ tail ∷ [])
    ∷ (0xEE – 0xEF ∷ tail ∷ tail ∷ [])
    ∷ []

-- UTF8-4
unfoldable pub utf8_4 : List (List Range)
utf8_4 =
    (only 0xF0 ∷ 0x90 – 0xBF ∷ tail ∷ tail ∷ [])
    ∷ (0xF1 – 0xF3 ∷ tail ∷ tail ∷ tail ∷ [])
    ∷ (only 0xF4 ∷ 0x80 – 0x8F ∷ tail ∷ tail ∷ [])
    ∷ []

-- UTF8-char, as its alternatives
unfoldable pub utf8_char : List (List (List Range))
utf8_char = utf8_1 ∷ utf8_2 ∷ utf8_3 ∷ utf8_4 ∷ []

-- the number of the first alternative that the list begins with, where they are numbered from n on, and 0 where there is none
unfoldable pub first_of : ℕ → List (List (List Range)) → List ℕ → ℕ
first_of n [] s = 0
first_of n (rows ∷ more) s = cond (any_of (begins s) rows) n (first_of (suc n) more s)

-- how many octets the UTF8-char has that the list begins with, which is the number of its rule, and 0 where it begins with none
unfoldable pub char_len : List ℕ → ℕ
char_len s = first_of 1 utf8_char s

-- UTF8-octets, where the first k octets are the rest of a character that began before the list
unfoldable pub octets : ℕ → List ℕ → Bool
octets zero [] = true
octets (suc k) [] = false
octets (suc k) (b ∷ s) = octets k s
octets zero (b ∷ s) = elim (char_len (b ∷ s)) [ zero ↦ false | suc k ↦ octets k s ]

-- UTF8-octets
unfoldable pub is_utf8 : List ℕ → Bool
is_utf8 s = octets 0 s

-- ---- the lists that the grammar derives; proofs/Rfc3629.antt shows that these are the lists of which is_utf8 is true

-- the list is an octet of each range of the row, and no more
unfoldable pub fits : List ℕ → List Range → Bool
fits [] [] = true
fits [] (r ∷ rs) = false
fits (b ∷ c) [] = false
fits (b ∷ c) (r ∷ rs) = within b r && fits c rs

-- UTF8-char
unfoldable pub is_char : List ℕ → Bool
is_char c = any_of (any_of (fits c)) utf8_char

-- UTF8-octets = *( UTF8-char )
pub data Octets : List ℕ → Type 0 where
  empty : Octets []
  one_more : (c s : List ℕ) → is_char c ≡ true → Octets s → Octets (c ++ s)
