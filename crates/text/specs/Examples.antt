-- Worked examples of the definitions, each by computing: line P12 of document 01, the edges of numbers, examples of RFC 3629,
-- white space at both ends, and an empty token.
-- Assumes nothing.
use Rattle.std.specs.Prelude.{◌≡◌, true, false, [], ◌∷◌, None, Some}
use Rattle.std.specs.Prelude.{refl}
use Rattle.text.specs.Utf8.{begins, any_of, utf8_1, utf8_2, utf8_3, utf8_4, utf8_char, first_of, char_len, octets, is_utf8}
use Rattle.text.specs.Trim.{white_space, code_point, blank_len, lead, trim_start, keep, trim_end, trim}
use Rattle.text.specs.Number.{digit_of, digits, some, signed, is_hex, numeral, number_in}
use Rattle.text.specs.Token.{until, place_after, tokens_of, ascii}

-- ---- RFC 3629, sections 7 and 10

-- A, not identical to, Alpha, full stop; and the character U+233B4 behind a byte order mark
pub utf8_yes : (is_utf8 (0x41 ∷ 0xE2 ∷ 0x89 ∷ 0xA2 ∷ 0xCE ∷ 0x91 ∷ 0x2E ∷ []) ≡ true) × (is_utf8 (0xEF ∷ 0xBB ∷ 0xBF ∷ 0xF0 ∷ 0xA3 ∷ 0x8E ∷ 0xB4 ∷ []) ≡ true)
unfolding begins any_of utf8_1 utf8_2 utf8_3 utf8_4 utf8_char first_of char_len octets is_utf8
utf8_yes = (refl, refl)

-- an overlong zero, a surrogate, and a character that is cut off
pub utf8_no : (is_utf8 (0xC0 ∷ 0x80 ∷ []) ≡ false) × (is_utf8 (0xED ∷ 0xA0 ∷ 0x80 ∷ []) ≡ false) × (is_utf8 (0x41 ∷ 0xE2 ∷ 0x89 ∷ []) ≡ false)
unfolding begins any_of utf8_1 utf8_2 utf8_3 utf8_4 utf8_char first_of char_len octets is_utf8
utf8_no = (refl, refl, refl)

-- ---- white space: U+3000, `a`, tab, `b`, U+2028, U+0085

pub trim_both : trim (0xE3 ∷ 0x80 ∷ 0x80 ∷ 0x61 ∷ 0x09 ∷ 0x62 ∷ 0xE2 ∷ 0x80 ∷ 0xA8 ∷ 0xC2 ∷ 0x85 ∷ []) ≡ 0x61 ∷ 0x09 ∷ 0x62 ∷ []
unfolding begins any_of utf8_1 utf8_2 utf8_3 utf8_4 utf8_char first_of char_len white_space code_point blank_len lead trim_start keep trim_end trim
trim_both = refl

-- ---- numbers

pub p12 : number_in (ascii "0x+1F") ≡ Some 31
unfolding begins any_of utf8_1 utf8_2 utf8_3 utf8_4 utf8_char first_of char_len white_space code_point blank_len lead trim_start keep trim_end trim digit_of digits some signed is_hex numeral number_in
p12 = refl

-- the largest number, one more, `+` alone, the sign on the wrong side of `0x`, and white space at both ends
pub numbers :
    (number_in (ascii "18446744073709551615") ≡ Some 18446744073709551615)
    × (number_in (ascii "18446744073709551616") ≡ None)
    × (number_in (ascii "+") ≡ None)
    × (number_in (ascii "+0x1F") ≡ None)
    × (number_in (ascii " 7 ") ≡ Some 7)
unfolding begins any_of utf8_1 utf8_2 utf8_3 utf8_4 utf8_char first_of char_len white_space code_point blank_len lead trim_start keep trim_end trim digit_of digits some signed is_hex numeral number_in
numbers = (refl, refl, refl, refl, refl)

-- ---- tokens

pub empty_token : tokens_of (ascii "a  b") ≡ ascii "a" ∷ [] ∷ ascii "b" ∷ []
unfolding tokens_of
empty_token = refl

-- the same by the places that the caller keeps
pub places : (place_after (ascii "a  b") 0 ≡ Some 2) × (place_after (ascii "a  b") 2 ≡ Some 3) × (place_after (ascii "a  b") 3 ≡ None)
unfolding until place_after
places = (refl, refl, refl)
