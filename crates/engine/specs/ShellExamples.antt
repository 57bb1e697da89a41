-- Worked examples of the shell's definitions, each by computing: lines with and without all their tokens, the payload of a line, the
-- edges of scratch, a device table with and without room for its name.
use Rattle.std.specs.Prelude.{◌≡◌, true, false, [], ◌∷◌, ◌++◌, replicate, refl, None, Some}
use Rattle.text.specs.Utf8.{begins, any_of, utf8_1, utf8_2, utf8_3, utf8_4, utf8_char, first_of, char_len, octets, is_utf8}
use Rattle.text.specs.Trim.{white_space, code_point, blank_len, lead, trim_start, keep, trim_end, trim}
use Rattle.text.specs.Number.{digit_of, digits, some, signed, is_hex, numeral, number_in}
use Rattle.text.specs.Token.{tokens_of, ascii, starts_with, same}
use Rattle.wire.specs.Bytes.{bytes_of, le, word_at, laid}
use Rattle.engine.specs.Shell.{text_of, is_write, is_reset, done_words, word_of, line_of, window_of, boot_words, boot_name, boot_table}
use Rattle.engine.specs.declared.shell.Line.TheVariants.{Done, Erase, Write, Boot}

-- ---- lines

-- all tokens there, the id empty and one token too many, a number missing, a space before the word, numbers in both forms
pub lines :
    (line_of (ascii "bdwrite spi0 4096 0x200 0x40000000") ≡ Some (Write 4096 0x200 0x40000000))
    × (line_of (ascii "bderase  0x1000 +7 more") ≡ Some (Erase 0x1000 7))
    × (line_of (ascii "bderase 0 0x1000") ≡ None)
    × (line_of (ascii " reset") ≡ None)
    × (line_of (ascii "reset now") ≡ Some Done)
    × (line_of (ascii "get_bootdevice 0X40000100 82") ≡ Some (Boot 0x40000100 82))
unfolding begins any_of utf8_1 utf8_2 utf8_3 utf8_4 utf8_char first_of char_len white_space code_point blank_len lead trim_start keep trim_end trim digit_of digits some signed is_hex numeral number_in tokens_of same done_words word_of line_of
lines = (refl, refl, refl, refl, refl, refl)

-- `is_write` looks at the first bytes alone, `is_reset` at the first token
pub flags :
    (is_write (ascii "bdwriter") ≡ true)
    × (is_write (ascii "bdread 0 0 0 0") ≡ false)
    × (is_reset (ascii "reset now") ≡ true)
    × (is_reset (ascii "resets") ≡ false)
    × (is_reset (ascii " reset") ≡ false)
unfolding starts_with same tokens_of is_reset
flags = (refl, refl, refl, refl, refl)

-- a line of five bytes with one more behind it, one byte missing, and one that is not UTF-8
pub payloads :
    (text_of (5 ∷ 0 ∷ 0 ∷ 0 ∷ ascii "reset!") ≡ Some 5)
    × (text_of (5 ∷ 0 ∷ 0 ∷ 0 ∷ ascii "rese") ≡ None)
    × (text_of (1 ∷ 0 ∷ 0 ∷ 0 ∷ 0x80 ∷ []) ≡ None)
    × (text_of (0 ∷ 0 ∷ 0 ∷ []) ≡ None)
unfolding begins any_of utf8_1 utf8_2 utf8_3 utf8_4 utf8_char first_of char_len octets is_utf8 le word_at
payloads = (refl, refl, refl, refl)

-- ---- scratch of 4,096 bytes at 0x40000000: below it, its first byte, its last byte with the length cut, its end

pub windows :
    (window_of 0x40000000 4096 0x3FFFFFFF 2 ≡ None)
    × (window_of 0x40000000 4096 0x40000000 2 ≡ Some (record { place = 0; len = 2 }))
    × (window_of 0x40000000 4096 0x40000FFF 2 ≡ Some (record { place = 4095; len = 1 }))
    × (window_of 0x40000000 4096 0x40001000 0 ≡ None)
windows = (refl, refl, refl, refl)

-- ---- device tables: room for the name, whose address wraps; no room for it, and none for the last word

pub table_whole :
    boot_table 0xFFFFFFF0 0x10 4096 0x1_0000_8000 (replicate 0x52 7)
    ≡ (1 ∷ 0 ∷ 0 ∷ 0 ∷ replicate 4 0) ++ (2 ∷ 0 ∷ 0 ∷ 0 ∷ replicate 12 0)
    ++ (0 ∷ 16 ∷ 0 ∷ 0 ∷ 0 ∷ 16 ∷ 0 ∷ 0 ∷ 0 ∷ 128 ∷ 0 ∷ 0 ∷ 0x40 ∷ 0 ∷ 0 ∷ 0 ∷ replicate 24 0)
    ++ ascii "artinchip spi-nor" ++ (0 ∷ [])
unfolding bytes_of laid boot_words boot_name boot_table
table_whole = refl

pub table_short : boot_table 0 0 4096 0x8000 (replicate 0x23 7) ≡ (1 ∷ 0 ∷ 0 ∷ 0 ∷ replicate 4 0) ++ (2 ∷ 0 ∷ 0 ∷ 0 ∷ replicate 12 0) ++ (0 ∷ 16 ∷ 0 ∷ 0 ∷ 0 ∷ 16 ∷ 0 ∷ 0 ∷ replicate 3 0)
unfolding bytes_of laid boot_words boot_name boot_table
table_short = refl
