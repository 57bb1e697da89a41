-- Worked examples of the partition field of the metadata, each by computing.
use Rattle.std.specs.Prelude.{◌≡◌, [], ◌∷◌, ◌++◌, replicate, refl}
use Rattle.text.specs.Utf8.{begins, any_of, utf8_1, utf8_2, utf8_3, utf8_4, utf8_char, first_of, char_len, octets, is_utf8}
use Rattle.text.specs.Token.{ascii, until}
use Rattle.engine.specs.Storing.{partition_field}

-- a name with its zero; sixty-four bytes with none, of which no further one counts; a name that is not UTF-8; no name
pub fields :
    (partition_field (replicate 0x48 7 ++ ascii "os" ++ (0 ∷ 0x33 ∷ replicate 60 0) ++ replicate 40 7) ≡ ascii "os")
    × (partition_field (replicate 0x48 7 ++ replicate 64 0x61 ++ replicate 40 0x61) ≡ replicate 64 0x61)
    × (partition_field (replicate 0x48 7 ++ (0x6F ∷ 0x80 ∷ 0 ∷ []) ++ replicate 61 0) ≡ [])
    × (partition_field (replicate 0x48 7 ++ (0 ∷ 0x6F ∷ []) ++ replicate 62 0) ≡ [])
unfolding begins any_of utf8_1 utf8_2 utf8_3 utf8_4 utf8_char first_of char_len octets is_utf8 until partition_field
fields = (refl, refl, refl, refl)
