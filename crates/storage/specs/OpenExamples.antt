-- Worked examples of openings and lookups, each by computing: the opening of 01's replay program, with its partition looked up, and
-- openings that are refused for two reasons at once, where the lower number is told.
use Rattle.std.specs.Prelude.{◌≡◌, refl, [], ◌∷◌, Some, None, Ok, Err}
use Rattle.text.specs.Utf8.{begins, any_of, utf8_1, utf8_2, utf8_3, utf8_4, utf8_char, first_of, char_len, octets, is_utf8}
use Rattle.text.specs.Trim.{white_space, code_point, blank_len, lead, trim_start, keep, trim_end, trim}
use Rattle.text.specs.Token.{until, same, ascii}
use Rattle.storage.specs.declared.types.Refusal.TheVariants.{Buffer, ChipSize, Geometry, Scratch}
use Rattle.storage.specs.Partition.{Lists, lists, parts_of, parts, total, part_ok, all, lists_ok, table_end, end_of, find, wanted, lookup}
use Rattle.storage.specs.Open.{one_of, page_ok, pages_ok, geometry_ok, nor_size, chip_ok, numbers_ok, scratch_ok, nor_store, opened_nor, opened_nand}

-- the partition of the replay program
abbrev app : Lists
app = lists (8192 ∷ []) (8192 ∷ []) (3 ∷ []) (ascii "app")

pub replay_opens : opened_nor 32768 4096 app 0x40000000 4096 0 0 ≡ Ok (nor_store 32768 16384 0 0)
unfolding opened_nor nor_size lists_ok parts parts_of total all part_ok table_end end_of scratch_ok is_utf8 octets char_len first_of utf8_char utf8_1 any_of begins
replay_opens = refl

-- a name is trimmed and ends at the first semicolon
pub replay_finds : (lookup app (ascii " app ;x") ≡ Ok (Some 8192)) × (lookup app (ascii "ap") ≡ Ok None)
unfolding lookup lists_ok parts parts_of total all part_ok find wanted same until is_utf8 octets char_len first_of utf8_char utf8_1 utf8_2 utf8_3 utf8_4 any_of begins trim trim_start trim_end lead keep blank_len code_point white_space
replay_finds = (refl, refl)

-- a short buffer before a wrong size; a wrong size before a scratch that is too high; wrong numbers before that
pub refusals :
    (opened_nor 32769 4095 app 0x40000000 4096 0 0 ≡ Err Buffer)
    × (opened_nor 32769 4096 app 0xFFFFFFFF 4096 0 0 ≡ Err ChipSize)
    × (opened_nand 65536 2048 16 2 3 65536 app 0xFFFFFFFF 4096 0 0 ≡ Err Geometry)
    × (opened_nand 65536 2048 16 2 2 65536 app 0xFFFFFFFF 4096 0 0 ≡ Err Scratch)
unfolding opened_nor opened_nand nor_size numbers_ok geometry_ok page_ok pages_ok one_of chip_ok lists_ok parts parts_of total all part_ok scratch_ok is_utf8 octets char_len first_of utf8_char utf8_1 any_of begins
refusals = (refl, refl, refl, refl)
