-- 01's twelve lines for the definitions: one statement, `twelve`, over one table. A line of the table is what the definitions give and
-- what 01 says, each as a list of numbers. Every line is calls of the whole engine, the one of 01's replay program from its opening on: it
-- is given bytes by `writes` and asked by `reads`. So a checksum is that of the reply that is read (P2 to P5, P7), the CRC-32 is also the one
-- that GET_FWC_CRC answers for bytes that SEND_FWC_DATA brought (P8, P9), a length is taken or refused by the write that brings its header
-- (P6, P10, P11), and a number of the shell is how many bytes its line moved (P12). Each line holds by computing.
use Rattle.std.specs.Prelude.{◌≡◌, refl, List, [], ◌∷◌, ◌++◌, ℕ, ◌+◌, length, take, replicate}
use Rattle.text.specs.Utf8.{begins, any_of, utf8_1, utf8_2, utf8_3, utf8_4, utf8_char, first_of, char_len, octets, is_utf8}
use Rattle.text.specs.Trim.{white_space, code_point, blank_len, lead, trim_start, keep, trim_end, trim}
use Rattle.text.specs.Number.{digit_of, digits, some, signed, is_hex, numeral, number_in}
use Rattle.text.specs.Token.{ascii, until, tokens_of, same}
use Rattle.wire.specs.Bytes.{bytes_of, le, word_at}
use Rattle.wire.specs.Crc.{◌⊕◌, shift, shifts, byte_in, crc_from, complement, crc_update, crc32}
use Rattle.wire.specs.Header.{request_magic, checksum_of, header_of, accepted, parsed}
use Rattle.storage.specs.World.{lent}
use Rattle.storage.specs.Partition.{lists, parts_of, parts, total, part_ok, all, lists_ok, table_end, end_of}
use Rattle.storage.specs.Open as opens
use Rattle.storage.specs.Open.{one_of, nor_size, scratch_ok, held_ok, in_bounds, parts_fit, block_size_of}
use Rattle.storage.specs.Chip.{failing, able, over, fetched}
use Rattle.storage.specs.Nor.{flushes, read_out}
use Rattle.storage.specs.Store.{good, by_good, flushing, reading}
use Rattle.storage.specs.Scratch.{in_k, into_scratch}
use Rattle.engine.specs.World.{Given, given, World, world, Out}
use Rattle.engine.specs.Reply.{sent, status_by, reply_by, replied, ends}
use Rattle.engine.specs.Command.{long_by, long_of, plain, read_of}
use Rattle.engine.specs.Storing.{crc_query, probed, partition_field, target_of, aims, set_meta}
use Rattle.engine.specs.Shell.{is_reset, done_words, word_of, line_of}
use Rattle.engine.specs.Running.{run_read, run_line, shell}
use Rattle.engine.specs.Exec.{memory, storing, runs, performs, execs}
use Rattle.engine.specs.Stream as stream
use Rattle.engine.specs.Stream.{burn_by, fed, settled, finishes, streams}
use Rattle.engine.specs.Frame.{ripens, heads, fills, gathers}
use Rattle.engine.specs.Feed.{turns, then_by, goes, feeds}
use Rattle.engine.specs.Api.{up_ok, engine_ok, fits, opened_nor, writes, Read, reads, got_numbers}

-- ---- the engine of the replay program

-- no chip call is told to fail, no marks, one partition, no table text
abbrev lends : Given
lends = given (lent [] []) (lists (8192 ∷ []) (8192 ∷ []) (3 ∷ []) (ascii "app")) []

-- as it is opened, with scratch of n bytes
abbrev opened : ℕ → World
opened n =
    world (opened_nor 8208 4112 32768 4096 lends.lists 0x40000000 n 0 0).e (replicate 8208 0) (replicate 4112 0) (replicate 32768 255)
    (replicate 4096 0) (replicate n 0)

-- a write to it; a read of what waits after a write, into a room of 64 bytes, which are not zeros
abbrev wrote : List ℕ → Out
wrote bytes = writes lends (opened 4096) bytes

abbrev heard : Out → Read
heard o = reads lends o.w (replicate 0x40 7)

-- ---- requests

-- the header of a request
abbrev asks : ℕ → ℕ → List ℕ
asks c len = header_of request_magic c 0 len

-- READ of so many bytes from scratch's base on
abbrev ask_read : ℕ → List ℕ
ask_read n = asks 0x03 8 ++ bytes_of 4 0x40000000 ++ bytes_of 4 n

-- metadata that name no partition: without some, SEND_FWC_DATA is refused
abbrev metadata : List ℕ
metadata = asks 0x10 512 ++ ascii "META" ++ replicate 508 0

-- a shell line
abbrev shell_line : List ℕ → List ℕ
shell_line s = asks 0x05 (4 + length s) ++ bytes_of 4 (length s) ++ s

-- ---- what is seen of a call

-- 01's numbers of a read's answer, and the bytes that it counts
abbrev read_by : Read → ℕ × ℕ → List ℕ
read_by r (number, count) = number ∷ count ∷ take count r.room

-- the status of a write, and the read behind it
abbrev both_of : Out → List ℕ
both_of o = o.status ∷ read_by (heard o) (got_numbers (heard o).got)

-- the checksum of the reply
abbrev sum_of : Out → List ℕ
sum_of o = word_at 4 (heard o).room 12 ∷ []

-- the status of a write, how many bytes of a frame are gathered and of how many, and how many of a stream are to come
abbrev state_of : Out → List ℕ
state_of o = o.status ∷ o.w.e.frame.len ∷ o.w.e.frame.total ∷ o.w.e.up.left ∷ []

-- the CRC-32 of some bytes, and the word that GET_FWC_CRC answers after they were sent
abbrev crcs_of : List ℕ → List ℕ
crcs_of bytes = crc32 bytes ∷ word_at 4 (heard (wrote (metadata ++ asks 0x12 (length bytes) ++ bytes ++ asks 0x13 0))).room 16 ∷ []

-- how many bytes of scratch are filled from the flash, whose bytes are 0xFF, before the first that is still zero
abbrev filled_of : Out → List ℕ
filled_of o = length (until 0 o.w.scratch) ∷ []

-- ---- the table

-- P1 writes these bytes and reads those
abbrev asked : List ℕ
asked = 0x55 ∷ 0x50 ∷ 0x47 ∷ 0x43 ∷ 0x01 ∷ 0x01 ∷ 0x13 ∷ 0x00 ∷ 0x00 ∷ 0x00 ∷ 0x00 ∷ 0x00 ∷ 0x56 ∷ 0x51 ∷ 0x5A ∷ 0x43 ∷ []

abbrev answer : List ℕ
answer =
    0x55 ∷ 0x50 ∷ 0x47 ∷ 0x52 ∷ 0x01 ∷ 0x01 ∷ 0x13 ∷ 0x00 ∷ 0x04 ∷ 0x00 ∷ 0x00 ∷ 0x00 ∷ 0x5A ∷ 0x51 ∷ 0x5A ∷ 0x52 ∷ 0x00 ∷ 0x00 ∷ 0x00 ∷ 0x00 ∷ []

-- what the definitions give, and what 01 says
abbrev pub Line : Type 0
Line = List ℕ × List ℕ

-- the twelve lines in 01's order, P1 to P12
abbrev pub table : List Line
table =
    -- P1, the replay pair: status 0; no refusal, 20 bytes, and these
    (both_of (wrote asked), 0 ∷ 0 ∷ 20 ∷ answer)
    -- P2, FREE_MEM_BUF
    ∷ (sum_of (wrote (asks 0x09 0)), 0x52505156 ∷ [])
    -- P3, command 0x06
    ∷ (sum_of (wrote (asks 0x06 0)), 0x534D51C2 ∷ [])
    -- P4, READ that fails, for it has no payload
    ∷ (sum_of (wrote (asks 0x03 0)), 0x534A5156 ∷ [])
    -- P5, the odd reply: READ of 4,097 bytes, which scratch has
    ∷ (sum_of (writes lends (opened 4112) (ask_read 4097)), 0x00010101 ∷ [])
    -- P6, SEND_FWC_DATA with length 2^32-1: its checksum, and that it is taken
    ∷ (word_at 4 (asks 0x12 0xFFFFFFFF) 12 ∷ state_of (wrote (metadata ++ asks 0x12 0xFFFFFFFF)), 0x43595155 ∷ 0 ∷ 0 ∷ 0 ∷ 0xFFFFFFFF ∷ [])
    -- P7, GET_BLOCK_SIZE
    ∷ (sum_of (wrote (asks 0x11 0)), 0x5258515A ∷ [])
    -- P8 and P9, the CRC-32 of `123456789` and of nothing
    ∷ (crcs_of (ascii "123456789"), 0xCBF43926 ∷ 0xCBF43926 ∷ [])
    ∷ (crcs_of [], 0 ∷ 0 ∷ [])
    -- P10, a data length of 8,192: status 0, and the frame is to have 8,208 bytes; P11, one of 8,193: status 1, and the request is empty
    ∷ (state_of (wrote (asks 0x09 8192)), 0 ∷ 16 ∷ 8208 ∷ 0 ∷ [])
    ∷ (state_of (wrote (asks 0x09 8193)), 1 ∷ 0 ∷ 0 ∷ 0 ∷ [])
    -- P12, as the length of a move from flash to scratch
    ∷ (filled_of (wrote (shell_line (ascii "bdread mtd 0 0x+1F 0x40000000"))), 31 ∷ [])
    ∷ []

-- each line of a table holds
pub data Holds : List Line → Type 0 where
  none : Holds []
  ◌&◌ : {l : Line} {ls : List Line} → l.0 ≡ l.1 → Holds ls → Holds (l ∷ ls)

infixr 40 ◌&◌
-- THE STATEMENT: the definitions give what 01 says, line by line
pub twelve : Holds table
unfolding begins any_of utf8_1 utf8_2 utf8_3 utf8_4 utf8_char first_of char_len octets is_utf8 white_space code_point blank_len lead trim_start keep trim_end trim digit_of digits some signed is_hex numeral number_in until tokens_of same bytes_of le word_at ◌⊕◌ shift shifts byte_in crc_from complement crc_update crc32 checksum_of header_of accepted parsed parts_of parts total part_ok all lists_ok table_end end_of opens.opened_nor one_of nor_size scratch_ok held_ok in_bounds parts_fit block_size_of failing able over fetched flushes read_out good by_good flushing reading in_k into_scratch sent status_by reply_by replied ends long_by long_of plain read_of crc_query probed partition_field target_of aims set_meta is_reset done_words word_of line_of run_read run_line shell memory storing runs performs execs stream.begins fed settled finishes streams ripens heads fills gathers turns then_by goes feeds up_ok engine_ok fits opened_nor writes reads
twelve = refl & refl & refl & refl & refl & refl & refl & refl & refl & refl & refl & refl & none
