-- Worked examples of the public calls, each by computing, on the engine of 01's replay program: its opening and one that is refused,
-- the replay pair (P1), a refused header, a write of no bytes, a write that is refused.
use Rattle.std.specs.Prelude.{◌≡◌, ℕ, List, [], ◌∷◌, ◌++◌, take, drop, replicate, refl, Ok, Err}
use Rattle.text.specs.Utf8.{begins, any_of, utf8_1, utf8_char, first_of, char_len, octets, is_utf8}
use Rattle.text.specs.Token.{ascii}
use Rattle.wire.specs.Bytes.{bytes_of, le, word_at}
use Rattle.wire.specs.Header.{checksum_of, header_of, accepted, parsed}
use Rattle.storage.specs.World.{lent}
use Rattle.storage.specs.Partition.{Lists, lists, parts_of, parts, total, part_ok, all, lists_ok, table_end, end_of}
use Rattle.storage.specs.Open as opens
use Rattle.storage.specs.Open.{one_of, nor_size, scratch_ok, held_ok, in_bounds, parts_fit, nor_store}
use Rattle.storage.specs.Nor.{flushes}
use Rattle.storage.specs.Store.{good, by_good, flushing}
use Rattle.engine.specs.declared.types.Engine.{Engine}
use Rattle.storage.specs.declared.types.CallError.TheVariants.{Refused}
use Rattle.engine.specs.World.{Given, given, World, world, at_e, Out, out_of}
use Rattle.engine.specs.Reply.{status_by, reply_by, replied, ends}
use Rattle.engine.specs.Storing.{crc_query, probed}
use Rattle.engine.specs.Exec.{storing, runs, performs, execs}
use Rattle.engine.specs.Frame.{ripens, heads, fills, gathers}
use Rattle.engine.specs.Feed.{turns, then_by, goes, feeds}
use Rattle.engine.specs.Api.{up_ok, engine_ok, fits, fresh, ready, refused, opened_nor, writes, reads}

-- ---- openings

-- the partition of the replay program
abbrev app : Lists
app = lists (8192 ∷ []) (8192 ∷ []) (3 ∷ []) (ascii "app")

abbrev engine : Engine
engine = fresh 0x40000000 (nor_store 32768 16384 0 0)

-- the replay program's; rooms of other sizes before a buffer that is too short; that
pub openings :
    (opened_nor 8208 4112 32768 4096 app 0x40000000 4096 0 0 ≡ ready engine)
    × (opened_nor 8207 4112 32768 4095 app 0x40000000 4096 0 0 ≡ refused 9)
    × (opened_nor 8208 4113 32768 4096 app 0x40000000 4096 0 0 ≡ refused 9)
    × (opened_nor 8208 4112 32768 4095 app 0x40000000 4096 0 0 ≡ refused 10)
unfolding opened_nor opens.opened_nor nor_size lists_ok parts parts_of total all part_ok table_end end_of scratch_ok is_utf8 octets char_len first_of utf8_char utf8_1 any_of begins
openings = (refl, refl, refl, refl)

-- ---- calls

-- no chip call is told to fail
abbrev lends : Given
lends = given (lent [] []) app []

abbrev start : World
start = world engine (replicate 8208 0) (replicate 4112 0) (replicate 32768 255) (replicate 4096 0) (replicate 4096 0)

-- the bytes that the replay pair writes, command 0x13, and those that it reads
abbrev asked : List ℕ
asked = 0x55 ∷ 0x50 ∷ 0x47 ∷ 0x43 ∷ 0x01 ∷ 0x01 ∷ 0x13 ∷ 0x00 ∷ 0x00 ∷ 0x00 ∷ 0x00 ∷ 0x00 ∷ 0x56 ∷ 0x51 ∷ 0x5A ∷ 0x43 ∷ []

abbrev answer : List ℕ
answer =
    0x55 ∷ 0x50 ∷ 0x47 ∷ 0x52 ∷ 0x01 ∷ 0x01 ∷ 0x13 ∷ 0x00 ∷ 0x04 ∷ 0x00 ∷ 0x00 ∷ 0x00 ∷ 0x5A ∷ 0x51 ∷ 0x5A ∷ 0x52 ∷ 0x00 ∷ 0x00 ∷ 0x00 ∷ 0x00 ∷ []

abbrev after : List ℕ → World → World
after d w = (writes lends w d).w

-- a write's status, how many bytes of a frame are gathered, and the reply that waits
abbrev shown : Out → ℕ × ℕ × List ℕ
shown o = (o.status, o.w.e.frame.len, take o.w.e.said.len o.w.reply)

-- P1, the write; the same in two cuts, of which the first is only gathered
pub replay_writes :
    (shown (writes lends start asked) ≡ (0, 0, answer))
    × (shown (writes lends start (take 5 asked)) ≡ (0, 5, []))
    × (shown (writes lends (after (take 5 asked) start) (drop 5 asked)) ≡ (0, 0, answer))
unfolding up_ok engine_ok fits writes good in_bounds parts_fit nor_size held_ok lists_ok parts parts_of total all part_ok scratch_ok is_utf8 octets char_len first_of utf8_char utf8_1 any_of begins bytes_of le word_at checksum_of header_of accepted parsed feeds goes then_by turns gathers fills heads ripens execs performs runs one_of storing crc_query probed flushing by_good flushes ends replied reply_by status_by
replay_writes = (refl, refl, refl)

-- the engine after a read into a room of so many bytes
abbrev past : ℕ → World → World
past n w = at_e (reads lends w (replicate n 7)).e w

-- P1, the read: twenty bytes into a room of 64, whose other bytes stay. A room of 12 takes twelve and the next the rest; then none wait
pub replay_reads :
    ((reads lends (after asked start) (replicate 64 7)).got ≡ Ok 20)
    × ((reads lends (after asked start) (replicate 64 7)).room ≡ answer ++ replicate 44 7)
    × ((reads lends (after asked start) (replicate 12 7)).room ≡ take 12 answer)
    × ((reads lends (past 12 (after asked start)) (replicate 64 7)).room ≡ drop 12 answer ++ replicate 56 7)
    × ((reads lends (past 64 (after asked start)) (replicate 64 7)).got ≡ Ok 0)
unfolding reads up_ok engine_ok fits writes good in_bounds parts_fit nor_size held_ok lists_ok parts parts_of total all part_ok scratch_ok is_utf8 octets char_len first_of utf8_char utf8_1 any_of begins bytes_of le word_at checksum_of header_of accepted parsed feeds goes then_by turns gathers fills heads ripens execs performs runs one_of storing crc_query probed flushing by_good flushes ends replied reply_by status_by
replay_reads = (refl, refl, refl, refl, refl)

-- a header that is refused leaves the reply that waits; a write of no bytes leaves all
pub kept :
    (shown (writes lends (after asked start) (replicate 16 0)) ≡ (1, 0, answer))
    × (writes lends start [] ≡ out_of 0 start)
unfolding up_ok engine_ok fits writes good in_bounds parts_fit nor_size held_ok lists_ok parts parts_of total all part_ok scratch_ok is_utf8 octets char_len first_of utf8_char utf8_1 any_of begins bytes_of le word_at checksum_of header_of accepted parsed feeds goes then_by turns gathers fills heads ripens execs performs runs one_of storing crc_query probed flushing by_good flushes ends replied reply_by status_by
kept = (refl, refl)

-- a request room that is a byte short, and the engine of a refused opening
pub refuses :
    (writes lends (world engine (replicate 8207 0) [] [] [] []) asked ≡ out_of 9 (world engine (replicate 8207 0) [] [] [] []))
    × (writes lends (at_e (refused 9).e start) asked ≡ out_of 9 (at_e (refused 9).e start))
    × (reads lends (at_e (refused 9).e start) (7 ∷ []) ≡ record { got = Err Refused; e = (refused 9).e; room = 7 ∷ [] })
unfolding reads up_ok engine_ok fits writes good in_bounds parts_fit nor_size held_ok lists_ok parts parts_of total all part_ok scratch_ok is_utf8 octets char_len first_of utf8_char utf8_1 any_of begins bytes_of le word_at checksum_of header_of accepted parsed feeds goes then_by turns gathers fills heads ripens execs performs runs one_of storing crc_query probed flushing by_good flushes ends replied reply_by status_by
refuses = (refl, refl, refl)
