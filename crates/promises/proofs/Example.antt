-- A run that meets every condition of the promise, so that none of them is empty: the engine of 01's replay program, over a chip whose
-- first call is told to fail. A read of the flash fails on that, a packet that is longer than its room resets the engine, a damaged header
-- is refused; then comes an update of three bytes, cut within its metadata's header, between its frames' bytes and within its payload, with
-- a read between, and behind it both queries in one write.
use Rattle.std.specs.Prelude.{◌≡◌, refl, List, [], ◌∷◌, ◌++◌, ℕ, ◌+◌, ◌≤◌, min, ltb, length, take, drop, get_or, replicate}
use Rattle.std.proofs.Common.{ap, arith}
use Rattle.std.proofs.lemmas.List.{length-replicate}
use Rattle.text.specs.Utf8.{begins, any_of, utf8_1, utf8_2, utf8_3, utf8_4, utf8_char, first_of, char_len, octets, is_utf8}
use Rattle.text.specs.Trim.{white_space, code_point, blank_len, lead, trim_start, keep, trim_end, trim}
use Rattle.text.specs.Token.{ascii, until, same}
use Rattle.wire.specs.Bytes.{bytes_of, le, word_at}
use Rattle.wire.specs.Header.{request_magic, checksum_of, header_of, accepted, parsed}
use Rattle.storage.specs.World.{lent}
use Rattle.storage.specs.Partition.{lists, parts_of, parts, total, part_ok, all, lists_ok, table_end, end_of, wanted, find, lookup}
use Rattle.storage.specs.Open as opens
use Rattle.storage.specs.Open.{one_of, nor_size, scratch_ok, held_ok, in_bounds, parts_fit}
use Rattle.storage.specs.Chip.{failing, able, fetched}
use Rattle.storage.specs.Nor.{flushes, read_out}
use Rattle.storage.specs.Store.{good, by_good, flushing, reading}
use Rattle.storage_laws.specs.Faults.{QuietFrom}
use Rattle.engine.specs.World.{Given, given, World, world}
use Rattle.engine.specs.Reply.{status_by, reply_by, replied, ends}
use Rattle.engine.specs.Storing.{read_fwc, partition_field, target_of}
use Rattle.engine.specs.Exec.{storing, runs, performs, execs}
use Rattle.engine.specs.Frame.{ripens, heads, fills, gathers}
use Rattle.engine.specs.Feed.{turns, then_by, goes, feeds}
use Rattle.engine.specs.Api.{up_ok, engine_ok, fits, fresh, no_store, opened_nor, writes}
use Rattle.engine_laws.specs.Bounds.{Call, write, read, after_all, nor_opening}
use Rattle.transport.specs.Step.{fails, commands, steps}
use Rattle.promises.specs.Runs.{Act, call, packet, acted_all}
use Rattle.promises.specs.Frames.{Between}
use Rattle.promises.specs.Cuts.{Answered}
use Rattle.promises.specs.Update.{MetaFrame, SendFrame, Landed, placed_at}
use Rattle.promises.specs.Queries.{crc, burn, Queries, Replied}
use Rattle.promises.specs.Promise.{here}
use Rattle.promises.proofs.Promise.{promise, promise_queries}

-- ---- the engine, and what went before

-- the first chip call is told to fail, and no other
abbrev lends : Given
lends = given (lent (1 ∷ 0 ∷ []) []) (lists (8192 ∷ []) (8192 ∷ []) (3 ∷ []) (ascii "app")) []

abbrev room : World
room = world (fresh 0 no_store) (replicate 8208 0) (replicate 4112 0) (replicate 32768 255) (replicate 4096 0) (replicate 4096 0)

pub accepts : (nor_opening lends room 0x40000000 0 0).number ≡ 0
unfolding begins any_of utf8_1 utf8_2 utf8_3 utf8_4 utf8_char first_of char_len octets is_utf8 bytes_of le word_at checksum_of header_of accepted parsed parts_of parts total part_ok all lists_ok table_end end_of opens.opened_nor one_of nor_size scratch_ok held_ok in_bounds parts_fit failing able fetched flushes read_out good by_good flushing reading status_by reply_by replied ends read_fwc storing runs performs execs ripens heads fills gathers turns then_by goes feeds up_ok engine_ok fits opened_nor writes steps commands fails
accepts = refl

-- the header of a request
abbrev asks : ℕ → ℕ → List ℕ
asks c len = header_of request_magic c 0 len

-- READ_FWC_DATA of 16 bytes; a packet of 32 bytes, where a CBW has 31; a damaged header
abbrev acts : List Act
acts =
    call (write (asks 0x18 8 ++ bytes_of 4 0 ++ bytes_of 4 16)) ∷ packet (replicate 4125 0) (replicate 32 0) ∷ call (write (replicate 16 0)) ∷ []

abbrev start : World
start = here lends room 0x40000000 0 0 accepts acts

between : Between start.e
unfolding acted_all begins any_of utf8_1 utf8_2 utf8_3 utf8_4 utf8_char first_of char_len octets is_utf8 bytes_of le word_at checksum_of header_of accepted parsed parts_of parts total part_ok all lists_ok table_end end_of opens.opened_nor one_of nor_size scratch_ok held_ok in_bounds parts_fit failing able fetched flushes read_out good by_good flushing reading status_by reply_by replied ends read_fwc storing runs performs execs ripens heads fills gathers turns then_by goes feeds up_ok engine_ok fits opened_nor writes steps commands fails
between = record { len = refl; total = refl; left = refl }

-- one chip call was made, and it failed
one_call : start.e.store.calls ≡ 1
unfolding acted_all begins any_of utf8_1 utf8_2 utf8_3 utf8_4 utf8_char first_of char_len octets is_utf8 bytes_of le word_at checksum_of header_of accepted parsed parts_of parts total part_ok all lists_ok table_end end_of opens.opened_nor one_of nor_size scratch_ok held_ok in_bounds parts_fit failing able fetched flushes read_out good by_good flushing reading status_by reply_by replied ends read_fwc storing runs performs execs ripens heads fills gathers turns then_by goes feeds up_ok engine_ok fits opened_nor writes steps commands fails
one_call = refl

quiet : QuietFrom (1 ∷ 0 ∷ []) start.e.store.calls
unfolding failing
quiet k h = let m : min k 1 ≡ 1 = omega (arith, one_call) in ap (λ (j : ℕ). ltb 0 (get_or (1 ∷ 0 ∷ []) j 0)) m

-- ---- the update

abbrev payload : List ℕ
payload = 1 ∷ 2 ∷ 3 ∷ []

-- metadata that name the partition `app`, 512 bytes, and the frame of the payload
abbrev metadata : List ℕ
metadata = ascii "META" ++ replicate 68 0 ++ ascii "app" ++ replicate 437 0

abbrev first : List ℕ
first = asks 0x10 512 ++ metadata

abbrev second : List ℕ
second = asks 0x12 3 ++ payload

is_metadata : MetaFrame lends 8192 first
unfolding header_of bytes_of le word_at checksum_of accepted parsed same target_of partition_field until lookup parts_of is_utf8 octets char_len first_of utf8_char utf8_1 utf8_2 utf8_3 utf8_4 any_of begins trim trim_start trim_end lead keep blank_len code_point white_space lists_ok total all parts part_ok find wanted
is_metadata =
    record {
      head = asks 0x10 512;
      body = metadata;
      is = refl;
      sixteen = refl;
      status = 0;
      says = refl;
      most = omega arith;
      least = omega arith;
      meta = refl;
      found = refl;
    }

is_send : SendFrame payload second
unfolding header_of bytes_of le word_at checksum_of accepted parsed
is_send = record { head = asks 0x12 3; is = refl; sixteen = refl; status = 0; says = refl }

-- a write that ends within the first header, a read, a write that ends within the second, and one that ends within the payload; then the rest
abbrev pieces : List Call
pieces =
    write (take 5 first) ∷ read (replicate 64 0) ∷ write (drop 5 first ++ take 7 second) ∷ read (replicate 64 0) ∷ write (take 10 (drop 7 second)) ∷ []

abbrev rest : List ℕ
rest = drop 17 second

covers : 8192 + 3 ≤ length room.chip
covers = omega (arith, length-replicate {A = ℕ} 32768 255)

-- the promise of this run
pub example : Answered lends start pieces × Landed payload (placed_at 8192 payload (writes lends start first).w.chip) (writes lends (after_all lends start pieces) rest)
unfolding header_of bytes_of checksum_of
example =
    promise lends room 0x40000000 0 0 accepts acts between quiet 8192 payload first second is_metadata is_send covers pieces rest tt (omega arith) refl

-- ---- the queries behind it

-- both, one behind the other
abbrev asked : List ℕ
asked = asks 0x13 0 ++ asks 0x14 0

are_queries : Queries crc (burn ∷ []) asked
unfolding header_of bytes_of le word_at checksum_of accepted parsed
are_queries = (
  asks 0x13 0,
  asks 0x14 0,
  refl,
  record { head = asks 0x13 0; body = []; is = refl; sixteen = refl; status = 0; says = refl; most = omega arith },
  record { head = asks 0x14 0; body = []; is = refl; sixteen = refl; status = 0; says = refl; most = omega arith },
)

-- a read of the update's reply, and then the queries in two writes
abbrev looks : List Call
looks = read (replicate 64 0) ∷ write (take 21 asked) ∷ []

-- the promise of these
pub example_queries :
    (let v = (writes lends (after_all lends start pieces) rest).w in
    Answered lends v looks × Replied payload (placed_at 8192 payload (writes lends start first).w.chip) burn (writes lends (after_all lends v looks) (drop 21 asked)))
unfolding header_of bytes_of checksum_of
example_queries =
    promise_queries lends room 0x40000000 0 0 accepts acts between quiet 8192 payload first second is_metadata is_send covers pieces rest tt (omega arith) refl crc (burn ∷ []) asked
    are_queries looks (drop 21 asked) tt (omega arith) refl
