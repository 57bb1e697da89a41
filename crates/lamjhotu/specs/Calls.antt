-- The exported calls: the engine's own, on a record that lies in bytes (01, 'Replies and refusals', row 9).
use Rattle.std.specs.Prelude.{Option, None, Some, Result, Ok, Err, Bool, ◌&&◌, cond, List, ℕ, ◌+◌, ◌-◌, ◌^◌, min, leb, ltb, eqb, length, replicate, take, drop}
use Rattle.std.proofs.lemmas.List.Edits.{sets}
use Rattle.wire.specs.Bytes.{word_at, laid}
use Rattle.storage.specs.declared.types.CallError.{CallError}
use Rattle.storage.specs.World as storage
use Rattle.storage.specs.Open.{in_bounds, parts_fit, scratch_ok}
use Rattle.engine.specs.declared.types.Engine.{Engine}
use Rattle.engine.specs.World.{Given, world, with_said, with_up, with_store, Out}
use Rattle.engine.specs.Api.{rooms_ok, engine_ok, Opening, writes, Read, reads, cleared}
use Rattle.engine.specs.Stream.{taken}
use Rattle.engine.specs.Short.{Answer, alone_of}
use Rattle.lamjhotu.specs.declared.quick.Way.{Way}
use Rattle.lamjhotu.specs.declared.quick.Way.TheVariants.{Query, Piece, Whole}
use Rattle.lamjhotu.specs.State.{flag_of, pack_over, update_at, unpack_of}

-- what a call answers, and the bytes of the state
pub record Told : Type 0 where
  pub number : ℕ
  pub state : List ℕ

abbrev pub told : ℕ → List ℕ → Told
told n s = record { number = n; state = s }

-- a state is long enough
abbrev pub holds : List ℕ → Bool
holds s = leb 652 (length s)

-- the state with a record packed over its front
abbrev pub kept : List ℕ → Engine → List ℕ
kept s e = laid s 0 (pack_over s e)

-- as an opening leaves it: what stood there does not matter
abbrev pub newly : List ℕ → Engine → List ℕ
newly s e = kept (laid s 0 (replicate 140 0)) e

-- ---- openings

-- the record is kept where the opening answers 0
abbrev pub open_by : List ℕ → Opening → Told
open_by s o = cond (eqb o.number 0) (told 0 (newly s o.e)) (told o.number s)

unfoldable pub opens : List ℕ → Opening → Told
opens s o = cond (holds s) (open_by s o) (told 9 s)

-- ---- write

-- what a write answers, the state, and every room that it may change
pub record Wrote : Type 0 where
  pub number : ℕ
  pub state : List ℕ
  pub request : List ℕ
  pub reply : List ℕ
  pub chip : List ℕ
  pub buffer : List ℕ
  pub scratch : List ℕ

abbrev pub wrote : ℕ → List ℕ → List ℕ → List ℕ → List ℕ → List ℕ → List ℕ → Wrote
wrote n s q p c b x = record { number = n; state = s; request = q; reply = p; chip = c; buffer = b; scratch = x }

-- the record is kept unless the write was refused
abbrev pub saved_by : List ℕ → ℕ → Engine → Told
saved_by s n e = told n (cond (eqb n 9) s (kept s e))

abbrev pub wrote_by : List ℕ → Out → Wrote
wrote_by s o = wrote o.status (saved_by s o.status o.w.e).state o.w.request o.w.reply o.w.chip o.w.buffer o.w.scratch

unfoldable pub writes_in : Given → List ℕ → List ℕ → List ℕ → List ℕ → List ℕ → List ℕ → List ℕ → Wrote
writes_in g s q p c b x d = cond (holds s) (wrote_by s (writes g (world (unpack_of s) q p c b x) d)) (wrote 9 s q p c b x)

-- ---- read

-- the number that tells a refusal from a count
abbrev pub number_of : Result ℕ CallError → ℕ
number_of (Err e) = 2 ^ 32 - 1
number_of (Ok n) = n

-- the record is kept unless the read was refused
abbrev pub state_by : List ℕ → Engine → Result ℕ CallError → List ℕ
state_by s e (Err x) = s
state_by s e (Ok n) = kept s e

-- what a read answers, the state, and the room
pub record Took : Type 0 where
  pub number : ℕ
  pub state : List ℕ
  pub room : List ℕ

abbrev pub took : ℕ → List ℕ → List ℕ → Took
took n s room = record { number = n; state = s; room = room }

abbrev pub took_by : List ℕ → Read → Took
took_by s r = took (number_of r.got) (state_by s r.e r.got) r.room

unfoldable pub reads_in : Given → List ℕ → List ℕ → List ℕ → List ℕ → List ℕ → List ℕ → List ℕ → Took
reads_in g s q p c b x room = cond (holds s) (took_by s (reads g (world (unpack_of s) q p c b x) room)) (took (2 ^ 32 - 1) s room)

-- ---- reset and the flags

unfoldable pub resets : List ℕ → Told
resets s = cond (holds s) (told 0 (kept s (cleared (unpack_of s)))) (told 9 s)

unfoldable pub upgrading_of : List ℕ → ℕ
upgrading_of s = cond (holds s) (flag_of (unpack_of s).upgrading) 9

unfoldable pub asked_of : List ℕ → ℕ
asked_of s = cond (holds s) (flag_of (unpack_of s).asked) 9

-- ---- the same on the state's bytes, as the code goes

-- row 9 but for the lists: the rooms' lengths, the record, and the lengths of all else that is lent
unfoldable pub fits_but : Engine → ℕ → ℕ → ℕ → ℕ → ℕ → ℕ → Bool
fits_but e request reply chip buffer scratch marks =
    rooms_ok request reply && (engine_ok e && ((in_bounds e.store && parts_fit e.store chip marks buffer) && scratch_ok e.base scratch))

-- the frame's length and the stream's rest are both the frame's total: of a record in bounds, all are 0
unfoldable pub idle_of : List ℕ → Bool
idle_of s = eqb (word_at 8 s 0) (word_at 8 s 8) && eqb (word_at 8 s 48) (word_at 8 s 8)

-- what the answer to a query leaves: a status, the state, the request room and the reply room
pub record Asked : Type 0 where
  pub number : ℕ
  pub state : List ℕ
  pub request : List ℕ
  pub reply : List ℕ

abbrev pub asks : ℕ → List ℕ → List ℕ → List ℕ → Asked
asks n s q p = record { number = n; state = s; request = q; reply = p }

abbrev pub asked : List ℕ → List ℕ → List ℕ → Answer → Asked
asked s q bytes a = asks a.status (kept s (with_said (record { len = a.len; pos = 0 }) (unpack_of s))) (laid q 0 bytes) a.reply

-- what a piece of a stream leaves: the state, the chip and the buffer
pub record Pieced : Type 0 where
  pub state : List ℕ
  pub chip : List ℕ
  pub buffer : List ℕ

abbrev pub pieced : List ℕ → List ℕ → List ℕ → Pieced
pieced s c b = record { state = s; chip = c; buffer = b }

-- the piece is counted, by what the storage was told of it
abbrev pub piece_by : List ℕ → List ℕ → storage.Told → Pieced
piece_by s bytes t =
    pieced (kept s (with_up (taken bytes t.count (update_at s)) (with_store t.dev.store (unpack_of s)))) t.dev.chip t.dev.buf

-- bytes that do not end the stream they belong to
unfoldable pub piece_in : List ℕ → List ℕ → Bool
piece_in s bytes = ltb 0 (length bytes) && ltb (length bytes) (word_at 8 s 48)

-- what a write is to an engine in bounds
abbrev pub way_by : Option ℕ → Way
way_by None = Whole
way_by (Some c) = Query c

unfoldable pub way_of : List ℕ → List ℕ → Way
way_of s bytes = cond (piece_in s bytes) Piece (cond (idle_of s) (way_by (alone_of bytes)) Whole)

-- the next bytes of the reply
abbrev pub next_of : List ℕ → List ℕ → List ℕ → ℕ → Took
next_of s p room n =
    took n (kept s (with_said (record { len = word_at 8 s 16; pos = word_at 8 s 24 + n }) (unpack_of s))) (sets room 0 (take n (drop (word_at 8 s 24) p)))

unfoldable pub next_by : List ℕ → List ℕ → List ℕ → Took
next_by s p room = next_of s p room (min (word_at 8 s 16 - word_at 8 s 24) (length room))
