-- A status query alone in a write (01, 'Frame rules'): what its bytes ask, and what is answered.
use Rattle.std.specs.Prelude.{ℕ, cond, ◌&&◌, List, length, ◌==◌, Option, None, Some, Result}
use Rattle.wire.specs.Bytes.{laid}
use Rattle.wire.specs.Header.{parsed}
use Rattle.wire.specs.declared.header.Header.{Header}
use Rattle.engine.specs.declared.types.Engine.{Engine}
use Rattle.engine.specs.declared.exec.Group.{Group}
use Rattle.engine.specs.declared.exec.Group.TheVariants.{Memory, Shell, Storage, Plain}
use Rattle.engine.specs.declared.types.Failure.{Failure}
use Rattle.engine.specs.World.{World, world, with_said, Out, out_of}
use Rattle.engine.specs.Reply.{Placed, placing, status_is, header_is, length_is}
use Rattle.engine.specs.Command.{is_query, plain}
use Rattle.engine.specs.Exec.{group_of}

-- ---- what the bytes ask

-- of the queries, those that touch nothing but the reply
abbrev pub query_in : ℕ → Group → Option ℕ
query_in c Memory = None
query_in c Shell = None
query_in c Storage = None
query_in c Plain = Some c

-- without data
abbrev pub alone_by : Option Header → Option ℕ
alone_by None = None
alone_by (Some h) = cond (h.length == 0 && is_query h.command) (query_in h.command (group_of h.command)) None

-- a header and no more: the command of such a query
abbrev pub alone_of : List ℕ → Option ℕ
alone_of bytes = cond (length bytes == 16) (alone_by (parsed bytes)) None

-- ---- what is answered

-- the status of the write, the length of the reply, and the reply room
pub record Answer : Type 0 where
  pub status : ℕ
  pub len : ℕ
  pub reply : List ℕ

abbrev pub answered : Result ℕ Failure → List ℕ → Answer
answered x reply = record { status = status_is x; len = length_is x; reply = reply }

-- the data behind the header's place, then the header
abbrev pub answered_by : ℕ → Placed → Answer
answered_by c r = answered r.ended (laid r.reply 0 (header_is c r.ended))

unfoldable pub answer_of : ℕ → Engine → List ℕ → List ℕ → Answer
answer_of c e table reply = answered_by c (placing (plain c e table) reply)

-- the write of a query that is alone: its bytes stand in the request room, its reply waits, and all else is as it was
abbrev pub answers : World → List ℕ → Answer → Out
answers w bytes a =
    out_of a.status
    (world (with_said (record { len = a.len; pos = 0 }) w.e) (laid w.request 0 bytes) a.reply w.chip w.buffer w.scratch)
