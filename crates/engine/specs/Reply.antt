-- Replies (01, 'Replies and refusals', 'Frame rules'; protocol.rs `begin_response`, `finish_response`, `fail_response`,
-- `unsupported_response`): a header, and behind it the data.
use Rattle.std.specs.Prelude.{ℕ, ◌+◌, Bool, true, false, cond, List, [], ◌++◌, length, replicate, nat_le, Result, Ok, Err}
use Rattle.std.proofs.lemmas.List.Edits.{sets}
use Rattle.wire.specs.Bytes.{laid}
use Rattle.wire.specs.Header.{reply_magic, header_of}
use Rattle.engine.specs.declared.types.Failure.{Failure}
use Rattle.engine.specs.declared.types.Failure.TheVariants.{Failed, Unsupported, Odd}
use Rattle.engine.specs.World.{World, with_said, at_e, at_reply, Out, out_of}

-- what a command answers: data, a fail reply, that it is not known, or more data than a reply takes (1e)
pub data Answer : Type 0 where
  ok : List ℕ → Answer
  fail : Answer
  unsupported : Answer
  odd : Answer

-- data of at most 4,096 bytes are sent, and more give the odd reply
unfoldable pub sent : List ℕ → Answer
sent bytes = cond (nat_le (length bytes) 4096) (ok bytes) odd

-- the status of the write that brought the command
unfoldable pub status_by : Answer → ℕ
status_by (ok bytes) = 0
status_by fail = 1
status_by unsupported = 0
status_by odd = 1

-- the bytes that wait
unfoldable pub reply_by : ℕ → Answer → List ℕ
reply_by command (ok bytes) = header_of reply_magic command 0 (length bytes) ++ bytes
reply_by command fail = header_of reply_magic command 1 0
reply_by command unsupported = header_of reply_magic command 1 108 ++ replicate 108 0
reply_by command odd = header_of 0 1 0 0

-- the reply stands at the front of the reply room, and none of it was read
unfoldable pub replied : ℕ → Answer → World → World
replied command a w =
    at_e (with_said (record { len = length (reply_by command a); pos = 0 }) w.e) (at_reply (sets w.reply 0 (reply_by command a)) w)

-- a command's end: its reply replaces the one that waits
unfoldable pub ends : ℕ → Answer → World → Out
ends command a w = out_of (status_by a) (replied command a w)

-- OK with no data, or a fail reply
abbrev pub whether : Bool → Answer
whether true = ok []
whether false = fail

-- what a command answers, and the world that it leaves
pub record Ran : Type 0 where
  pub answer : Answer
  pub w : World

abbrev pub ran : Answer → World → Ran
ran a w = record { answer = a; w = w }

-- ---- the same as the code goes: a command lays its data behind the header's place and says how it ended; then the header is laid

abbrev pub ended_by : Answer → Result ℕ Failure
ended_by (ok bytes) = Ok (length bytes)
ended_by fail = Err Failed
ended_by unsupported = Err Unsupported
ended_by odd = Err Odd

abbrev pub placed : Answer → List ℕ → List ℕ
placed (ok bytes) reply = laid reply 16 bytes
placed fail reply = reply
placed unsupported reply = laid reply 16 (replicate 108 0)
placed odd reply = reply

-- how a command ended, and the reply room
pub record Placed : Type 0 where
  pub ended : Result ℕ Failure
  pub reply : List ℕ

abbrev pub place : Result ℕ Failure → List ℕ → Placed
place x reply = record { ended = x; reply = reply }

abbrev pub placing : Answer → List ℕ → Placed
placing a reply = place (ended_by a) (placed a reply)

-- how a command ended, and the world
pub record Gone : Type 0 where
  pub ended : Result ℕ Failure
  pub w : World

abbrev pub gone : Result ℕ Failure → World → Gone
gone x w = record { ended = x; w = w }

abbrev pub going : Ran → Gone
going r = gone (ended_by r.answer) (at_reply (placed r.answer r.w.reply) r.w)

-- the status, the header and the length of a reply by how the command ended
abbrev pub status_is : Result ℕ Failure → ℕ
status_is (Ok n) = 0
status_is (Err Failed) = 1
status_is (Err Unsupported) = 0
status_is (Err Odd) = 1

abbrev pub header_is : ℕ → Result ℕ Failure → List ℕ
header_is command (Ok n) = header_of reply_magic command 0 n
header_is command (Err Failed) = header_of reply_magic command 1 0
header_is command (Err Unsupported) = header_of reply_magic command 1 108
header_is command (Err Odd) = header_of 0 1 0 0

abbrev pub length_is : Result ℕ Failure → ℕ
length_is (Ok n) = 16 + n
length_is (Err Failed) = 16
length_is (Err Unsupported) = 124
length_is (Err Odd) = 16

abbrev pub ends_by : ℕ → Result ℕ Failure → World → Out
ends_by command x w =
    out_of (status_is x) (at_e (with_said (record { len = length_is x; pos = 0 }) w.e) (at_reply (laid w.reply 0 (header_is command x)) w))
