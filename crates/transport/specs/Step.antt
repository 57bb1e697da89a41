-- One step of the transport: a packet comes, and what is sent, the states and the engine's rooms are as these say (01, 'Packets').
use Rattle.std.specs.Prelude.{Option, None, Some, Result, Ok, Err, Bool, true, false, ◌&&◌, cond, List, [], ◌++◌, ℕ, ◌-◌, min, leb, eqb, length, take, drop}
use Rattle.wire.specs.Bytes.{laid}
use Rattle.wire.specs.Packet.{cbw_of, csw_of}
use Rattle.wire.specs.declared.packet.Cbw.{Cbw}
use Rattle.storage.specs.World.{call_number}
use Rattle.storage.specs.declared.types.CallError.{CallError}
use Rattle.engine.specs.World.{Given, World, world, at_e, Out}
use Rattle.engine.specs.Api.{fits, writes, Read, reads, cleared}
use Rattle.engine.specs.declared.types.Engine.{Engine}
use Rattle.transport.specs.declared.port.Mode.{Mode}
use Rattle.transport.specs.declared.port.Mode.TheVariants.{Command, Data, Closed}
use Rattle.transport.specs.declared.port.Port.{Port}
use Rattle.transport.specs.declared.step.Csw.{Csw}
use Rattle.transport.specs.declared.step.Step as code
use Rattle.transport.specs.Port.{idle, awaiting, closing, room_of, took}

-- ---- what a step leaves

-- 0, or 9 where it is refused; the two states; how many bytes of data stand at the front of the room of sent packets, whether a CSW
-- stands behind them, its status and residue; and the room
pub record Step : Type 0 where
  pub number : ℕ
  pub port : Port
  pub w : World
  pub moved : ℕ
  pub csw : Bool
  pub status : ℕ
  pub residue : ℕ
  pub sent : List ℕ

abbrev pub step_of : ℕ → Port → World → ℕ → Bool → ℕ → ℕ → List ℕ → Step
step_of number p w n csw status residue sent =
    record { number = number; port = p; w = w; moved = n; csw = csw; status = status; residue = residue; sent = sent }

-- nothing is sent
abbrev pub silent : Port → World → List ℕ → Step
silent p w sent = step_of 0 p w 0 false 0 0 sent

-- a failed read: the engine is reset, no CSW, a CBW is next
unfoldable pub fails : World → List ℕ → Step
fails w sent = silent idle (at_e (cleared w.e) w) sent

-- the CSW of a valid CBW, behind n bytes of data
unfoldable pub ends : ℕ → ℕ → ℕ → ℕ → World → List ℕ → Step
ends tag status residue n w sent = step_of 0 (closing w.e.asked) w n true status residue (laid sent n (csw_of tag status residue))

-- ---- the same as the code has it

-- nothing is sent
abbrev pub quiet : Port → code.Step
quiet p = record { port = p; moved = 0; csw = None }

-- n bytes of data and the CSW of a command: the flag says whether the session closes
abbrev pub answered : Bool → ℕ → ℕ → ℕ → code.Step
answered asked n status residue = record { port = closing asked; moved = n; csw = Some (record { status = status; residue = residue }) }

-- what a step leaves that is not refused, by its CSW; the status and residue of none are 0
abbrev pub went_by : Port → World → ℕ → List ℕ → Option Csw → Step
went_by p w n sent None = step_of 0 p w n false 0 0 sent
went_by p w n sent (Some c) = step_of 0 p w n true c.status c.residue sent

abbrev pub went : code.Step → World → List ℕ → Step
went s w sent = went_by s.port w s.moved sent s.csw

-- what a call leaves, from the state before it, its answer, the record, request, reply, chip, buffer, scratch, and the room of sent
-- packets; an error has its number, and the state as it was
abbrev pub stepped : Port → Result code.Step CallError → Engine → List ℕ → List ℕ → List ℕ → List ℕ → List ℕ → List ℕ → Step
stepped port (Ok s) e q p c b x sent = went s (world e q p c b x) sent
stepped port (Err err) e q p c b x sent = step_of (call_number err) port (world e q p c b x) 0 false 0 0 sent

-- ---- a CBW

-- a bad one gets a CSW with tag 0, which never closes the session
unfoldable pub refuses : World → List ℕ → Step
refuses w sent = step_of 0 idle w 0 true 1 0 (laid sent 0 (csw_of 0 1 0))

-- a WRITE with no data is a write of no bytes; any other awaits its packets
abbrev pub wrote_by : ℕ → List ℕ → Out → Step
wrote_by tag sent o = ends tag o.status 0 0 o.w sent

unfoldable pub write_stage : Given → ℕ → ℕ → World → List ℕ → Step
write_stage g tag len w sent = cond (eqb len 0) (wrote_by tag sent (writes g w [])) (silent (awaiting tag len 0) w sent)

-- a READ sends what waits, up to its length; the residue is what was not moved
abbrev pub count_of : Result ℕ CallError → ℕ
count_of (Err e) = 0
count_of (Ok n) = n

abbrev pub took_by : ℕ → ℕ → World → List ℕ → Read → Step
took_by tag len w sent r = ends tag 0 (len - count_of r.got) (count_of r.got) (at_e r.e w) (r.room ++ drop (min len 4112) sent)

unfoldable pub read_stage : Given → ℕ → ℕ → World → List ℕ → Step
read_stage g tag len w sent = took_by tag len w sent (reads g w (take (min len 4112) sent))

-- WRITE is 1, READ 2; an unknown one has status 1 and the whole length as residue, and leaves the engine
abbrev pub cbw_by : Given → World → List ℕ → Option Cbw → Step
cbw_by g w sent None = refuses w sent
cbw_by g w sent (Some c) =
    cond (eqb c.command 1) (write_stage g c.tag c.length w sent)
    (cond (eqb c.command 2) (read_stage g c.tag c.length w sent) (ends c.tag 1 c.length 0 w sent))

-- the room of a CBW is 31 bytes
unfoldable pub commands : Given → World → List ℕ → List ℕ → Step
commands g w sent packet = cond (leb (length packet) 31) (cbw_by g w sent (cbw_of packet)) (fails w sent)

-- ---- a data stage

-- a packet goes to the engine; the last one brings the CSW
abbrev pub moved_by : Port → List ℕ → Out → Step
moved_by p sent o = cond (eqb p.left 0) (ends p.tag p.status 0 0 o.w sent) (silent p o.w sent)

abbrev pub taken_by : Port → ℕ → List ℕ → Out → Step
taken_by p n sent o = moved_by (took p n o.status) sent o

-- an empty packet ends it: the status is that of the last engine write, the residue the length not moved
unfoldable pub moves : Given → Port → World → List ℕ → List ℕ → Step
moves g p w sent packet =
    cond (leb (length packet) (room_of p))
    (cond (eqb (length packet) 0) (ends p.tag p.status p.left 0 w sent) (taken_by p (length packet) sent (writes g w packet)))
    (fails w sent)

-- ---- a packet

abbrev pub step_by : Given → Port → World → List ℕ → List ℕ → Mode → Step
step_by g p w sent packet Command = commands g w sent packet
step_by g p w sent packet Data = moves g p w sent packet
step_by g p w sent packet Closed = silent p w sent

-- refused with 9 where the room of sent packets is under 4,125 bytes, or what the engine's calls refuse; nothing is changed
unfoldable pub steps : Given → Port → World → List ℕ → List ℕ → Step
steps g p w sent packet =
    cond (leb 4125 (length sent) && fits g w) (step_by g p w sent packet p.mode) (step_of 9 p w 0 false 0 0 sent)
