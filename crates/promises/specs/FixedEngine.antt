-- Any two outcomes that a contract of the engine or of the transport admits are equal (Fixed.antt has the argument): each byte run, packet,
-- shell line, geometry and partition list gets a fixed reply, with the status, the engine's record and every byte of the lent rooms, the
-- chip and scratch. Each statement is in the words of its function's `ensures`, in the order of src/.
use Rattle.std.specs.Prelude.{◌≡◌, Bool, cond, ◌&&◌, List, ℕ, eqb, length, Option, None, Some, Result, Ok, Err}
use Rattle.std.proofs.Common.{refl, sym, ap, ◌∙◌}
use Rattle.storage.specs.World.{status_in}
use Rattle.storage.specs.Partition.{Lists}
use Rattle.storage.specs.declared.types.Store.{Store}
use Rattle.storage.specs.declared.types.CallError.{CallError}
use Rattle.storage.specs.declared.types.CallError.TheVariants.{Failed, Refused}
use Rattle.storage.specs.declared.types.Refusal.{Refusal}
use Rattle.storage.specs.declared.types.Refusal.TheVariants as refusal
use Rattle.engine.specs.World.{Given, World, world, world_of, Out, out_of}
use Rattle.engine.specs.Api.{rooms_ok, frame_ok, said_ok, bounds_ok, fits, Opening, opening, opened_nor, opened_nand, writes, Read, took, reads, cleared}
use Rattle.engine.specs.Reply.{status_is, length_is, ended_by}
use Rattle.engine.specs.Command.{is_query, plain, asking, pair_of}
use Rattle.engine.specs.Short.{alone_of, Answer, answered, answer_of}
use Rattle.engine.specs.Stream.{burn_by}
use Rattle.engine.specs.Shell.{text_of, is_write, is_reset, line_of, window_of, boot_table}
use Rattle.engine.specs.declared.shell.Line.{Line}
use Rattle.engine.specs.declared.shell.Window.{Window}
use Rattle.engine.specs.declared.rooms.Rooms.{Rooms}
use Rattle.engine.specs.declared.types.Failure.{Failure}
use Rattle.engine.specs.declared.types.Engine.{Engine}
use Rattle.engine.specs.declared.types.Frame.{Frame}
use Rattle.engine.specs.declared.types.Said.{Said}
use Rattle.transport.specs.Port.{idle}
use Rattle.transport.specs.Step.{Step, went_by, stepped, steps}
use Rattle.transport.specs.declared.port.Port.{Port}
use Rattle.transport.specs.declared.step.Step as code
use Rattle.transport.specs.declared.step.Csw.{Csw}
use Rattle.promises.specs.Fixed.{meet, Fixes, fixed}
use Rattle.promises.specs.FixedStorage.{error_of, ended_same}

-- ---- an opening's answer, by its number and its engine

abbrev refusal_of : ℕ → Refusal
refusal_of n =
    cond (eqb n 9) refusal.Rooms
    (cond (eqb n 10) refusal.Buffer
    (cond (eqb n 11) refusal.ChipSize
    (cond (eqb n 12) refusal.Partitions
    (cond (eqb n 13) refusal.Geometry refusal.Scratch))))

abbrev opened_of : Opening → Result Engine Refusal
opened_of o = cond (eqb o.number 0) (Ok o.e) (Err (refusal_of o.number))

opened_back : (r : Result Engine Refusal) → opened_of (opening r) ≡ r
opened_back (Ok e) = refl
opened_back (Err refusal.Rooms) = refl
opened_back (Err refusal.Buffer) = refl
opened_back (Err refusal.ChipSize) = refl
opened_back (Err refusal.Partitions) = refl
opened_back (Err refusal.Geometry) = refl
opened_back (Err refusal.Scratch) = refl

-- so an opening tells its answer
pub opening_fixed : (d : Opening) → Fixes (Result Engine Refusal) (λ r. opening r ≡ d)
opening_fixed d r r' h h' = sym (opened_back r) ∙ ap opened_of (meet h h') ∙ opened_back r'

-- ---- engine: api

-- `api::numbers_ok`
pub numbers_ok_fixed : (request reply : ℕ) (frame : Frame) (said : Said) (target written left : ℕ)
    → Fixes Bool (λ r. r ≡ (rooms_ok request reply && (frame_ok frame && (said_ok said && bounds_ok target written left))))
numbers_ok_fixed request reply frame said target written left = fixed _

-- `Engine::fits`
pub all_ok_fixed : (g : Given) (w : World) → Fixes Bool (λ r. r ≡ fits g w)
all_ok_fixed g w = fixed _

-- `Engine::open_nor`
pub open_nor_fixed : (request reply chip buffer : List ℕ) (l : Lists) (base : ℕ) (scratch : List ℕ) (stage device : ℕ)
    → Fixes (Result Engine Refusal) (λ r. opening r ≡ opened_nor (length request) (length reply) (length chip) (length buffer) l base (length scratch) stage device)
open_nor_fixed request reply chip buffer l base scratch stage device = opening_fixed _

-- `Engine::open_nand`
pub open_nand_fixed : (request reply chip : List ℕ) (page pages blocks : ℕ) (marks : List ℕ) (capacity : ℕ) (l : Lists) (base : ℕ) (scratch : List ℕ) (stage device : ℕ)
    → Fixes (Result Engine Refusal) (λ r. opening r ≡ opened_nand (length request) (length reply) (length chip) page pages blocks (length marks) capacity l base (length scratch) stage device)
open_nand_fixed request reply chip page pages blocks marks capacity l base scratch stage device = opening_fixed _

-- `Engine::write`, a byte run: the answer and the record, and what is left in request, reply, chip, buffer and scratch
pub write_fixed : (g : Given) (w : World) (bytes : List ℕ) (r r' : Result (Unit {0}) CallError) (e e' : Engine) (q q' : List ℕ) (m m' : Rooms)
    → out_of (status_in r) (world_of e q m) ≡ writes g w bytes → out_of (status_in r') (world_of e' q' m') ≡ writes g w bytes
    → (r ≡ r') × (e ≡ e') × (q ≡ q')
    × (m.reply.now ≡ m'.reply.now) × (m.chip.now ≡ m'.chip.now) × (m.buffer.now ≡ m'.buffer.now) × (m.scratch.now ≡ m'.scratch.now)
write_fixed g w bytes r r' e e' q q' m m' h h' =
    let t = meet h h' in (
      ended_same r r' (ap (λ (o : Out). o.status) t),
      ap (λ (o : Out). o.w.e) t,
      ap (λ (o : Out). o.w.request) t,
      ap (λ (o : Out). o.w.reply) t,
      ap (λ (o : Out). o.w.chip) t,
      ap (λ (o : Out). o.w.buffer) t,
      ap (λ (o : Out). o.w.scratch) t,
    )

-- `Engine::read`: count or refusal and the record, and what is left in the room
pub read_fixed : (g : Given) (w : World) (room : List ℕ) (r r' : Result ℕ CallError) (e e' : Engine) (m m' : List ℕ)
    → took r e m ≡ reads g w room → took r' e' m' ≡ reads g w room → (r ≡ r') × (e ≡ e') × (m ≡ m')
read_fixed g w room r r' e e' m m' h h' = let t = meet h h' in (ap (λ (o : Read). o.got) t, ap (λ (o : Read). o.e) t, ap (λ (o : Read). o.room) t)

-- `Engine::cleared`
pub cleared_fixed : (e : Engine) → Fixes Engine (λ r. r ≡ cleared e)
cleared_fixed e = fixed _

-- `Engine::is_upgrading`
pub is_upgrading_fixed : (e : Engine) → Fixes Bool (λ r. r ≡ e.upgrading)
is_upgrading_fixed e = fixed _

-- `Engine::is_asked`
pub is_asked_fixed : (e : Engine) → Fixes Bool (λ r. r ≡ e.asked)
is_asked_fixed e = fixed _

-- ---- engine: bus, on the caller's own record

-- `Engine::reset`: the record
pub reset_fixed : (e : Engine) → Fixes Engine (λ left. left ≡ cleared e)
reset_fixed e = fixed _

-- `Engine::host_upgrading`: the answer and the record
pub host_upgrading_fixed : (e : Engine) (r r' : Bool) (x x' : Engine) → (r ≡ e.upgrading) × (x ≡ e) → (r' ≡ e.upgrading) × (x' ≡ e) → (r ≡ r') × (x ≡ x')
host_upgrading_fixed e r r' x x' h h' = (meet h.0 h'.0, meet h.1 h'.1)

-- `Engine::reset_requested`: the answer and the record
pub reset_requested_fixed : (e : Engine) (r r' : Bool) (x x' : Engine) → (r ≡ e.asked) × (x ≡ e) → (r' ≡ e.asked) × (x' ≡ e) → (r ≡ r') × (x ≡ x')
reset_requested_fixed e r r' x x' h h' = (meet h.0 h'.0, meet h.1 h'.1)

-- ---- engine: command

-- `command::is_query`
pub is_query_fixed : (command : ℕ) → Fixes Bool (λ r. r ≡ is_query command)
is_query_fixed command = fixed _

-- `command::pair_of`
pub pair_of_fixed : (payload : List ℕ) → Fixes (Option (ℕ × ℕ)) (λ r. r ≡ pair_of payload)
pair_of_fixed payload = fixed _

-- ---- engine: reply

-- `reply::status_of`
pub status_of_fixed : (ended : Result ℕ Failure) → Fixes (Result (Unit {0}) CallError) (λ r. status_in r ≡ status_is ended)
status_of_fixed ended r r' h h' = ended_same r r' (meet h h')

-- `reply::len_of`
pub len_of_fixed : (ended : Result ℕ Failure) → Fixes ℕ (λ r. r ≡ length_is ended)
len_of_fixed ended = fixed _

-- ---- engine: shell

-- `shell::text_len`
pub text_len_fixed : (payload : List ℕ) → Fixes (Option ℕ) (λ r. r ≡ text_of payload)
text_len_fixed payload = fixed _

-- `shell::is_write`
pub is_write_fixed : (line : List ℕ) → Fixes Bool (λ r. r ≡ is_write line)
is_write_fixed line = fixed _

-- `shell::is_reset`
pub is_reset_fixed : (line : List ℕ) → Fixes Bool (λ r. r ≡ is_reset line)
is_reset_fixed line = fixed _

-- `shell::parse`
pub parse_fixed : (line : List ℕ) → Fixes (Option Line) (λ r. r ≡ line_of line)
parse_fixed line = fixed _

-- `shell::window_of`
pub window_of_fixed : (base size addr len : ℕ) → Fixes (Option Window) (λ r. r ≡ window_of base size addr len)
window_of_fixed base size addr len = fixed _

-- `shell::boot_table`: what it leaves in the slice
pub boot_table_fixed : (s : List ℕ) (base place block capacity : ℕ) → Fixes (List ℕ) (λ left. left ≡ boot_table base place block capacity s)
boot_table_fixed s base place block capacity = fixed _

-- ---- engine: short

-- `short::alone_of`
pub alone_of_fixed : (bytes : List ℕ) → Fixes (Option ℕ) (λ r. r ≡ alone_of bytes)
alone_of_fixed bytes = fixed _

-- `short::answer`: how the query ended, and what is left in the reply room. Status and length do not tell a failure from the odd reply,
-- so the contract says how it ended by a clause of its own
pub answer_fixed : (base burn run : ℕ) (store : Store) (command : ℕ) (table reply : List ℕ) (r r' : Result ℕ Failure) (p p' : List ℕ)
    → (r ≡ ended_by (plain command (asking base burn run store) table)) × (answered r p ≡ answer_of command (asking base burn run store) table reply)
    → (r' ≡ ended_by (plain command (asking base burn run store) table)) × (answered r' p' ≡ answer_of command (asking base burn run store) table reply)
    → (r ≡ r') × (p ≡ p')
answer_fixed base burn run store command table reply r r' p p' h h' = (meet h.0 h'.0, ap (λ (a : Answer). a.reply) (meet h.1 h'.1))

-- ---- engine: stream

-- `stream::burn_by`
pub burn_by_fixed : (old count n : ℕ) → Fixes ℕ (λ r. r ≡ burn_by old count n)
burn_by_fixed old count n = fixed _

-- ---- transport

-- `Port::start`
pub start_fixed : Fixes Port (λ r. r ≡ idle)
start_fixed = fixed _

-- what a step leaves tells its answer: by its number, and by whether a CSW was sent
abbrev csw_in : Step → Option Csw
csw_in s = cond s.csw (Some (record { status = s.status; residue = s.residue })) None

abbrev step_in : Step → Result code.Step CallError
step_in s = cond (eqb s.number 0) (Ok (record { port = s.port; moved = s.moved; csw = csw_in s })) (Err (error_of s.number))

-- and with it the engine's record and rooms, and the room of sent packets
abbrev left_by : Step → Result code.Step CallError × World × List ℕ
left_by s = (step_in s, s.w, s.sent)

went_back : (port : Port) (w : World) (moved : ℕ) (sent : List ℕ) (csw : Option Csw)
    → left_by (went_by port w moved sent csw) ≡ (Ok (record { port = port; moved = moved; csw = csw }), w, sent)
went_back port w moved sent None = refl
went_back port w moved sent (Some c) = refl

stepped_back : (port : Port) (r : Result code.Step CallError) (e : Engine) (q p c b x sent : List ℕ)
    → left_by (stepped port r e q p c b x sent) ≡ (r, world e q p c b x, sent)
stepped_back port (Ok s) e q p c b x sent = went_back s.port (world e q p c b x) s.moved sent s.csw
stepped_back port (Err Failed) e q p c b x sent = refl
stepped_back port (Err Refused) e q p c b x sent = refl

-- `Port::step`, a packet: the answer, with the transport's next state and what is sent, and the engine's record; and what is left in
-- request, reply, chip, buffer, scratch and the room of sent packets
pub step_fixed : (g : Given) (port : Port) (w : World) (sent packet : List ℕ) (r r' : Result code.Step CallError) (e e' : Engine) (q q' : List ℕ) (m m' : Rooms) (v v' : List ℕ)
    → stepped port r e q m.reply.now m.chip.now m.buffer.now m.scratch.now v ≡ steps g port w sent packet
    → stepped port r' e' q' m'.reply.now m'.chip.now m'.buffer.now m'.scratch.now v' ≡ steps g port w sent packet
    → (r ≡ r') × (e ≡ e') × (q ≡ q')
    × (m.reply.now ≡ m'.reply.now) × (m.chip.now ≡ m'.chip.now) × (m.buffer.now ≡ m'.buffer.now) × (m.scratch.now ≡ m'.scratch.now)
    × (v ≡ v')
step_fixed g port w sent packet r r' e e' q q' m m' v v' h h' =
    let back = stepped_back port r e q m.reply.now m.chip.now m.buffer.now m.scratch.now v in
    let back' = stepped_back port r' e' q' m'.reply.now m'.chip.now m'.buffer.now m'.scratch.now v' in
    let t = sym back ∙ ap left_by (meet h h') ∙ back' in (
      ap (λ x. x.0) t,
      ap (λ x. x.1.e) t,
      ap (λ x. x.1.request) t,
      ap (λ x. x.1.reply) t,
      ap (λ x. x.1.chip) t,
      ap (λ x. x.1.buffer) t,
      ap (λ x. x.1.scratch) t,
      ap (λ x. x.2) t,
    )
