-- A session and its runs: a call is a write, a read, a reset or a packet, and each gets the engine, its rooms and the chip as the call
-- before left them. A packet is a list of the engine's own calls (`packet_calls`), so whatever holds of all runs of those holds of
-- all sessions. In bounds for ever (demand 1; 01, row 9): after an accepted opening no call of any run meets a 9 (`nor_session`,
-- `nand_session`).
use Rattle.std.specs.Prelude.{◌≡◌, Bool, true, cond, ℕ, ◌-◌, ◌≤◌, min, leb, eqb, length, take}
use Rattle.std.proofs.Math.Path.{refl, ap}
use Rattle.std.proofs.Common.{Option, None, Some, sym, ap₂, ◌∙◌, le-leb}
use Rattle.std.proofs.Math.Bool.{false, ◌&&◌}
use mathlib.Core.List.{List, [], ◌∷◌, ◌++◌}
use Rattle.wire.specs.Packet.{cbw_of}
use Rattle.wire.specs.declared.packet.Cbw.{Cbw}
use Rattle.storage_laws.specs.Bounds.{either}
use Rattle.engine.specs.World.{Given, World, at_e}
use Rattle.engine.specs.Api.{fits, writes}
use Rattle.engine_laws.specs.Bounds.{Call, write, read, reset, after, after_all, Accepted, run_fits, run_accepted, nor_opening, nor_opening_fits, nand_opening, nand_opening_fits}
use Rattle.transport.specs.declared.port.Mode.{Mode}
use Rattle.transport.specs.declared.port.Mode.TheVariants.{Command, Data, Closed}
use Rattle.transport.specs.declared.port.Port.{Port}
use Rattle.transport.specs.Port.{idle, room_of}
use Rattle.transport.specs.Step.{Step, step_of, fails, ends, refuses, write_stage, read_stage, cbw_by, commands, taken_by, moves, step_by, steps}

-- ---- sessions

-- the transport's state, and the engine with all that is lent to it
pub record Session : Type 0 where
  pub port : Port
  pub w : World

-- a call of the engine; or a packet, with the room for what is sent
pub data Act : Type 0 where
  call : Call → Act
  packet : List ℕ → List ℕ → Act

abbrev pub session : Port → World → Session
session p w = record { port = p; w = w }

-- what a call leaves
abbrev pub acted : Given → Session → Act → Session
acted g s (call c) = session s.port (after g s.w c)
acted g s (packet sent p) = let t = steps g s.port s.w sent p in session t.port t.w

-- what a run leaves
unfoldable pub acted_all : Given → Session → List Act → Session
acted_all g s [] = s
acted_all g s (a ∷ more) = acted_all g (acted g s a) more

-- ---- a packet is a list of the engine's calls

abbrev cbw_calls : List ℕ → Option Cbw → List Call
cbw_calls sent None = []
cbw_calls sent (Some c) =
    cond (eqb c.command 1) (cond (eqb c.length 0) (write [] ∷ []) []) (cond (eqb c.command 2) (read (take (min c.length 4112) sent) ∷ []) [])

abbrev mode_calls : Port → List ℕ → List ℕ → Mode → List Call
mode_calls p sent bytes Command = cond (leb (length bytes) 31) (cbw_calls sent (cbw_of bytes)) (reset ∷ [])
mode_calls p sent bytes Data = cond (leb (length bytes) (room_of p)) (cond (eqb (length bytes) 0) [] (write bytes ∷ [])) (reset ∷ [])
mode_calls p sent bytes Closed = []

-- a packet longer than its room is a reset; a WRITE with no data a write of no bytes, a READ a read into the room; a packet of a data
-- stage a write, where it is not empty; all others are no call of the engine
abbrev pub calls_of : Given → Port → World → List ℕ → List ℕ → List Call
calls_of g p w sent bytes = cond (leb 4125 (length sent) && fits g w) (mode_calls p sent bytes p.mode) []

module _ (g : Given) (w : World) (sent : List ℕ) where
  -- a step leaves the engine as these calls do
  abbrev Made : Step → List Call → Type 0
  Made t cs = t.w ≡ after_all g w cs

  or_made : (b : Bool) (x y : Step) (k m : List Call) → Made x k → Made y m → Made (cond b x y) (cond b k m)
  or_made true x y k m h i = h
  or_made false x y k m h i = i

  cbw_made : (c : Option Cbw) → Made (cbw_by g w sent c) (cbw_calls sent c)
  unfolding after_all refuses write_stage read_stage ends
  cbw_made None = refl
  cbw_made (Some c) =
      or_made (eqb c.command 1) (write_stage g c.tag c.length w sent) _ (cond (eqb c.length 0) (write [] ∷ []) []) _
      (or_made (eqb c.length 0) _ _ (write [] ∷ []) [] refl refl)
      (or_made (eqb c.command 2) (read_stage g c.tag c.length w sent) _ (read (take (min c.length 4112) sent) ∷ []) [] refl refl)

  fails_made : Made (fails w sent) (reset ∷ [])
  unfolding after_all fails
  fails_made = refl

  moved_made : (p : Port) (n : ℕ) (bytes : List ℕ) → Made (taken_by p n sent (writes g w bytes)) (write bytes ∷ [])
  unfolding after_all ends
  moved_made p n bytes = either (λ (t : Step). Made t (write bytes ∷ [])) (eqb (p.left - n) 0) _ _ refl refl

  mode_made : (p : Port) (bytes : List ℕ) (m : Mode) → Made (step_by g p w sent bytes m) (mode_calls p sent bytes m)
  unfolding after_all commands moves ends
  mode_made p bytes Command = or_made (leb (length bytes) 31) (cbw_by g w sent (cbw_of bytes)) _ _ (reset ∷ []) (cbw_made (cbw_of bytes)) fails_made
  mode_made p bytes Data =
      or_made (leb (length bytes) (room_of p)) (cond (eqb (length bytes) 0) _ _) (fails w sent) (cond (eqb (length bytes) 0) [] (write bytes ∷ [])) (reset ∷ [])
      (or_made (eqb (length bytes) 0) _ _ [] (write bytes ∷ []) refl (moved_made p (length bytes) bytes)) fails_made
  mode_made p bytes Closed = refl

  -- THE LAW: a packet leaves the engine as its calls do, one after the other
  pub packet_calls : (p : Port) (bytes : List ℕ) → (steps g p w sent bytes).w ≡ after_all g w (calls_of g p w sent bytes)
  unfolding steps after_all
  packet_calls p bytes = or_made (leb 4125 (length sent) && fits g w) (step_by g p w sent bytes p.mode) _ (mode_calls p sent bytes p.mode) [] (mode_made p bytes p.mode) refl

  -- ---- a packet is answered

  abbrev Told : Step → Type 0
  Told t = t.number ≡ 0

  cbw_told : (c : Option Cbw) → Told (cbw_by g w sent c)
  unfolding refuses write_stage read_stage ends
  cbw_told None = refl
  cbw_told (Some c) =
      either Told (eqb c.command 1) (write_stage g c.tag c.length w sent) _ (either Told (eqb c.length 0) _ _ refl refl)
      (either Told (eqb c.command 2) (read_stage g c.tag c.length w sent) _ refl refl)

  moved_told : (p : Port) (n : ℕ) (bytes : List ℕ) → Told (taken_by p n sent (writes g w bytes))
  unfolding ends
  moved_told p n bytes = either Told (eqb (p.left - n) 0) _ _ refl refl

  mode_told : (p : Port) (bytes : List ℕ) (m : Mode) → Told (step_by g p w sent bytes m)
  unfolding commands moves fails ends
  mode_told p bytes Command = either Told (leb (length bytes) 31) (cbw_by g w sent (cbw_of bytes)) _ (cbw_told (cbw_of bytes)) refl
  mode_told p bytes Data =
      either Told (leb (length bytes) (room_of p)) _ (fails w sent) (either Told (eqb (length bytes) 0) _ _ refl (moved_told p (length bytes) bytes)) refl
  mode_told p bytes Closed = refl

  -- a room of 4,125 bytes, and an engine in bounds: the packet is not refused
  pub packet_told : (p : Port) (bytes : List ℕ) → 4125 ≤ length sent → fits g w ≡ true → (steps g p w sent bytes).number ≡ 0
  unfolding steps
  packet_told p bytes h f =
      ap (λ (b : Bool). (cond b (step_by g p w sent bytes p.mode) (step_of 9 p w 0 false 0 0 sent)).number) (ap₂ ◌&&◌ (le-leb 4125 (length sent) h) f) ∙ mode_told p bytes p.mode

-- ---- a run is a run of the engine's calls

abbrev pub calls_in : Given → Session → Act → List Call
calls_in g s (call c) = c ∷ []
calls_in g s (packet sent p) = calls_of g s.port s.w sent p

unfoldable pub all_calls : Given → Session → List Act → List Call
all_calls g s [] = []
all_calls g s (a ∷ more) = calls_in g s a ++ all_calls g (acted g s a) more

after_append : (g : Given) (w : World) (k m : List Call) → after_all g w (k ++ m) ≡ after_all g (after_all g w k) m
unfolding after_all
after_append g w [] m = refl
after_append g w (c ∷ k) m = after_append g (after g w c) k m

act_calls : (g : Given) (s : Session) (a : Act) → (acted g s a).w ≡ after_all g s.w (calls_in g s a)
unfolding after_all
act_calls g s (call c) = refl
act_calls g s (packet sent p) = packet_calls g s.w sent s.port p

-- a run of calls and packets leaves the engine as a run of its own calls does: what holds after all of these holds after all of those
pub run_calls : (g : Given) (acts : List Act) (s : Session) → (acted_all g s acts).w ≡ after_all g s.w (all_calls g s acts)
unfolding acted_all all_calls after_all
run_calls g [] s = refl
run_calls g (a ∷ more) s =
    run_calls g more (acted g s a)
    ∙ ap (λ (v : World). after_all g v (all_calls g (acted g s a) more)) (act_calls g s a)
    ∙ sym (after_append g s.w (calls_in g s a) (all_calls g (acted g s a) more))

-- so what is promised of writes and reads is promised of packets that make them
pub run_ends : (g : Given) (acts : List Act) (s : Session) (cs : List Call) (d : List ℕ) → all_calls g s acts ≡ cs ++ (write d ∷ [])
    → (acted_all g s acts).w ≡ (writes g (after_all g s.w cs) d).w
unfolding after_all
run_ends g acts s cs d e = run_calls g acts s ∙ ap (after_all g s.w) e ∙ after_append g s.w cs (write d ∷ [])

-- ---- in bounds for ever

-- a call that is not refused; a packet whose room is long enough
abbrev pub Taken : Given → Session → Act → Type 0
Taken g s (call c) = Accepted g s.w c
Taken g s (packet sent p) = 4125 ≤ length sent → (steps g s.port s.w sent p).number ≡ 0

abbrev pub AllTaken : Given → Session → List Act → Type 0
AllTaken g s [] = Unit {0}
AllTaken g s (a ∷ more) = Taken g s a × AllTaken g (acted g s a) more

taken : (g : Given) (s : Session) (a : Act) → fits g s.w ≡ true → Taken g s a
taken g s (call c) f = (run_accepted g (c ∷ []) s.w f).0
taken g s (packet sent p) f = λ h. packet_told g s.w sent s.port p h f

acted_fits : (g : Given) (s : Session) (a : Act) → fits g s.w ≡ true → fits g (acted g s a).w ≡ true
acted_fits g s a f = ap (fits g) (act_calls g s a) ∙ run_fits g (calls_in g s a) s.w f

-- any run from an engine in bounds leaves one in bounds
pub session_fits : (g : Given) (acts : List Act) (s : Session) → fits g s.w ≡ true → fits g (acted_all g s acts).w ≡ true
session_fits g acts s f = ap (fits g) (run_calls g acts s) ∙ run_fits g (all_calls g s acts) s.w f

-- and none of its calls is refused
pub session_taken : (g : Given) (acts : List Act) (s : Session) → fits g s.w ≡ true → AllTaken g s acts
session_taken g [] s f = tt
session_taken g (a ∷ more) s f = (taken g s a f, session_taken g more (acted g s a) (acted_fits g s a f))

module _ (g : Given) (w : World) (base stage device : ℕ) (acts : List Act) where
  -- "each call ends, callers owe us no checking": after an accepted opening, over the parts that it was opened with, no run ever meets a 9
  pub nor_session : (nor_opening g w base stage device).number ≡ 0 → AllTaken g (session idle (at_e (nor_opening g w base stage device).e w)) acts
  nor_session e = session_taken g acts (session idle (at_e (nor_opening g w base stage device).e w)) (nor_opening_fits g w base stage device e)

  -- a NAND too, where the page room that is lent later is one of 4,096 bytes at least
  pub nand_session : (page pages blocks capacity : ℕ) → 4096 ≤ length w.buffer → (nand_opening g w base stage device page pages blocks capacity).number ≡ 0
      → AllTaken g (session idle (at_e (nand_opening g w base stage device page pages blocks capacity).e w)) acts
  nand_session page pages blocks capacity r e =
      session_taken g acts (session idle (at_e (nand_opening g w base stage device page pages blocks capacity).e w))
      (nand_opening_fits g w base stage device page pages blocks capacity e r)
