-- The whole state that a call of the engine sees, and what it leaves.
use Rattle.std.specs.Prelude.{◌≡◌, ℕ, Bool, List}
use Rattle.storage.specs.World.{Lent, Dev, dev}
use Rattle.storage.specs.Partition.{Lists}
use Rattle.storage.specs.declared.types.Store.{Store}
use Rattle.engine.specs.declared.types.Engine.{Engine}
use Rattle.engine.specs.declared.types.Frame.{Frame}
use Rattle.engine.specs.declared.types.Said.{Said}
use Rattle.engine.specs.declared.types.Update.{Update}
use Rattle.engine.specs.declared.rooms.Rooms.{Rooms}

-- what is lent and never changed: the failing chip calls and the marks, the partition lists, the table text
pub record Given : Type 0 where
  pub lent : Lent
  pub lists : Lists
  pub table : List ℕ

abbrev pub given : Lent → Lists → List ℕ → Given
given l p t = record { lent = l; lists = p; table = t }

-- the record, and every byte that a call may change
pub record World : Type 0 where
  pub e : Engine
  pub request : List ℕ
  pub reply : List ℕ
  pub chip : List ℕ
  pub buffer : List ℕ
  pub scratch : List ℕ

abbrev pub world : Engine → List ℕ → List ℕ → List ℕ → List ℕ → List ℕ → World
world e q p c b x = record { e = e; request = q; reply = p; chip = c; buffer = b; scratch = x }

-- a status and the world
pub record Out : Type 0 where
  pub status : ℕ
  pub w : World

abbrev pub out_of : ℕ → World → Out
out_of status w = record { status = status; w = w }

-- ---- the same as the code has it: the record, the request room, and the other rooms as one struct

abbrev pub world_of : Engine → List ℕ → Rooms → World
world_of e q r = world e q r.reply.now r.chip.now r.buffer.now r.scratch.now

-- the storage of an engine with its rooms
abbrev pub dev_in : Engine → Rooms → Dev
dev_in e r = dev e.store r.chip.now r.buffer.now

-- the same rooms are lent, whatever their bytes are
pub record KeepsRooms (old new : Rooms) : Type 0 where
  pub reply : new.reply.ghost_name ≡ old.reply.ghost_name
  pub chip : new.chip.ghost_name ≡ old.chip.ghost_name
  pub buffer : new.buffer.ghost_name ≡ old.buffer.ghost_name
  pub scratch : new.scratch.ghost_name ≡ old.scratch.ghost_name

-- ---- the record with one group changed

abbrev pub with_frame : Frame → Engine → Engine
with_frame f e =
    record { frame = f; said = e.said; up = e.up; upgrading = e.upgrading; asked = e.asked; base = e.base; store = e.store }

abbrev pub with_said : Said → Engine → Engine
with_said s e =
    record { frame = e.frame; said = s; up = e.up; upgrading = e.upgrading; asked = e.asked; base = e.base; store = e.store }

abbrev pub with_up : Update → Engine → Engine
with_up u e =
    record { frame = e.frame; said = e.said; up = u; upgrading = e.upgrading; asked = e.asked; base = e.base; store = e.store }

abbrev pub with_flags : Bool → Bool → Engine → Engine
with_flags upgrading asked e =
    record { frame = e.frame; said = e.said; up = e.up; upgrading = upgrading; asked = asked; base = e.base; store = e.store }

abbrev pub with_store : Store → Engine → Engine
with_store s e =
    record { frame = e.frame; said = e.said; up = e.up; upgrading = e.upgrading; asked = e.asked; base = e.base; store = s }

-- all but the storage and its rooms is as it was
pub record KeepsRest (e f : Engine) (old new : Rooms) : Type 0 where
  pub engine : f ≡ with_store f.store e
  pub reply : new.reply.now ≡ old.reply.now
  pub scratch : new.scratch.now ≡ old.scratch.now

-- the request room emptied: its bytes stay, its length is 0
abbrev pub emptied : Engine → Engine
emptied e = with_frame (record { len = 0; total = 0 }) e

-- ---- the world with one part changed

abbrev pub at_e : Engine → World → World
at_e e w = world e w.request w.reply w.chip w.buffer w.scratch

abbrev pub at_reply : List ℕ → World → World
at_reply p w = world w.e w.request p w.chip w.buffer w.scratch

abbrev pub at_scratch : List ℕ → World → World
at_scratch x w = world w.e w.request w.reply w.chip w.buffer x

-- the storage of a world, and the world with another
abbrev pub dev_of : World → Dev
dev_of w = dev w.e.store w.chip w.buffer

abbrev pub at_dev : Dev → World → World
at_dev d w = world (with_store d.store w.e) w.request w.reply d.chip d.buf w.scratch
