-- The engine's public calls: openings, write, read, reset and the two flags (01, 'Replies and refusals', row 9 and 'In bounds').
use Rattle.std.specs.Prelude.{ℕ, ◌+◌, ◌-◌, ◌^◌, min, Bool, false, cond, ◌&&◌, List, length, take, drop, replicate, ◌==◌, nat_le, nat_lt, Result, Ok, Err, None}
use Rattle.std.proofs.lemmas.List.Edits.{sets}
use Rattle.storage.specs.Open as opens
use Rattle.storage.specs.Open.{scratch_ok, refusal_number}
use Rattle.storage.specs.Partition.{Lists, lists_ok}
use Rattle.storage.specs.Store.{good}
use Rattle.storage.specs.declared.types.Refusal.{Refusal}
use Rattle.storage.specs.declared.types.CallError.{CallError}
use Rattle.storage.specs.declared.types.CallError.TheVariants.{Refused}
use Rattle.storage.specs.World.{status_in, count_in}
use Rattle.storage.specs.declared.types.Kind.TheVariants.{Nor}
use Rattle.storage.specs.declared.types.Store.{Store}
use Rattle.engine.specs.declared.types.Engine.{Engine}
use Rattle.engine.specs.declared.types.Frame.{Frame}
use Rattle.engine.specs.declared.types.Said.{Said}
use Rattle.engine.specs.declared.types.Update.{Update}
use Rattle.engine.specs.World.{Given, World, with_said, dev_of, Out, out_of}
use Rattle.engine.specs.Feed.{feeds}

-- ---- row 9

-- the request room has 8,208 bytes, the reply room 4,112
abbrev pub rooms_ok : ℕ → ℕ → Bool
rooms_ok request reply = request == 8208 && reply == 4112

-- request length under 16 with total 0, else under the total, itself at most 8,208
abbrev pub frame_ok : Frame → Bool
frame_ok f = cond (f.total == 0) (nat_lt f.len 16) (nat_lt f.len f.total && nat_le f.total 8208)

-- reply place within its length, that within 4,112
abbrev pub said_ok : Said → Bool
said_ok s = nat_le s.pos s.len && nat_le s.len 4112

-- target at most 2^31; written plus stream left under 2^32
abbrev pub bounds_ok : ℕ → ℕ → ℕ → Bool
bounds_ok target written left = nat_le target (2 ^ 31) && nat_lt (written + left) (2 ^ 32)

unfoldable pub up_ok : Update → Bool
up_ok u = bounds_ok u.target u.written u.left

-- the engine's own numbers
unfoldable pub engine_ok : Engine → Bool
engine_ok e = frame_ok e.frame && (said_ok e.said && up_ok e.up)

-- the rooms, the record, and every part that an opening would take
unfoldable pub fits : Given → World → Bool
fits g w =
    rooms_ok (length w.request) (length w.reply)
    && (engine_ok w.e && (good g.lent (dev_of w) && (lists_ok g.lists && scratch_ok w.e.base (length w.scratch))))

-- ---- openings

-- no metadata, no target, nothing counted
abbrev pub no_update : Update
no_update = record { meta = replicate 512 0; valid = false; aimed = false; target = 0; written = 0; crc = 0; burn = 0; run = 0; left = 0 }

-- an engine over a store as it is opened
abbrev pub fresh : ℕ → Store → Engine
fresh base s =
    record {
      frame = record { len = 0; total = 0 };
      said = record { len = 0; pos = 0 };
      up = no_update;
      upgrading = false;
      asked = false;
      base = base;
      store = s;
    }

-- of a refused opening: the capacity is out of bounds, so every later call of such an engine is refused with 9
abbrev pub no_store : Store
no_store =
    record {
      shape = record { kind = Nor; page = 4096; pages = 0; blocks = 0; capacity = 2 ^ 31 + 1; stage = 0; device = 0 };
      held = false;
      at = 0;
      erased = None;
      calls = 0;
    }

-- what an opening leaves: 0 and an engine, or 01's number of the refusal and an engine that no later call takes
pub record Opening : Type 0 where
  pub number : ℕ
  pub e : Engine

abbrev pub ready : Engine → Opening
ready e = record { number = 0; e = e }

abbrev pub refused : ℕ → Opening
refused n = record { number = n; e = fresh 0 no_store }

abbrev pub opened_by : ℕ → Result Store Refusal → Opening
opened_by base (Ok s) = ready (fresh base s)
opened_by base (Err r) = refused (refusal_number r)

-- the same of what the code answers
abbrev pub opening : Result Engine Refusal → Opening
opening (Ok e) = ready e
opening (Err r) = refused (refusal_number r)

-- refusal 9 for the rooms, then the storage's own, from the lengths of request and reply and then as the storage's opening
unfoldable pub opened_nor : ℕ → ℕ → ℕ → ℕ → Lists → ℕ → ℕ → ℕ → ℕ → Opening
opened_nor request reply chip buffer l base scratch stage device =
    cond (rooms_ok request reply) (opened_by base (opens.opened_nor chip buffer l base scratch stage device)) (refused 9)

unfoldable pub opened_nand : ℕ → ℕ → ℕ → ℕ → ℕ → ℕ → ℕ → ℕ → Lists → ℕ → ℕ → ℕ → ℕ → Opening
opened_nand request reply chip page pages blocks marks capacity l base scratch stage device =
    cond (rooms_ok request reply) (opened_by base (opens.opened_nand chip page pages blocks marks capacity l base scratch stage device)) (refused 9)

-- ---- write

unfoldable pub writes : Given → World → List ℕ → Out
writes g w d = cond (fits g w) (feeds g w d) (out_of 9 w)

-- ---- read

-- what a read answers, the record, and the room
pub record Read : Type 0 where
  pub got : Result ℕ CallError
  pub e : Engine
  pub room : List ℕ

abbrev pub took : Result ℕ CallError → Engine → List ℕ → Read
took got e room = record { got = got; e = e; room = room }

-- the next n bytes of the reply are copied, and no byte of the room beyond is touched
abbrev pub read_by : World → List ℕ → ℕ → Read
read_by w room n =
    record {
      got = Ok n;
      e = with_said (record { len = w.e.said.len; pos = w.e.said.pos + n }) w.e;
      room = sets room 0 (take n (drop w.e.said.pos w.reply));
    }

-- as many as wait and the room takes
unfoldable pub reads : Given → World → List ℕ → Read
reads g w room =
    cond (fits g w) (read_by w room (min (w.e.said.len - w.e.said.pos) (length room))) (record { got = Err Refused; e = w.e; room = room })

-- 01's numbers of a read's answer: 9 and no count, or 0 and the count
abbrev pub got_numbers : Result ℕ CallError → ℕ × ℕ
got_numbers got = (status_in got, count_in got)

-- ---- reset

-- request, reply, update record and stream are emptied; both flags, scratch's base and the storage stay
abbrev pub cleared : Engine → Engine
cleared e =
    record {
      frame = record { len = 0; total = 0 };
      said = record { len = 0; pos = 0 };
      up = no_update;
      upgrading = e.upgrading;
      asked = e.asked;
      base = e.base;
      store = e.store;
    }
