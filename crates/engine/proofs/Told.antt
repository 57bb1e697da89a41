-- How a storage call's `Result` ends a command: one that did not succeed fails it.
use Rattle.std.proofs.Common.{◌≡◌, ℕ, List, [], Ok, sym, ap}
use Rattle.storage.specs.World.{Lent, Dev, told}
use Rattle.storage.specs.Store.{flushing}
use Rattle.engine.specs.declared.types.Engine.{Engine}
use Rattle.engine.specs.declared.rooms.Rooms.{Rooms}
use Rattle.engine.specs.World.{World, KeepsRest, world_of, dev_in, at_reply, dev_of, at_dev}
use Rattle.engine.specs.Reply.{ok, Ran, ran, gone, going}
use Rattle.engine.specs.Storing.{after_flush}
use Rattle.engine.proofs.Commands.{laid_none}

-- a storage call leaves the rest of the world
pub rest_is : (q : List ℕ) {e f : Engine} {old new : Rooms} → KeepsRest e f old new → world_of f q new ≡ at_dev (dev_in f new) (world_of e q old)
rest_is q k = cc

-- a flush comes first, and succeeds
pub flush_done : (l : Lent) (w v : World) (next : World → Ran) {d : Dev} → told 0 0 d ≡ flushing l (dev_of w)
    → v ≡ at_dev d w → going (next v) ≡ going (after_flush w next (flushing l (dev_of w)))
flush_done l w v next p q = rw (← p, q)

-- OK with no data
pub gone_none : (w : World) → gone (Ok 0) w ≡ going (ran (ok []) w)
gone_none w = ap (λ (p : List ℕ). gone (Ok 0) (at_reply p w)) (sym (laid_none w.reply 16))
