-- What is left of the room, with what was counted and read before it, gives the same answer as all of it from the start.
use mathlib.Core.Path.{◌≡◌}
use Prim.Native.Nat.{◌-◌, ◌≤◌}
use lib.ListN.{length}
use Rattle.storage.specs.World.{dev}
use Rattle.storage.specs.Nor.{pages_of}
use Rattle.storage.specs.Scratch.{in_k}
use Rattle.storage.proofs.Scratches.{rest_of}
use Rattle.storage.proofs.types.Store.pieces_in.Given as goal

abbrev pub invariant-loop-done : goal.invariant-loop-done
invariant-loop-done l =
    (l.done ≤ length l.room)
    × (length l.chip ≡ length l.initial.chip)
    × (length l.room ≡ length l.initial.room)
    × (rest_of l.done l.lent l.at l.room (dev l.self l.chip l.buffer)
    ≡ in_k (pages_of 256 (length l.initial.room)) l.lent l.offset l.initial.room (dev l.initial.self l.initial.chip l.buffer))

abbrev pub decreases-loop-done : goal.decreases-loop-done
decreases-loop-done l = length l.initial.room - l.done
