-- The invariant: the sectors left give what all of them gave from the start.
use Rattle.std.proofs.Common.{◌≡◌, ℕ, List, ◌+◌, ◌-◌, ◌*◌, ◌≤◌, length}
use Rattle.storage.specs.World.{dev}
use Rattle.storage.specs.Nor.{erase_n}
use Rattle.storage.proofs.types.Store.erase_sectors.Given as goal

abbrev pub invariant-loop-i : goal.invariant-loop-i
invariant-loop-i l = (l.i ≤ l.k) × (length l.chip ≡ length l.initial.chip)
    × ((b : List ℕ) → erase_n l.lent.faults (l.k - l.i) (l.first + l.i * 4096) (dev l.self l.chip b) ≡ erase_n l.lent.faults l.k l.first (dev l.initial.self l.initial.chip b))
