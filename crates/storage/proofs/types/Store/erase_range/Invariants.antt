-- What is left to erase gives the same as all of it, on a record of the same shape.
use Rattle.std.proofs.Common.{List, ℕ, ◌≡◌, ◌-◌, ◌≤◌, length}
use Rattle.storage.specs.World.{dev}
use Rattle.storage.specs.Nand.{erase_n}
use Rattle.storage.proofs.types.Store.erase_range.Given as goal

abbrev pub invariant-loop-k : goal.invariant-loop-k
invariant-loop-k l = (l.k ≤ l.last) × (length l.chip ≡ length l.initial.chip) × (l.self.shape ≡ l.initial.self.shape)
    × ((b : List ℕ) → erase_n l.lent (l.last - l.k) l.k (dev l.self l.chip b) ≡ erase_n l.lent (l.last - l.first) l.first (dev l.initial.self l.initial.chip b))
