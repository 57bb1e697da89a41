-- A range that ends past the capacity is refused; any other goes from the block of its start up to its end.
use Rattle.std.proofs.Common.{rules, ◌∙◌, arith}
use Rattle.storage.specs.World.{dev}
use Rattle.storage.proofs.NandKeeps.{checked_shape}
use Rattle.storage.proofs.NandMoves.{erase_went}
use Rattle.storage.proofs.types.Store.erase_range.Goals as goal

pub loop-k-preserved : goal.loop-k-preserved
loop-k-preserved c =
    let w = c.loop-k in (
      omega arith,
      omega arith,
      checked_shape _ (dev w.self w.chip w.chip) w.k (c.erase_checked.ensures w.chip) ∙ w.invariant.2,
      λ b. erase_went _ w.k _ _ (omega arith) (c.erase_checked.ensures b) (search rules) ∙ w.invariant.3 b,
    )
