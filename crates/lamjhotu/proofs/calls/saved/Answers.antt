-- Packed, or left.
use Rattle.lamjhotu.proofs.Exports.{saved_yes}
use Rattle.lamjhotu.proofs.Fronts.{kept_front}
use Rattle.lamjhotu.proofs.calls.saved.Goals as goal

pub returns-then-status-ne9 : goal.returns-then-status-ne9
returns-then-status-ne9 c = λ rest. saved_yes _ _ _ c.if-status-ne9.true (kept_front _ rest c.told-state _ c.pack.array_long c.pack.ensures)
