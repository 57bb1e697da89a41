-- Packed over zeros.
use Rattle.lamjhotu.proofs.Exports.{opened_front}
use Rattle.lamjhotu.proofs.calls.opened.Goals as goal

pub returns-in-Ok : goal.returns-in-Ok
returns-in-Ok c = λ rest. opened_front _ rest c.told-state c.in-Ok.e c.pack.array_long c.in-Ok.is c.put.ensures c.pack.ensures
