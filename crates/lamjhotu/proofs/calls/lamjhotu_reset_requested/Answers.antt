-- The flag of the record that the state holds.
use mathlib.Core.Path.{◌∙◌}
use Rattle.lamjhotu.proofs.Exports.{asked_short, asked_long}
use Rattle.lamjhotu.proofs.Fronts.{unpack_chunk}
use Rattle.lamjhotu.proofs.calls.lamjhotu_reset_requested.Goals as goal

pub returns-in_default : goal.returns-in_default
returns-in_default c = asked_short _ c.in_default.ensures.cases

pub returns : goal.returns
returns c = asked_long _ c.in-Some.ensures.cases.enough (c.unpack.ensures ∙ unpack_chunk _ c.in-Some.ensures.cases) c.is_asked.ensures c.from.ensures
