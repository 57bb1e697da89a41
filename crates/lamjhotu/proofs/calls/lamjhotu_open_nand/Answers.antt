-- Opened, and packed where it was not refused.
use Rattle.lamjhotu.proofs.Exports.{open_short, open_long}
use Rattle.lamjhotu.proofs.Fronts.{whole}
use Rattle.lamjhotu.proofs.calls.lamjhotu_open_nand.Goals as goal

pub returns-in_default : goal.returns-in_default
returns-in_default c = open_short _ _ c.in_default.ensures.cases

pub returns : goal.returns
returns c = open_long _ c.in-Some.ensures.cases.enough (whole _ c.in-Some.ensures.cases) c.open_nand-engine.ensures (c.opened.ensures _)
