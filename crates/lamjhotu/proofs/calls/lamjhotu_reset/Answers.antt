-- Unpacked, cleared, packed.
use mathlib.Core.Path.{◌∙◌}
use Rattle.lamjhotu.proofs.Exports.{reset_short, reset_long}
use Rattle.lamjhotu.proofs.Fronts.{unpack_chunk, cleared_chunk}
use Rattle.lamjhotu.proofs.calls.lamjhotu_reset.Goals as goal

pub returns-in_default : goal.returns-in_default
returns-in_default c = reset_short _ c.in_default.ensures.cases

pub returns : goal.returns
returns c =
    let k = c.in-Some.ensures.cases in
    reset_long _ k.enough (c.unpack.ensures ∙ unpack_chunk _ k) c.cleared-e.ensures (cleared_chunk _ k c.unpack.result c.cleared-e.ensures c.pack.ensures)
