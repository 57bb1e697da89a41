-- The upper half and the lower, each by its rows.
use Rattle.std.proofs.Common.{◌∙◌, ap₂}
use Rattle.wire.specs.Crc.{◌⊕◌}
use Rattle.wire.proofs.Slices.{in_halves}
use Rattle.wire.proofs.crc.shifted.Goals as goal

pub returns : goal.returns
unfolding ◌⊕◌
returns c = ap₂ ◌⊕◌ c.rows.ensures c.rows-2.ensures ∙ in_halves c.args.x
