-- The register's higher bits and the lookup of its lowest byte, by `byte_in_lem`.
use Rattle.std.proofs.Common.{ℕ, ◌+◌, ◌/◌, ◌%◌, List, get_or, ap, ◌∙◌}
use Rattle.wire.specs.Crc.{◌⊕◌}
use Rattle.wire.proofs.Slices.{byte_in_lem}
use Rattle.wire.proofs.crc.step.Goals as goal

pub returns : goal.returns
unfolding ◌⊕◌
returns c =
    ap (λ (l : List ℕ). c.args.r / 256 ⊕ get_or l (1792 + (c.args.r ⊕ c.args.b) % 256) 0) c.table.ensures
    ∙ byte_in_lem c.args.r c.args.b c.ranges.b.fits
