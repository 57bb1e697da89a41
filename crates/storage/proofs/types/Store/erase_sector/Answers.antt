-- A call that may not be made leaves the chip; else the part of the sector is filled, which is an erase by `erase_filled`.
use Rattle.std.proofs.Common.{rules, refl, sym, ◌∙◌, ◌+◌}
use Rattle.storage.proofs.Sectors.{erase_filled}
use Rattle.storage.proofs.types.Store.erase_sector.Goals as goal

pub returns : goal.returns
returns c b = erase_filled _ _ _ _ b c.call.ensures.counted (c.args.at + 4096) (sym c.call.ensures.made ∙ search rules) refl (c.fill.ensures.after (λ y e. e))
