-- Where all is in bounds the copied part lies in the reply room, and fits the other.
use Rattle.std.proofs.Common.{sym, ◌∙◌}
use Rattle.engine.proofs.Apis.{reads_told}
use Rattle.engine.proofs.types.Engine.read.Goals as goal

pub returns : goal.returns
returns c = reads_told _ _ _ (sym c.fits.ensures ∙ c.if-not-fits.false) c.min-n.ensures c.copy_from_slice.ensures.after
