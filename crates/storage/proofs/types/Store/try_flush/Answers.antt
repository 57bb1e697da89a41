-- The block of the held page is made ready and the page burnt; making ready has no say in the shape.
use Rattle.storage.proofs.NandKeeps.{sound_as, ready_shape}
use Rattle.storage.proofs.NandSteps.{page_fits}
use Rattle.storage.proofs.types.Store.try_flush.Goals as goal

pub burn-requires : goal.burn-requires
burn-requires c = page_fits (sound_as (ready_shape _ _ _ (c.make_ready.ensures c.args.buffer.now)) c.requires)
