-- A block beyond the chip costs no call; a bad one is not erased. The chip call has no say in the shape, so the block's place fits.
use Rattle.storage.specs.World.{dev}
use Rattle.storage.proofs.NandKeeps.{shaped_as}
use Rattle.storage.proofs.NandSteps.{block_fits, asks_shape}
use Rattle.storage.proofs.types.Store.erase_checked.Goals as goal

pub erase_block-requires : goal.erase_block-requires
erase_block-requires c =
    let chip = c.args.chip.now in
    let shape = asks_shape _ _ (dev c.args.self.now chip chip) (c.ask_good.ensures chip chip) in
    block_fits (shaped_as shape c.requires) c.args.k (rw shape c.if-self-k.false)
