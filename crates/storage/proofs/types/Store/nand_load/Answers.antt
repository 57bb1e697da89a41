-- The page is held; or the one that is held cannot be flushed; or the buffer's front is filled with 0xFF. The flush has no say in the shape.
use Rattle.std.proofs.Common.{rules, sym, ◌∙◌}
use lib.Seq.{length-take-le}
use Rattle.storage.proofs.NandKeeps.{sound_as, flushes_shape}
use Rattle.storage.proofs.NandSteps.{page_fits}
use Rattle.storage.proofs.NandMoves.{begun, load_done}
use Rattle.storage.proofs.types.Store.nand_load.Goals as goal

pub slice_bounds-fill-end-2 : goal.slice_bounds-fill-end-2
slice_bounds-fill-end-2 c = sym (length-take-le _ c.args.buffer.now (page_fits (sound_as (flushes_shape _ _ c.flush_page.ensures) c.requires)))

pub returns : goal.returns
returns c =
    load_done _ _ c.args.addr _ _ c.page_start-start.ensures (sym c.holds.ensures ∙ c.if-holds.false) c.flush_page.ensures (search rules)
    (c.fill.ensures.after (λ y e. e) ∙ begun _ c.args.buffer.now (page_fits (sound_as (flushes_shape _ _ c.flush_page.ensures) c.requires)))
