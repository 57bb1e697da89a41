-- Seven numbers and two marks are all that a counted piece changes.
use borrow.Author.Rules.{rules}
use mathlib.Core.Path.{◌≡◌}
use Rattle.lamjhotu.specs.State.{is_block}
use Rattle.lamjhotu.proofs.States.{block_told, counted_told}
use Rattle.lamjhotu.proofs.state.count.Goals as goal

pub returns : goal.returns
returns c =
    let block : c.is_some.result ≡ is_block c.args.t.erased = search rules in
    counted_told _ _ _ _ _ _ c.told-s c.requires c.fits-s (block_told c.args.t.erased c.word_at.ensures c.unwrap_or-block.ensures) c.mark-held.ensures block c.mark-erased.ensures c.two.ensures c.moves.ensures (search rules)
