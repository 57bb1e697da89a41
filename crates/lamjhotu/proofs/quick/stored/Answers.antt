-- No target, or the write to it.
use native.Mathlib.Omega.{arith}
use Rattle.lamjhotu.specs.State.{update_at}
use Rattle.lamjhotu.proofs.Pieces.{stored_none, stored_there}
use Rattle.lamjhotu.proofs.quick.stored.Goals as goal

pub returns-then-not-set_at : goal.returns-then-not-set_at
returns-then-not-set_at c = stored_none _ _ _ _ _ c.requires.1 c.set_at.ensures (c.if-not-set_at.true)

pub overflow_add-at : goal.overflow_add-at
unfolding update_at
overflow_add-at c = omega (arith, c.word_at.ensures, c.word_at-2.ensures, c.requires.0.0, c.requires.0.1)

pub returns : goal.returns
returns c = stored_there _ _ _ _ _ c.requires.1 c.set_at.ensures (c.if-not-set_at.false) c.word_at.ensures c.word_at-2.ensures c.write.ensures
