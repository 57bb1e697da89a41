-- A NOR by its numbers.
use mathlib.Core.Path.{sym, ◌∙◌}
use Rattle.lamjhotu.proofs.Shorts.{nor_told}
use Rattle.lamjhotu.proofs.calls.store_fits.Goals as goal

pub returns-then-set_at : goal.returns-then-set_at
returns-then-set_at c = nor_told _ _ _ _ (sym c.set_at.ensures ∙ c.if-set_at.true) (rw (← c.word_at.ensures, ← c.set_at-then-set_at.ensures, ← c.word_at-then-set_at.ensures) c.nor_fits.ensures)
