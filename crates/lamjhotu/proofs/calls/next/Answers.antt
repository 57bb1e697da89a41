-- As many bytes as wait and fit, and the place behind them.
use mathlib.Core.Path.{sym, subst, ◌∙◌}
use Prim.Native.Nat.{◌+◌}
use Rattle.engine.specs.World.{with_said}
use Rattle.engine.specs.Feed.{SaidFit}
use Rattle.lamjhotu.proofs.Shorts.{next_so}
use Rattle.lamjhotu.proofs.Fronts.{said_front, kept_by}
use Rattle.lamjhotu.proofs.calls.next.Goals as goal

pub returns : goal.returns
returns c = λ rest.
    next_so _ _ _ c.requires.1 (subst SaidFit (sym (said_front _ rest c.told-state)) c.requires.0) (c.said_at-said.ensures ∙ sym (said_front _ rest c.told-state)) c.min-n.ensures c.copy_from_slice.ensures.after
    (kept_by _ rest c.told-state (λ e. with_said (record { len = c.said_at-said.result.len; pos = c.said_at-said.result.pos + c.min-n.result }) e) c.tell.array_long c.tell.ensures)
