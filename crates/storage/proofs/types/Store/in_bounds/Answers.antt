-- A NAND's page is tested before the held one is, so it is not 0.
use mathlib.Core.Path.{sym, ◌∙◌}
use native.Mathlib.Omega.{arith}
use Rattle.storage.proofs.Opens.{geometry}
use Rattle.storage.proofs.types.Store.in_bounds.Goals as goal

pub held_ok-requires-then-geometry_ok : goal.held_ok-requires-then-geometry_ok
held_ok-requires-then-geometry_ok c = omega (arith, (geometry _ _ _ (sym c.geometry_ok.ensures ∙ c.if-geometry_ok.true)).page_low)
