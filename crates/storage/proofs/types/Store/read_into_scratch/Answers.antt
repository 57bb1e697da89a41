-- Refused where the tests fail; else the part of scratch is filled in pieces.
use mathlib.Core.Path.{ap, ◌∙◌}
use Prim.Native.Nat.{ℕ, min, ◌-◌}
use native.Mathlib.Omega.{arith}
use lib.ListN.{length, drop, length-take, length-drop}
use Rattle.storage.specs.World.{dev}
use Rattle.storage.proofs.Scratches.{into_told}
use Rattle.storage.proofs.types.Store.read_into_scratch.Goals as goal

pub returns : goal.returns
returns c =
    let a = c.args in
    into_told a.scratch.now a.place a.len c.min-start.ensures (c.min-end.ensures ∙ ap (λ (k : ℕ). min k (length a.scratch.now)) c.saturating_add.ensures) (omega arith) a.lent.now a.offset (dev a.self.now a.chip.now a.buffer.now) (rw (← c.lent.view_is) c.fits.ensures) c.if-not-fits.false
    (omega (arith, length-take (c.min-end.result - c.min-start.result) (drop c.min-start.result a.scratch.now), length-drop c.min-start.result a.scratch.now, c.min-start.ensures, c.min-end.ensures))
    c.pieces_in.ensures
