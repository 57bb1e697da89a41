-- What is left of the room, with what was counted and read before it, gives the same answer as all of it from the start.
use mathlib.Core.Path.{refl}
use Prim.Native.Nat.{◌+◌, ◌-◌}
use native.Mathlib.Omega.{arith}
use lib.ListN.{drop, length-take, length-drop}
use Rattle.storage.specs.World.{dev}
use Rattle.storage.proofs.Scratches.{count_is, in_start, in_end, in_few, in_stop, in_again}
use Rattle.storage.proofs.types.Store.pieces_in.Goals as goal

pub loop-done-init : goal.loop-done-init
loop-done-init c = (omega arith, refl, refl, in_start _ _ _ _ _)

pub overflow_add-result : goal.overflow_add-result
overflow_add-result c =
    let l = c.loop-done in
    omega (arith, c.well_formed, in_few c.args.lent.now l.at l.room l.done (dev l.self l.chip c.args.buffer.now) l.invariant.3 c.loop-done-test.true c.min-n.ensures refl c.read.ensures (count_is c.read.result c.unwrap_or-count.ensures), l.invariant.2)

pub returns-then-count-n : goal.returns-then-count-n
returns-then-count-n c =
    let l = c.loop-done in
    in_stop c.args.lent.now l.at l.room l.done (dev l.self l.chip c.args.buffer.now) l.invariant.3 c.loop-done-test.true c.min-n.ensures refl c.read.ensures (count_is c.read.result c.unwrap_or-count.ensures) c.if-count-n.true

pub loop-done-preserved : goal.loop-done-preserved
loop-done-preserved c =
    let l = c.loop-done in (
      omega (arith, l.invariant.0, c.loop-done-test.true, c.min-n.ensures),
      omega (arith, l.invariant.1),
      omega (arith, l.invariant.2),
      in_again c.args.lent.now l.at l.room l.done (dev l.self l.chip c.args.buffer.now) l.invariant.3 c.loop-done-test.true c.min-n.ensures refl c.read.ensures (count_is c.read.result c.unwrap_or-count.ensures)
          (omega (arith, length-take (l.done + c.min-n.result - l.done) (drop l.done l.room), length-drop l.done l.room, c.loop-done-test.true, c.min-n.ensures)) c.if-count-n.false c.saturating_add-at.ensures,
    )

pub returns : goal.returns
returns c =
    let l = c.loop-done in
    in_end c.args.lent.now l.at l.room l.done (dev l.self l.chip c.args.buffer.now) l.invariant.3 (omega arith)
