-- What is left of the bytes, with what was counted, gives the same answer as all of them from the start.
use mathlib.Core.Path.{refl, ◌∙◌}
use native.Mathlib.Omega.{arith}
use Rattle.std.proofs.Common.{rules}
use Rattle.std.specs.Slice.Iter.{chunks_rest}
use Rattle.storage.specs.World.{dev}
use Rattle.storage.proofs.Scratches.{count_is, plus_none, out_end, out_few, out_stop, out_again}
use Rattle.storage.proofs.types.Store.pieces_out.Goals as goal

pub loop-piece-init : goal.loop-piece-init
loop-piece-init c = (search rules, tt, search rules, search rules, refl, refl, rw (c.into_iter-piece-iterator.ensures.into_iter_gives, c.chunks-piece-items.ensures.rest) (plus_none _ _ _ _ _))

pub overflow_add-done : goal.overflow_add-done
overflow_add-done c =
    let l = c.loop-piece in
    let i = l.invariant in
    let s = c.in-Some.ensures.steps in
    let f = out_few c.args.lent.now l.at (chunks_rest l.piece-iterator) l.done (dev l.self l.chip l.buffer) i.6 c.in-Some.piece.now (chunks_rest c.next.new.self) s.1.0 (rw i.2 at s.1.1) s.1.2 c.write.ensures (count_is c.write.result c.unwrap_or-count.ensures) in
    omega (arith, c.well_formed, f, i.3)

pub returns-then-count-piece : goal.returns-then-count-piece
returns-then-count-piece c =
    let l = c.loop-piece in
    let i = l.invariant in
    let s = c.in-Some.ensures.steps in
    out_stop c.args.lent.now l.at (chunks_rest l.piece-iterator) l.done (dev l.self l.chip l.buffer) i.6 c.in-Some.piece.now (chunks_rest c.next.new.self) s.1.0 (rw i.2 at s.1.1) s.1.2 c.write.ensures (count_is c.write.result c.unwrap_or-count.ensures) c.if-count-piece.true

pub loop-piece-preserved : goal.loop-piece-preserved
loop-piece-preserved c =
    let l = c.loop-piece in
    let i = l.invariant in
    let s = c.in-Some.ensures.steps in
    let k = count_is c.write.result c.unwrap_or-count.ensures in
    let f = out_few c.args.lent.now l.at (chunks_rest l.piece-iterator) l.done (dev l.self l.chip l.buffer) i.6 c.in-Some.piece.now (chunks_rest c.next.new.self) s.1.0 (rw i.2 at s.1.1) s.1.2 c.write.ensures k in (
      search rules,
      tt,
      s.0 ∙ i.2,
      omega (arith, f, i.3, c.if-count-piece.false),
      omega (arith, i.4),
      omega (arith, i.5),
      out_again c.args.lent.now l.at (chunks_rest l.piece-iterator) l.done (dev l.self l.chip l.buffer) i.6 c.in-Some.piece.now (chunks_rest c.next.new.self) s.1.0 (rw i.2 at s.1.1) s.1.2 c.write.ensures k c.if-count-piece.false c.saturating_add-at.ensures,
    )

pub returns : goal.returns
returns c =
    let l = c.loop-piece in
    out_end c.args.lent.now l.at (chunks_rest l.piece-iterator) l.done (dev l.self l.chip l.buffer) l.invariant.6 c.in-None.ensures.steps.1.0
