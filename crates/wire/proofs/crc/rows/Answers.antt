-- After j bytes the sum so far and what is left of the four give the same shifts.
use Rattle.std.proofs.Common.{ℕ, ◌+◌, ◌-◌, ◌*◌, ◌/◌, ◌%◌, List, get_or, ap, ◌∙◌, add-zero, arith}
use Rattle.wire.specs.Crc.{◌⊕◌, shifts}
use Rattle.wire.proofs.Slices.{rows_turn, further, all_in}
use Rattle.wire.proofs.crc.rows.Goals as goal

pub loop-j-init : goal.loop-j-init
unfolding ◌⊕◌
loop-j-init c = (omega arith, omega arith, ap (λ (n : ℕ). shifts (64 - 8 * n) c.args.x) (add-zero c.args.up))

pub loop-j-preserved : goal.loop-j-preserved
unfolding ◌⊕◌
loop-j-preserved c = (
  omega arith,
  further c.args.x c.loop-j.y c.loop-j.j c.loop-j.invariant.1,
  ap (λ (l : List ℕ). (c.loop-j.r ⊕ get_or l ((c.args.up + c.loop-j.j) * 256 + c.loop-j.y % 256) 0) ⊕ shifts (64 - 8 * (c.args.up + (c.loop-j.j + 1))) (c.loop-j.y / 256)) c.table-t.ensures
      ∙ rows_turn c.loop-j.r c.loop-j.y c.args.up c.loop-j.j _ c.requires.0 c.loop-j-test.true c.loop-j.invariant.2,
)

pub returns : goal.returns
returns c = all_in c.loop-j.r c.loop-j.y c.args.x c.args.up c.loop-j.j _ c.loop-j-test.false c.loop-j.invariant.0 c.requires.1 c.loop-j.invariant.1 c.loop-j.invariant.2
