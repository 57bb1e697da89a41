-- `number::all_digits`: a value that does not fit never comes to fit again, so the code may stop there.
use Rattle.std.proofs.Common.{◌*◌, ◌+◌, sym, ◌∙◌, arith}
use Rattle.text.proofs.Digits.{over, next}
use Rattle.text.proofs.number.all_digits.Goals as goal

-- a digit is taken, and what it makes no longer fits
pub returns-in_err-checked_mul : goal.returns-in_err-checked_mul
returns-in_err-checked_mul c =
    let a = c.args in
    c.from_residual.ensures
    ∙ sym (over a.base (omega arith) (c.loop-b.v * a.base + c.digit_of-d.result) _ (omega (arith, c.in_err-checked_mul.ensures)))
    ∙ next a.base a.s.now c.loop-b.b-index c.loop-b.v c.digit_of-d.ensures (omega arith) (omega arith)
    ∙ c.loop-b.invariant.same

pub returns-in_err-v : goal.returns-in_err-v
returns-in_err-v c =
    let a = c.args in
    c.from_residual-in_err-v.ensures
    ∙ sym (over a.base (omega arith) (c.loop-b.v * a.base + c.digit_of-d.result) _ (omega (arith, c.in_ok-checked_mul.ensures, c.in_err-v.ensures)))
    ∙ next a.base a.s.now c.loop-b.b-index c.loop-b.v c.digit_of-d.ensures (omega arith) (omega arith)
    ∙ c.loop-b.invariant.same
