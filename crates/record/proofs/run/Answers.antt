-- The input loses a front at each record, and at its end there is none.
use Rattle.record.proofs.Prints.{shrinks_trans, none_left, not_record, not_bad}
use Rattle.record.proofs.run.Goals as goal

pub returns-in_err-read_record-clause-rest : goal.returns-in_err-read_record-clause-rest
returns-in_err-read_record-clause-rest g c = shrinks_trans _ _ _ c.loop-n.invariant.0 c.read_record.ensures.rest

pub returns-in-Bad-clause-rest : goal.returns-in-Bad-clause-rest
returns-in-Bad-clause-rest g c = shrinks_trans _ _ _ c.loop-n.invariant.0 c.read_record.ensures.rest

pub returns-in-Bad-clause-ended : goal.returns-in-Bad-clause-ended
returns-in-Bad-clause-ended g c = λ e. absurd (not_bad _ c.in-Bad.is (c.in_ok-read_record.ensures.ended (none_left _ _ c.loop-n.invariant.0 e)))

pub returns-in_err-take-in-Record-clause-rest : goal.returns-in_err-take-in-Record-clause-rest
returns-in_err-take-in-Record-clause-rest g c = shrinks_trans _ _ _ c.loop-n.invariant.0 c.read_record.ensures.rest

pub returns-in_err-take-in-Record-clause-ended : goal.returns-in_err-take-in-Record-clause-ended
returns-in_err-take-in-Record-clause-ended g c = λ e. absurd (not_record _ _ _ c.in-Record.is (c.in_ok-read_record.ensures.ended (none_left _ _ c.loop-n.invariant.0 e)))

pub loop-n-preserved : goal.loop-n-preserved
loop-n-preserved g c = (
  shrinks_trans _ _ _ c.loop-n.invariant.0 c.read_record.ensures.rest,
  λ e. absurd (not_record _ _ _ c.in-Record.is (c.in_ok-read_record.ensures.ended (none_left _ _ c.loop-n.invariant.0 e))),
)

pub returns-in-End-clause-rest : goal.returns-in-End-clause-rest
returns-in-End-clause-rest g c = shrinks_trans _ _ _ c.loop-n.invariant.0 c.read_record.ensures.rest

pub returns-then-is_break-clause-rest : goal.returns-then-is_break-clause-rest
returns-then-is_break-clause-rest g c = shrinks_trans _ _ _ c.loop-n.invariant.0 c.read_record.ensures.rest

pub returns-then-is_break-clause-ended : goal.returns-then-is_break-clause-ended
returns-then-is_break-clause-ended g c = λ e. absurd (not_record _ _ _ c.in-Record.is (c.in_ok-read_record.ensures.ended (none_left _ _ c.loop-n.invariant.0 e)))
