-- A read copies no more than its room has.
use Rattle.std.proofs.Common.{arith}
use Rattle.transport.proofs.Steps.{read_count}
use Rattle.transport.proofs.step.read_stage.Goals as goal

pub overflow_cast-count : goal.overflow_cast-count
overflow_cast-count c = let h = read_count _ _ _ c.read.ensures c.unwrap_or-count.ensures in omega arith

pub overflow_sub-len : goal.overflow_sub-len
overflow_sub-len c = let h = read_count _ _ _ c.read.ensures c.unwrap_or-count.ensures in omega arith
