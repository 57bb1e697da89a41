-- A frame that asks for nothing is dropped, any other is performed.
use Rattle.engine.proofs.Execs.{exec_run}
use Rattle.engine.proofs.types.Engine.exec.Goals as goal

pub returns-clause-execs : goal.returns-clause-execs
returns-clause-execs c = exec_run _ _ c.in-Some.ensures (c.perform.ensures.performs _)
