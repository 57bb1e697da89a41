-- The command is run, then the header is laid before its data.
use Rattle.engine.specs.World.{world_of}
use Rattle.engine.proofs.Execs.{perform_told}
use Rattle.engine.proofs.types.Engine.perform.Goals as goal

pub returns-clause-performs : goal.returns-clause-performs
returns-clause-performs c = λ q. perform_told _ _ _ (world_of c.args.self.now q c.args.rooms.now) c.requires c.begin_command.ensures (c.runs-ended.ensures.runs q) (c.end.ensures.ends q)
