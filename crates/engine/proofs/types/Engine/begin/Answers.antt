-- No metadata, payload to come, or none.
use Rattle.engine.specs.World.{world_of}
use Rattle.engine.proofs.Streams.{begin_not}
use Rattle.engine.proofs.types.Engine.begin.Goals as goal

pub returns-then-not-self-clause-begins : goal.returns-then-not-self-clause-begins
returns-then-not-self-clause-begins c = λ q. begin_not _ _ (world_of c.args.self.now q c.args.rooms.now) c.if-not-self.true c.requires (c.end.ensures.ends q)
