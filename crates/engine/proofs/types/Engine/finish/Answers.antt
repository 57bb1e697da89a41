-- The flush, the reply by the burn result, and status 0.
use Rattle.engine.specs.World.{world_of}
use Rattle.engine.proofs.Streams.{finish_told}
use Rattle.engine.proofs.types.Engine.finish.Goals as goal

pub returns-clause-finishes : goal.returns-clause-finishes
returns-clause-finishes c = λ q. finish_told _ (world_of c.args.self.now q c.args.rooms.now) _ (c.settle.ensures.settles q) c.requires c.whether-ended.ensures (c.end.ensures.ends q)
