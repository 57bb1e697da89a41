-- What is left gives the same answer in the same rooms: the loop keeps that, and each turn takes a byte at least.
use Rattle.std.proofs.Common.{length}
use Rattle.engine.specs.World.{world_of}
use Rattle.engine.proofs.Feeds.{Going}
use Rattle.engine.proofs.types.Engine.feed.Given as goal

abbrev pub invariant-loop-rest : goal.invariant-loop-rest
invariant-loop-rest l =
    Going l.given (world_of l.initial.self l.initial.request l.initial.rooms) l.bytes (world_of l.self l.request l.rooms) l.rest l.initial.rooms l.rooms

abbrev pub decreases-loop-rest : goal.decreases-loop-rest
decreases-loop-rest l = length l.rest
