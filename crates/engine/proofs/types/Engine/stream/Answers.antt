-- More is awaited, or this was the last piece.
use Rattle.std.proofs.Common.{[]}
use Rattle.engine.specs.World.{world_of}
use Rattle.engine.proofs.Streams.{fed_fits}
use Rattle.engine.proofs.types.Engine.stream.Goals as goal

pub finish-requires : goal.finish-requires
finish-requires c = fed_fits _ _ (world_of c.args.self.now [] c.args.rooms.now) (world_of c.feed_piece.new.self [] c.feed_piece.new.rooms) (c.feed_piece.ensures.feeds []) c.requires.0
