-- What is left of the bytes, with what was counted, gives the same answer as all of them from the start.
use mathlib.Core.Path.{◌≡◌}
use Prim.Native.Nat.{◌+◌}
use lib.ListN.{length}
use Rattle.std.specs.Slice.Iter.{chunks_rest, chunks_size}
use Rattle.storage.specs.World.{dev}
use Rattle.storage.specs.Nor.{pages_of}
use Rattle.storage.specs.Scratch.{plus, out_k}
use Rattle.storage.proofs.types.Store.pieces_out.Given as goal

abbrev pub invariant-loop-piece : goal.invariant-loop-piece
invariant-loop-piece l =
    goal.iterator-loop-piece.can_next l.piece-iterator
    × goal.iterator-loop-piece.is_finite l.piece-iterator
    × (chunks_size l.piece-iterator ≡ 256)
    × (l.done + length (chunks_rest l.piece-iterator) ≡ length l.bytes)
    × (length l.chip ≡ length l.initial.chip)
    × (length l.buffer ≡ length l.initial.buffer)
    × (plus l.done (out_k (pages_of 256 (length (chunks_rest l.piece-iterator))) l.lent l.at (chunks_rest l.piece-iterator) (dev l.self l.chip l.buffer))
    ≡ out_k (pages_of 256 (length l.bytes)) l.lent l.offset l.bytes (dev l.initial.self l.initial.chip l.initial.buffer))
