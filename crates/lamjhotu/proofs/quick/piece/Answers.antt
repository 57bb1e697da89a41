-- What the storage was told, the checksum and the burn result, counted. The store keeps its shape.
use native.Mathlib.Omega.{arith}
use Rattle.storage.proofs.Scratches.{count_is}
use Rattle.lamjhotu.specs.State.{update_at}
use Rattle.lamjhotu.proofs.Pieces.{stored_keeps, piece_counted}
use Rattle.lamjhotu.proofs.quick.piece.Goals as goal

pub overflow_add-written : goal.overflow_add-written
unfolding update_at
overflow_add-written c = omega (arith, c.word_at.ensures, c.requires.0.0, c.requires.1)

pub count-requires : goal.count-requires
count-requires c = stored_keeps _ _ _ _ _ c.stored.ensures c.requires.2

pub returns : goal.returns
returns c = λ rest.
    piece_counted _ _ _ _ _ rest c.stored.ensures c.told-state c.count.array_long c.small_at.ensures c.crc32_update-crc.ensures c.small_at-2.ensures (count_is c.stored.result c.unwrap_or-went.ensures)
    c.burn_by-burn.ensures c.word_at.ensures c.word_at-2.ensures c.count.ensures
