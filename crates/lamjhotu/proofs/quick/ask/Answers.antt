-- The answer from four parts of the record, and its place.
use Rattle.lamjhotu.proofs.Shorts.{ask_told}
use Rattle.lamjhotu.proofs.quick.ask.Goals as goal

pub returns : goal.returns
returns c = λ rest.
    ask_told _ rest _ _ _ _ _ _ c.told-state c.tell.array_long c.store_at-store.ensures c.small_at.ensures c.small_at-2.ensures c.small_at-3.ensures c.answer-ended.ensures.reply c.status_of-status.ensures c.len_of.ensures
    c.header_in.ensures c.tell.ensures
