-- The numbers, the marks behind them, the metadata behind those: all of the record.
use Rattle.lamjhotu.proofs.States.{pack_told}
use borrow.Author.Rules.{rules}
use Rattle.lamjhotu.proofs.state.pack.Goals as goal

pub returns : goal.returns
returns c = pack_told _ _ c.told-s (search (rules, c.well_formed)) c.marks-m.ensures c.words.ensures c.smalls.ensures c.put.ensures c.put-2.ensures
