-- Refused where the tests fail; else what the step of the kind leaves.
use Rattle.std.proofs.Common.{rules}
use Rattle.storage.proofs.Nors as NorLaws
use Rattle.storage.proofs.NandMoves as NandLaws
use Rattle.storage.proofs.Stores.{shaped}
use Rattle.storage.proofs.types.Store.write.Goals as goal

pub write-requires-clause-laws : goal.write-requires-clause-laws
write-requires-clause-laws c = NorLaws.laws c.args.lent.now.faults

pub write-requires-in-Nand-clause-laws : goal.write-requires-in-Nand-clause-laws
write-requires-in-Nand-clause-laws c = NandLaws.laws c.args.lent.now c.args.self.now.shape.page (shaped _ _ c.accepts.ensures (search rules) c.in-Nand.is).shaped.page_some
