-- The loop has programmed a front; at the end that is all of it.
use Rattle.std.proofs.Common.{arith}
use lib.ListN.{length-set}
use Rattle.storage.proofs.NandCalls.{kept_more}
use Rattle.storage.proofs.nand.keep.Goals as goal

pub loop-i-preserved : goal.loop-i-preserved
loop-i-preserved c =
    let z = c.args in
    let w = c.loop-i in
    (simp length-set (omega arith), rw w.invariant.1 (kept_more w.i z.to.now z.from.now (omega arith) (omega arith)))
