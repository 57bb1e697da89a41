-- Past the end nothing is left.
use Rattle.std.proofs.Common.{sym}
use Rattle.wire.specs.Bytes.{word_at}
use Rattle.wire.proofs.Words.{past}
use Rattle.wire.proofs.bytes.u32_at.Goals as goal

pub returns-then-s-at : goal.returns-then-s-at
unfolding word_at
returns-then-s-at c = sym (past 4 c.args.s.now c.args.at c.if-s-at.true)
