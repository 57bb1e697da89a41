-- A read's bytes stood behind those before it, and one that was interrupted took none.
use Rattle.std.proofs.Common.{rules, arith}
use Rattle.record.proofs.Prints.{shrinks_more, shrinks_kept, none_read}
use Rattle.record.proofs.read_full.Goals.{in-Ok, in-Err+else-ne}
use Rattle.record.proofs.read_full.Goals as goal

pub loop-preserved : goal.loop-preserved
loop-preserved g c =
    let (low, lost, none) = c.loop.invariant in
    let start = g.R.Read.remaining c.args.input.now in
    let before = g.R.Read.remaining c.loop.input in
    let after = g.R.Read.remaining c.read.new.self in
    elim c.match-read.branch [
      | in-Ok w ↦ (search rules, shrinks_more start before after _ lost w.in-Ok.ensures.bytes.0, λ e. omega (arith, w.done-is, none e, none_read start before after _ w.in-Ok.n e lost w.in-Ok.ensures.bytes.0 (search rules)))
      | in-Err+else-ne w ↦ (search rules, shrinks_kept start before after lost w.in-Err.ensures.bytes, search rules)
    ]
