-- A write's bytes stand behind those before it, and one that was interrupted wrote none.
use Rattle.std.proofs.Common.{rules, ℕ, take, sym, subst}
use Rattle.std.specs.Io.KnownBytes.{Appends}
use Rattle.std.proofs.KnownBytes.{Appends-kept}
use Rattle.record.proofs.Prints.{appends_more}
use Rattle.record.proofs.print.put.Goals.{in-Ok, in-Err+else-ne}
use Rattle.record.proofs.print.put.Goals as goal

pub loop-preserved : goal.loop-preserved
loop-preserved g c =
    let s = c.args.s.now in
    let (low, stood) = c.loop.invariant in
    let start = g.W.Write.contents c.args.to.now in
    let before = g.W.Write.contents c.loop.to in
    let after = g.W.Write.contents c.write.new.self in
    elim c.match-write.branch [
      | in-Ok w ↦ (search rules, subst (λ (k : ℕ). Appends start after (take k s)) (sym w.done-is) (appends_more start before after s c.loop.done w.in-Ok.n stood w.in-Ok.ensures.bytes))
      | in-Err+else-ne w ↦ (search rules, subst (λ (k : ℕ). Appends start after (take k s)) (sym w.done-is) (Appends-kept start before after _ stood w.in-Err.ensures.bytes))
    ]
