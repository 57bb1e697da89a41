-- What was laid into the room is the text, and the room's bytes are written.
use Rattle.std.proofs.Common.{subst, ◌∙◌}
use Rattle.std.proofs.lemmas.Result.{on_ok_weaker, on_err_weaker}
use Rattle.std.specs.Io.KnownBytes.{Appends}
use Rattle.record.specs.Record.{AppendsFront}
use Rattle.record.proofs.Prints.{laid_text}
use Rattle.record.proofs.print.Printer.write_fmt.Goals as goal

pub returns-clause-ok : goal.returns-clause-ok
returns-clause-ok g c =
    let P = Appends (g.W.Write.contents c.args.self.now.to) (g.W.Write.contents c.put.new.to) in
    on_ok_weaker c.put.result
    (λ p. laid_text _ (λ s. s.bytes) (λ _ _ _ t. t) _ _ _ c.clear.ensures c.in_ok-write.ensures.writes P (subst P (c.as_bytes.ensures.value ∙ c.as_str.ensures.value) p))
    c.put.ensures.ok

pub returns-clause-err : goal.returns-clause-err
returns-clause-err g c =
    let P = AppendsFront (g.W.Write.contents c.args.self.now.to) (g.W.Write.contents c.put.new.to) in
    on_err_weaker c.put.result
    (λ p. laid_text _ (λ s. s.bytes) (λ _ _ _ t. t) _ _ _ c.clear.ensures c.in_ok-write.ensures.writes P (subst P (c.as_bytes.ensures.value ∙ c.as_str.ensures.value) p))
    c.put.ensures.err
