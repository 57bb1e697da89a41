-- Each packet's line stands behind those before it.
use Rattle.std.proofs.Common.{rules, arith, length, take, length-take, ◌∙◌}
use Rattle.record.proofs.Prints.{grows_trans, lines_begin, lines_more, lines_end, lines_stay, with_csw, without_csw}
use Rattle.record.proofs.print.Printer.sent.Goals as goal

pub loop-packet-init : goal.loop-packet-init
loop-packet-init g c = (
  search rules,
  rw (c.into_iter-packet-iterator.ensures.into_iter_gives, c.chunks-packet-items.ensures.rest, c.upto.ensures) (
      lines_begin c.args.n (length c.args.sent.now) (g.W.Write.contents c.args.self.now.to) (take c.args.moved c.args.sent.now) (omega (arith, length-take c.args.moved c.args.sent.now))
      ),
)

pub loop-packet-preserved : goal.loop-packet-preserved
loop-packet-preserved g c =
    let (size, lines) = c.loop-packet.invariant in
    let s = c.in-Some.ensures.steps in
    (s.0 ∙ size, lines_more _ _ _ _ _ _ _ _ lines s.1.0 (rw size at s.1.1) s.1.2 c.in_ok-packet.ensures.ok)

pub returns-in_err-packet-clause-kept : goal.returns-in_err-packet-clause-kept
returns-in_err-packet-clause-kept g c = grows_trans _ _ _ (lines_stay _ _ _ _ _ c.loop-packet.invariant.1) c.packet.ensures.kept

pub returns-in_err-packet-2-clause-kept : goal.returns-in_err-packet-2-clause-kept
returns-in_err-packet-2-clause-kept g c = grows_trans _ _ _ (lines_stay _ _ _ _ _ c.loop-packet.invariant.1) c.packet-then-csw.ensures.kept

pub returns-in_ok-packet-2-clause-ok : goal.returns-in_ok-packet-2-clause-ok
returns-in_ok-packet-2-clause-ok g c =
    let lines = lines_end _ _ _ _ _ c.loop-packet.invariant.1 c.in-None.ensures.steps.1.0 in
    with_csw _ _ _ _ _ _ _ _ c.if-csw.true (search rules) lines c.in_ok-packet-2.ensures.ok

pub returns-in_ok-packet-2-clause-kept : goal.returns-in_ok-packet-2-clause-kept
returns-in_ok-packet-2-clause-kept g c = grows_trans _ _ _ (lines_stay _ _ _ _ _ c.loop-packet.invariant.1) c.packet-then-csw.ensures.kept

pub returns-else-csw-clause-ok : goal.returns-else-csw-clause-ok
returns-else-csw-clause-ok g c = without_csw _ _ _ _ _ _ c.if-csw.false (lines_end _ _ _ _ _ c.loop-packet.invariant.1 c.in-None.ensures.steps.1.0)
