-- Unpacked, written, packed where it was not refused; the rooms are those that were lent.
use mathlib.Core.Path.{sym, ◌∙◌}
use Rattle.std.proofs.Common.{rules}
use Rattle.lamjhotu.proofs.Exports.{write_long}
use Rattle.lamjhotu.proofs.Fronts.{long_front, unpack_front}
use Rattle.lamjhotu.proofs.calls.write_whole.Goals as goal

pub returns : goal.returns
returns c = λ rest.
    let w = write_long _ _ _ _ _ _ _ _ (long_front _ rest c.told-state) (c.unpack-e.ensures ∙ sym (unpack_front _ rest c.told-state)) c.write.ensures.writes c.status_number-status.ensures (c.saved.ensures rest) in
    search (rules, w)
