-- The loop has programmed a front; at the end that is all of it.
use Rattle.std.proofs.Common.{◌≡◌, length}
use Rattle.storage.proofs.NandCalls.{kept_to}
use Rattle.storage.proofs.nand.keep.Given as goal

abbrev pub invariant-loop-i : goal.invariant-loop-i
invariant-loop-i l = (length l.to ≡ length l.initial.to) × (l.to ≡ kept_to l.i l.initial.to l.from)
