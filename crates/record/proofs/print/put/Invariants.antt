-- What has been taken stands behind what stood there.
use Rattle.std.proofs.Common.{◌≤◌, length, take}
use Rattle.std.specs.Io.KnownBytes.{Appends}
use Rattle.record.proofs.print.put.Given as goal

abbrev pub invariant-loop : goal.invariant-loop
invariant-loop g l = (l.done ≤ length l.s) × Appends (g.W.Write.contents l.initial.to) (g.W.Write.contents l.to) (take l.done l.s)
