-- What has been read lies within the room, and the input has lost a front; of an input at its end, nothing.
use Rattle.std.proofs.Common.{◌≡◌, ◌≤◌, length, Some, []}
use Rattle.record.specs.Record.{Shrinks}
use Rattle.record.proofs.read_full.Given as goal

abbrev pub invariant-loop : goal.invariant-loop
invariant-loop g l = (l.done ≤ length l.room) × Shrinks (g.R.Read.remaining l.initial.input) (g.R.Read.remaining l.input) × (g.R.Read.remaining l.initial.input ≡ Some [] → l.done ≡ 0)
