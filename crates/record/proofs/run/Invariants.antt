-- The input has lost a front, and where it was at its end nothing has happened.
use Rattle.std.proofs.Common.{◌≡◌, Some, []}
use Rattle.record.specs.Record.{Shrinks}
use Rattle.record.proofs.run.Given as goal

abbrev pub invariant-loop-n : goal.invariant-loop-n
invariant-loop-n g l = Shrinks (g.R.Read.remaining l.initial.input) (g.R.Read.remaining l.input)
    × (g.R.Read.remaining l.initial.input ≡ Some [] → (l.out ≡ l.initial.out) × (l.program ≡ l.initial.program))
