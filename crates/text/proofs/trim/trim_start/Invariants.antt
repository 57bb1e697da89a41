-- `trim::trim_start`: whenever a turn begins, what is left is the same behind the white space at its start as the whole.
use Rattle.std.specs.Prelude.{◌≡◌, length}
use Rattle.text.specs.Trim.{trim_start}
use Rattle.text.proofs.trim.trim_start.Given as goal

abbrev pub invariant-loop-rest : goal.invariant-loop-rest
invariant-loop-rest l = trim_start l.rest ≡ trim_start l.s

abbrev pub decreases-loop-rest : goal.decreases-loop-rest
decreases-loop-rest l = length l.rest
