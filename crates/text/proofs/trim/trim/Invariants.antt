-- `trim::trim`: whenever a turn begins, what is kept of the text is what stands before the rest, and what is kept of the rest.
use Rattle.std.specs.Prelude.{◌≡◌, ◌+◌, ◌≤◌, length}
use Rattle.text.specs.Trim.{keep}
use Rattle.text.proofs.trim.trim.Given as goal

abbrev pub invariant-loop-behind : goal.invariant-loop-behind
invariant-loop-behind l = record { shorter : length l.rest ≤ length l.text; kept : length (keep 0 l.text) + length l.rest ≡ length l.text + length (keep 0 l.rest) }

abbrev pub decreases-loop-behind : goal.decreases-loop-behind
decreases-loop-behind l = length l.rest
