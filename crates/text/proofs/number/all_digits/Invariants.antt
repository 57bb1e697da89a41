-- `number::all_digits`: whenever a turn begins, `v` fits, and the digits that are left make, behind `v`, what all of them make.
use Rattle.std.proofs.Common.{◌≡◌, ◌≤◌, ◌<◌, ◌^◌, length, drop}
use Rattle.text.specs.Number.{digits}
use Rattle.text.proofs.number.all_digits.Given as goal

abbrev pub invariant-loop-b : goal.invariant-loop-b
invariant-loop-b l = record { in_range : l.b-index ≤ length l.s; small : l.v < 2 ^ 64; same : digits l.base l.v (drop l.b-index l.s) ≡ digits l.base 0 l.s }
