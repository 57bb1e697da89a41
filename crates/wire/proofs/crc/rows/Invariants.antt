-- After j bytes the sum so far and what is left of the four give the same shifts.
use Rattle.std.proofs.Common.{◌≡◌, ◌+◌, ◌-◌, ◌*◌, ◌/◌, ◌^◌, ◌≤◌}
use Rattle.wire.specs.Crc.{◌⊕◌, shifts}
use Rattle.wire.proofs.crc.rows.Given as goal

abbrev pub invariant-loop-j : goal.invariant-loop-j
invariant-loop-j l = (l.j ≤ 4) × (l.y ≡ l.x / 2 ^ (8 * l.j)) × (l.r ⊕ shifts (64 - 8 * (l.up + l.j)) l.y ≡ shifts (64 - 8 * l.up) l.x)
