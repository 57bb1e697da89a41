-- What is left of the bytes gives the register the same end as all of them from the start.
use Rattle.std.proofs.Common.{◌≡◌, ◌≤◌, length, drop}
use Rattle.wire.specs.Crc.{crc_from}
use Rattle.wire.proofs.crc.by_bytes.Given as goal

abbrev pub invariant-loop-b : goal.invariant-loop-b
invariant-loop-b l = (l.b-index ≤ length l.s) × (crc_from l.r (drop l.b-index l.s) ≡ crc_from l.from l.s)
