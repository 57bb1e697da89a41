-- What is left of the words gives the register the same end as all of them from the start.
use Rattle.std.proofs.Common.{◌≡◌, drop}
use Rattle.std.specs.List.{concat}
use Rattle.wire.specs.Crc.{crc_from}
use Rattle.wire.proofs.crc.by_words.Given as goal

abbrev pub invariant-loop-bytes : goal.invariant-loop-bytes
invariant-loop-bytes l = crc_from l.r (concat (drop l.bytes-index l.words)) ≡ crc_from l.from (concat l.words)
