-- A flush that fails, or the checksum, and behind it the bytes at the target.
use Rattle.engine.proofs.Told.{rest_is}
use Rattle.engine.proofs.Storings.{crc_told}
use Rattle.engine.proofs.types.Engine.crc_query.Goals as goal

pub returns-clause-answers : goal.returns-clause-answers
returns-clause-answers c = λ q. crc_told _ _ (rest_is q c.flush_store.ensures.rest) c.in_ok-flush_store.ensures.flushes c.le4.ensures c.put.ensures (c.probe.ensures.probes q)
