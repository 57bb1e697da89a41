-- What is left of the lists, with the largest end so far, says what the lists say.
use Rattle.storage.proofs.Partitions.{Walks}
use Rattle.storage.proofs.lent.Partitions.walk.Given as goal

abbrev pub invariant-loop-offset : goal.invariant-loop-offset
invariant-loop-offset l = Walks l.self l.end l.names l.offset-iterator
