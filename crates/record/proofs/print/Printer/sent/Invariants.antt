-- The lines so far, and then those of the data that is left, are the lines of all the data.
use Rattle.std.proofs.Common.{◌≡◌, length, take}
use Rattle.std.specs.Slice.Iter.{chunks_rest, chunks_size}
use Rattle.record.specs.Print.{packet_lines}
use Rattle.record.proofs.Prints.{LinesSoFar}
use Rattle.record.proofs.print.Printer.sent.Given as goal

abbrev pub invariant-loop-packet : goal.invariant-loop-packet
invariant-loop-packet g l = (chunks_size l.packet-iterator ≡ 512)
    × LinesSoFar l.n (packet_lines l.n (length l.sent) (take l.moved l.sent)) (g.W.Write.contents l.initial.self.to) (g.W.Write.contents l.self.to) (chunks_rest l.packet-iterator)
