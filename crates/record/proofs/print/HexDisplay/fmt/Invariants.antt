-- So far the digits of the bytes before this one are written.
use Rattle.std.proofs.Common.{take}
use Rattle.std.specs.Fmt.{HasWritten, IsPlainFormatter}
use Rattle.record.specs.Print.{hex_of}
use Rattle.record.proofs.print.HexDisplay.fmt.Given as goal

abbrev pub invariant-loop-byte : goal.invariant-loop-byte
invariant-loop-byte g l = IsPlainFormatter l.initial.f → HasWritten g.F.Write.write_str_gives l.initial.f (hex_of (take l.byte-index l.byte-items)) l.f
