-- `utf8::after_ascii`: whenever the loop's test is reached, what is left is a run of characters just where the whole is one, and no longer.
use Rattle.std.specs.Prelude.{◌≡◌, ◌≤◌, length}
use Rattle.text.specs.Utf8.{octets}
use Rattle.text.proofs.utf8.after_ascii.Given as goal

abbrev pub invariant-loop-rest : goal.invariant-loop-rest
invariant-loop-rest l = record { same : octets 0 l.rest ≡ octets 0 l.s; part : length l.rest ≤ length l.s }

abbrev pub decreases-loop-rest : goal.decreases-loop-rest
decreases-loop-rest l = length l.rest
