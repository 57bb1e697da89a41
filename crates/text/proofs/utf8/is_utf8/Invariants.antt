-- `utf8::is_utf8`: whenever the loop's test is reached, what is left is a run of characters just where the whole is one,
-- and begins with no character of one octet.
use Rattle.std.specs.Prelude.{◌≡◌, false, length}
use Rattle.text.specs.Utf8.{begins, any_of, utf8_1, octets}
use Rattle.text.proofs.utf8.is_utf8.Given as goal

abbrev pub invariant-loop-rest : goal.invariant-loop-rest
invariant-loop-rest l = record { same : octets 0 l.rest ≡ octets 0 l.s; past : any_of (begins l.rest) utf8_1 ≡ false }

abbrev pub decreases-loop-rest : goal.decreases-loop-rest
decreases-loop-rest l = length l.rest
