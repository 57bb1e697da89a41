-- The head is read, and then the body.
use Rattle.record.proofs.Prints.{shrinks_trans}
use Rattle.record.proofs.read_record.Goals as goal

pub returns-clause-rest : goal.returns-clause-rest
returns-clause-rest g c =
    shrinks_trans (g.R.Read.remaining c.args.input.now) (g.R.Read.remaining c.read_full.new.input) (g.R.Read.remaining c.read_full-2.new.input) c.read_full.ensures.rest c.read_full-2.ensures.rest
