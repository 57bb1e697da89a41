-- `token::run`: the bytes that are measured are the run.
use Rattle.text.proofs.Tokens.{until_is}
use Rattle.text.proofs.token.run.Goals as goal

pub returns : goal.returns
returns c = rw c.run_len.ensures (until_is c.args.stop c.args.s.now)
