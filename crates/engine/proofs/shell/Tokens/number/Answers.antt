-- No token is left, or what the next one says.
use Rattle.std.proofs.Common.{rules, ◌≡◌, ◌∙◌, ℕ, List, Some, None}
use Rattle.engine.proofs.Lines.{skip_some, number_none, number_some, on_some}
use Rattle.engine.proofs.shell.Tokens.number.Goals as goal

pub returns-in_err-at-clause-value : goal.returns-in_err-at-clause-value
returns-in_err-at-clause-value c =
    let none : c.args.self.now.place ≡ None = search rules in
    c.from_residual.ensures ∙ number_none _ none (λ (n : ℕ) (ts : List (List ℕ)). Some n)

pub returns-clause-value : goal.returns-clause-value
returns-clause-value c =
    let some : c.args.self.now.place ≡ Some c.in_ok-at.at = search rules in
    number_some _ some c.token.ensures c.parse.ensures

pub returns-clause-rest : goal.returns-clause-rest
returns-clause-rest c =
    let some : c.args.self.now.place ≡ Some c.in_ok-at.at = search rules in
    on_some _ (skip_some _ some c.place_after-self.ensures)
