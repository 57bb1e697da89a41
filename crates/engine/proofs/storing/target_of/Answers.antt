-- An empty field, one that is not UTF-8, or what the lookup found.
use Rattle.std.proofs.Common.{rules, ◌≡◌, ◌∙◌, Ok, Err, Some}
use Rattle.engine.specs.declared.types.Failure.TheVariants.{Failed}
use Rattle.engine.specs.Storing.{found_at}
use Rattle.engine.proofs.Storings.{target_found}
use Rattle.engine.proofs.storing.target_of.Goals as goal

pub returns-in_err-offset : goal.returns-in_err-offset
returns-in_err-offset c =
    let told : c.from_residual.result ≡ found_at c.lookup.result = search rules in
    told ∙ target_found _ _ c.before_zero-name.ensures (search rules) (search rules) c.lookup.ensures

pub returns-in-Some : goal.returns-in-Some
returns-in-Some c =
    let told : Ok (Some c.in-Some.offset) ≡ found_at c.lookup.result = search rules in
    told ∙ target_found _ _ c.before_zero-name.ensures (search rules) (search rules) c.lookup.ensures

pub returns-in-None : goal.returns-in-None
returns-in-None c =
    let told : Err Failed ≡ found_at c.lookup.result = search rules in
    told ∙ target_found _ _ c.before_zero-name.ensures (search rules) (search rules) c.lookup.ensures
