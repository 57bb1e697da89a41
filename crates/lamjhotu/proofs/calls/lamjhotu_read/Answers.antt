-- Row 9 in the order of the code, then the next bytes.
use mathlib.Core.Path.{sym, ◌∙◌}
use Rattle.lamjhotu.proofs.Exports.{read_short}
use Rattle.lamjhotu.proofs.Shorts.{fits_so, fits_lists, fits_not, read_none, read_fit, read_told}
use Rattle.lamjhotu.proofs.Fronts.{whole, fits_chunk}
use Rattle.lamjhotu.proofs.calls.lamjhotu_read.Goals as goal

pub returns-in_default : goal.returns-in_default
returns-in_default c = λ f t. read_short _ _ _ _ _ _ _ _ c.in_default.ensures.cases

pub returns-then-not-fits_in : goal.returns-then-not-fits_in
returns-then-not-fits_in c =
    let k = c.in-Some.ensures.cases in
    λ f t. read_none _ _ _ _ _ _ _ (fits_not _ _ _ _ _ _ _ (sym (fits_chunk _ k _ _ _ _ _ _ c.fits_in.ensures) ∙ c.if-not-fits_in.true)) _ (whole _ k)

pub returns-then-not-fit : goal.returns-then-not-fit
returns-then-not-fit c =
    λ f t. read_none _ _ _ _ _ _ _ (fits_lists _ _ _ _ _ _ _ (sym c.fit.ensures ∙ c.if-not-fit.true)) _ (whole _ c.in-Some.ensures.cases)

pub next-requires : goal.next-requires
next-requires c = read_fit _ _ _ _ _ _ _ (sym c.fits_in.ensures ∙ c.if-not-fits_in.false)

pub returns : goal.returns
returns c =
    let k = c.in-Some.ensures.cases in
    λ f t. read_told _ _ _ _ _ _ _ _ k.enough (whole _ k) (fits_so _ _ _ _ _ _ _ (sym (fits_chunk _ k _ _ _ _ _ _ c.fits_in.ensures) ∙ c.if-not-fits_in.false) (sym c.fit.ensures ∙ c.if-not-fit.false)) (c.next.ensures _)
