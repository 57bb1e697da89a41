-- A shift divides by the power of two that the page size is.
use native.Mathlib.Omega.{arith}
use Rattle.storage.proofs.Powers.{shift_page}
use Rattle.storage.proofs.open.page_number.Goals as goal

pub overflow_shr-result : goal.overflow_shr-result
overflow_shr-result c =
    let a = c.args in
    omega (arith, c.page_shift.ensures, (shift_page a.page c.requires).1)
