-- Remainders by a page size that is a variable: an address further on in the same page.
use mathlib.Core.Path.{◌≡◌, ap, ◌∙◌}
use Prim.Native.Nat.{ℕ, ◌+◌, ◌*◌, ◌%◌, ◌/◌, ◌<◌}
use native.Mathlib.Nat.{div-add-mod', mul-add-mod_self_right, mod-eq_of_lt}
use native.Mathlib.Omega.{arith}
use Rattle.storage.specs.Fold.{base}

-- n bytes further in the same page
pub mod_on : (a n p : ℕ) → a % p + n < p → (a + n) % p ≡ a % p + n
mod_on a n p h =
    let e : a + n ≡ a / p * p + (a % p + n) = omega (arith, div-add-mod' a p) in
    ap (λ (k : ℕ). k % p) e ∙ mul-add-mod_self_right (a / p) p (a % p + n) ∙ mod-eq_of_lt h

pub base_on : (a n p : ℕ) → a % p + n < p → base p (a + n) ≡ base p a
base_on a n p h = rw (mod_on a n p h) (omega arith)
