-- What a test picks, and what two tests say together.
use Rattle.std.specs.Prelude.{◌≡◌, refl, Bool, true, false, ◌&&◌, ◌||◌, cond, ◌⊎◌, ℕ}
use Rattle.std.proofs.Common.{inl, inr, arith}

-- what holds of both holds of the one that a test picks, by what the test said
pub picked : {A : Type 0} (P : A → Type 0) (b : Bool) (x y : A) → (b ≡ true → P x) → (b ≡ false → P y) → P (cond b x y)
picked P true x y h k = h refl
picked P false x y h k = k refl

-- one of two tests failed
pub and_false : (a b : Bool) → (a && b) ≡ false → (a ≡ false) ⊎ (b ≡ false)
and_false true b e = inr e
and_false false b e = inl refl

pub or_false : (a b : Bool) → (a || b) ≡ false → (a ≡ false) × (b ≡ false)
or_false true b e = absurd (let z : ◌≡◌ {A = ℕ} 0 1 = cc in omega arith)
or_false false b e = (refl, e)

pub or_later : (a b : Bool) → (a || b) ≡ true → a ≡ false → b ≡ true
or_later true b e n = absurd (let z : ◌≡◌ {A = ℕ} 0 1 = cc in omega arith)
or_later false b e n = e

pub and_both : (a b : Bool) → (a && b) ≡ true → (a ≡ true) × (b ≡ true)
and_both true b e = (refl, e)
and_both false b e = absurd (let z : ◌≡◌ {A = ℕ} 0 1 = cc in omega arith)
