-- Laws of tests: two that are joined, alternatives that are tried one after another, a front of a list that a test ends.
-- Assumes nothing.
use Rattle.std.specs.Prelude.{◌≡◌, ℕ, Bool, true, false, cond, ◌&&◌, ◌||◌, ◌-◌, List, [], ◌∷◌, length, take, drop}
use mathlib.Core.Path.{refl, sym, ap, ◌∙◌}
use mathlib.Core.Bool.{false≢true, or-false}
use lib.ListN.{length-drop}
use lib.Seq.{take-length}
use Rattle.text.specs.Utf8.{any_of}

-- ---- tests that are joined by && and ||

pub both : (x y : Bool) → x && y ≡ true → (x ≡ true) × (y ≡ true)
both true y e = (refl, e)
both false y e = absurd (false≢true e)

pub either : (x y : Bool) {P : Type 0} → (x ≡ true → P) → (y ≡ true → P) → x || y ≡ true → P
either true y f g e = f refl
either false y f g e = g e

-- ---- alternatives, tried one after another: t is what the test of the first one gave

module _ {A : Type 0} (p : A → Bool) (x : A) where
  pub hit : (xs : List A) {t : Bool} → t ≡ p x → t ≡ true → true ≡ any_of p (x ∷ xs)
  unfolding any_of
  hit xs e h = ap (λ (b : Bool). b || any_of p xs) (sym h ∙ e)

  pub miss : (xs : List A) {t r : Bool} → t ≡ p x → t ≡ false → r ≡ any_of p xs → r ≡ any_of p (x ∷ xs)
  unfolding any_of
  miss xs e h k = k ∙ ap (λ (b : Bool). b || any_of p xs) (sym h ∙ e)

  pub last : {t : Bool} → t ≡ p x → t ≡ any_of p (x ∷ [])
  unfolding any_of
  last e = e ∙ sym (or-false (p x))

-- ---- a front of a list, which ends before b where the test t holds

pub front : (t : Bool) (b : ℕ) (l : List ℕ) {x : List ℕ} → x ≡ take (length x) l → cond t [] (b ∷ x) ≡ take (length (cond t [] (b ∷ x))) (b ∷ l)
front true b l e = refl
front false b l e = ap (λ (y : List ℕ). b ∷ y) e

-- what is left of a list behind its first n items
pub behind : (n : ℕ) (s : List ℕ) → take (length s - n) (drop n s) ≡ drop n s
behind n s = ap (λ (k : ℕ). take k (drop n s)) (sym (length-drop n s)) ∙ take-length (drop n s)
