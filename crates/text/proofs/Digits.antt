-- Laws of numbers: one digit, a run of digits, the sign, the base.
-- Assumes nothing.
use Rattle.std.specs.Prelude.{◌≡◌, ℕ, ◌+◌, ◌*◌, ◌^◌, ◌<◌, ◌≤◌, Bool, true, false, cond, eqb, ltb, List, [], ◌∷◌, length, get_or, take, drop, Option, None, Some}
use mathlib.Core.Path.{refl, sym, ap, ◌∙◌}
use native.Mathlib.Nat.{mul-le-mul_left}
use native.Mathlib.Numerals.{add-one}
use native.Mathlib.Omega.{arith}
use borrow.Author.Tests.{lt-ltb, le-ltb}
use mathlib.Core.Bool.{false≢true, and-true}
use Rattle.std.specs.Borrow.{Bor}
use Rattle.std.specs.Option.{MatchOption, unwrap_or}
use lib.Pointwise.{pointwise}
use Rattle.std.proofs.lemmas.Bool.Decides.{nat_tests}
use Rattle.text.proofs.Tests.{either, hit, miss, last}
use Rattle.text.proofs.Grammar.{begins_long}
use lib.ListN.{drop_of_length-le}
use lib.Seq.{drop-cons}
use Rattle.text.specs.Utf8.{only, begins, any_of}
use Rattle.text.specs.Number.{digit_of, digits, some, signed, is_hex}

-- ---- a run of digits

module _ (base : ℕ) (hb : 1 ≤ base) where
  -- a value that is too large stays so
  pub over : (v : ℕ) (l : List ℕ) → 2 ^ 64 ≤ v → digits base v l ≡ None
  unfolding digits
  over v [] h = rw (le-ltb v (2 ^ 64) h)
  over v (b ∷ l) h = go (ltb (digit_of b) base) (over (v * base + digit_of b) l (omega (arith, mul-le-mul_left v hb)))
    where
      go : (t : Bool) {r : Option ℕ} → r ≡ None → cond t r None ≡ None
      go true e = e
      go false e = refl

-- at a place of a text: a digit, no digit, the end
module _ (base : ℕ) (s : List ℕ) (i v : ℕ) where
  pub next : {d : ℕ} → d ≡ digit_of (get_or s i 0) → i < length s → d < base → digits base (v * base + d) (drop (i + 1) s) ≡ digits base v (drop i s)
  unfolding digits
  next e h k = rw (add-one, drop-cons s i 0, digits, ← e, lt-ltb _ base k)

  pub no_digit : i < length s → base ≤ digit_of (get_or s i 0) → digits base v (drop i s) ≡ None
  unfolding digits
  no_digit h k = rw (drop-cons s i 0, digits, le-ltb (digit_of (get_or s i 0)) base k)

  pub ended : length s ≤ i → v < 2 ^ 64 → digits base v (drop i s) ≡ Some v
  unfolding digits
  ended h k = ap (digits base v) (drop_of_length-le s h) ∙ rw (lt-ltb v (2 ^ 64) k)

-- ---- at least one digit, a sign, and the base

module _ (base : ℕ) where
  pub no_digits : (s : List ℕ) → length s ≡ 0 → None ≡ some base s
  unfolding some
  no_digits [] h = refl
  no_digits (b ∷ s) h = absurd (omega arith)

  pub some_digits : (s : List ℕ) → (length s ≡ 0 → ⊥) → digits base 0 s ≡ some base s
  unfolding some
  some_digits [] h = absurd (h refl)
  some_digits (b ∷ s) h = refl

  -- a sign in front: t is what the test for it gave
  sign_is : (s : List ℕ) (t : Bool) → pointwise eqb (take 1 s) (0x2B ∷ []) ≡ t → cond t (some base (drop 1 s)) (some base s) ≡ signed base s
  unfolding some signed
  sign_is [] true e = absurd (false≢true e)
  sign_is [] false e = refl
  sign_is (b ∷ s) t e = ap (λ (u : Bool). cond u (some base s) (some base (b ∷ s))) (sym e ∙ and-true (eqb b 0x2B))

  pub sign : (s : Bor (List ℕ)) (r : Option (Bor (List ℕ)))
      → MatchOption r (pointwise eqb (take 1 s.now) (0x2B ∷ []) ≡ false)
      (λ x. (pointwise eqb (take 1 s.now) (0x2B ∷ []) ≡ true) × (x.now ≡ drop 1 s.now) × (length x.now + 1 ≡ length s.now))
      → some base (unwrap_or r s).now ≡ signed base s.now
  sign s None h = sign_is s.now false h
  sign s (Some x) h = ap (some base) h.1 ∙ sign_is s.now true h.0

-- two bytes in front
pair_is : (k l : ℕ) (t : List ℕ) → pointwise eqb (k ∷ l ∷ []) (take 2 t) ≡ begins t (only k ∷ only l ∷ [])
unfolding begins
pair_is k l [] = refl
pair_is k l (a ∷ []) = grind (arith, nat_tests)
pair_is k l (a ∷ b ∷ t) = grind (arith, nat_tests)

module _ (t : List ℕ) {r : Bool} (e : r ≡ pointwise eqb (0x30 ∷ 0x78 ∷ []) (take 2 t)) where
  pub hex_small : r ≡ true → r ≡ is_hex t
  unfolding is_hex
  hex_small h = h ∙ hit (begins t) _ _ (e ∙ pair_is 0x30 0x78 t) h

  pub hex_large : r ≡ false → {u : Bool} → u ≡ pointwise eqb (0x30 ∷ 0x58 ∷ []) (take 2 t) → u ≡ is_hex t
  unfolding is_hex
  hex_large h f = miss (begins t) _ _ (e ∙ pair_is 0x30 0x78 t) h (last (begins t) _ (f ∙ pair_is 0x30 0x58 t))

pub hex_long : (t : List ℕ) → is_hex t ≡ true → 2 ≤ length t
unfolding is_hex any_of
hex_long t e = either (begins t _) _ (λ h. begins_long _ t h) (λ k. either (begins t _) _ (λ h. begins_long _ t h) (λ z. absurd (false≢true z)) k) e
