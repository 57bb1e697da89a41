-- Powers of two by their bits: a number with exactly one bit set is a power of two, and its trailing zeros are the exponent. So the
-- tests of row 13 that count bits are the definition's, and a shift divides by the page size. Exported: `one_bit`, `ones_power`,
-- `trailing_power`, `page_power`, `pages_power`, `page_bounds`, `pages_bounds`, `shift_page`.
use mathlib.Core.Path.{◌≡◌, refl, sym, ap, ◌∙◌}
use mathlib.Core.Bool.{Bool, true, false, not, ◌||◌, false≢true}
use mathlib.Core.List.{List, [], ◌∷◌}
use Prim.Native.Nat.{ℕ, zero, suc, ◌+◌, ◌*◌, ◌/◌, ◌%◌, ◌^◌, ◌≤◌, ◌<◌}
use native.Mathlib.Nat.{pow-suc, not-suc-le-zero}
use native.Mathlib.Omega.{arith}
use borrow.Author.Tests.{le-leb, eqb-true, eqb-false}
use lib.Count.{ones_in, ones, count_trailing_zeros, ones_step, ones_cat}
use lib.Dec.{leb, eqb}
use lib.Pow.{pow_pos, pow_mono}
use Rattle.std.proofs.lemmas.Bool.{agree_below, agree_below_at, false_from_ne_true}
use Rattle.storage.specs.Open.{one_of, page_ok, pages_ok, shift_of}

-- ---- one bit

ones_zero : ones 0 ≡ 0
unfolding ones ones_in
ones_zero = refl

-- no bit: 0
none_set : (k n : ℕ) → n < 2 ^ k → ones n ≡ 0 → n ≡ 0
none_set zero n h e = omega arith
none_set (suc k) n h e =
    let s = ones_step n in
    let b : n / 2 < 2 ^ k = omega (arith, pow-suc 2 k) in
    let z = none_set k (n / 2) b (omega arith) in
    omega arith

-- one bit: a power of two
pub one_bit : (k n : ℕ) → n < 2 ^ k → ones n ≡ 1 → (j : ℕ) × (j < k) × (n ≡ 2 ^ j)
one_bit zero n h e =
    let z : n ≡ 0 = omega arith in
    let q : ones n ≡ 0 = ap ones z ∙ ones_zero in
    absurd (omega arith)
one_bit (suc k) n h e = go (n % 2) refl (λ q. one_bit k (n / 2) (omega (arith, pow-suc 2 k)) q)
  where
    go : (r : ℕ) → n % 2 ≡ r → (ones (n / 2) ≡ 1 → (j : ℕ) × (j < k) × (n / 2 ≡ 2 ^ j)) → (j : ℕ) × (j < suc k) × (n ≡ 2 ^ j)
    go zero q f =
        let g = f (omega (arith, ones_step n)) in
        (suc g.0, omega arith, omega (arith, pow-suc 2 g.0))
    go (suc zero) q f =
        let z = none_set k (n / 2) (omega (arith, pow-suc 2 k)) (omega (arith, ones_step n)) in
        (0, omega arith, omega arith)
    go (suc (suc r)) q f = absurd (omega arith)

-- a power of two: one bit
pub ones_power : (j : ℕ) → ones (2 ^ j) ≡ 1
unfolding ones ones_in
ones_power j =
    let e : 2 ^ j ≡ 1 * 2 ^ j + 0 = omega arith in
    ap ones e ∙ ones_cat j 1 0 (pow_pos j)

-- and the zeros below it are its exponent
pub trailing_power : (k j : ℕ) → j < k → count_trailing_zeros k (2 ^ j) ≡ j
unfolding count_trailing_zeros
trailing_power zero j h = absurd (not-suc-le-zero h)
trailing_power (suc k) zero h = refl
trailing_power (suc k) (suc j) h =
    let e : 2 ^ suc j % 2 ≡ 0 = omega (arith, pow-suc 2 j) in
    let f : 2 ^ suc j / 2 ≡ 2 ^ j = omega (arith, pow-suc 2 j) in
    rw (e, f) (ap suc (trailing_power k j (omega arith)))

-- ---- the powers from 2 ^ a on

powers : ℕ → ℕ → List ℕ
powers a zero = []
powers a (suc m) = 2 ^ a ∷ powers (suc a) m

one_of_power : (a m n : ℕ) → one_of (powers a m) n ≡ true → (j : ℕ) × (n ≡ 2 ^ j) × (a ≤ j) × (j < a + m)
unfolding one_of powers
one_of_power a zero n e = absurd (false≢true e)
one_of_power a (suc m) n e = go (eqb n (2 ^ a)) refl e (one_of_power (suc a) m n)
  where
    go : (t : Bool) → eqb n (2 ^ a) ≡ t → t || one_of (powers (suc a) m) n ≡ true
        → (one_of (powers (suc a) m) n ≡ true → (j : ℕ) × (n ≡ 2 ^ j) × (suc a ≤ j) × (j < suc a + m)) → (j : ℕ) × (n ≡ 2 ^ j) × (a ≤ j) × (j < a + suc m)
    go true q h f = (a, eqb-true n (2 ^ a) q, omega arith, omega arith)
    go false q h f =
        let g = f h in
        (g.0, g.1, omega arith, omega arith)

-- ---- row 13's powers

pub page_power : (n : ℕ) → page_ok n ≡ true → (j : ℕ) × (n ≡ 2 ^ j) × (9 ≤ j) × (j < 13)
unfolding page_ok powers
page_power n e = one_of_power 9 4 n e

pub pages_power : (n : ℕ) → pages_ok n ≡ true → (j : ℕ) × (n ≡ 2 ^ j) × (0 ≤ j) × (j < 9)
unfolding pages_ok powers
pages_power n e = one_of_power 0 9 n e

pub page_bounds : (n : ℕ) → page_ok n ≡ true → (512 ≤ n) × (n ≤ 4096)
page_bounds n e =
    let p = page_power n e in
    let a : 2 ^ 9 ≤ 2 ^ p.0 = pow_mono p.2 in
    let b : 2 ^ p.0 ≤ 2 ^ 12 = pow_mono {j = 12} (omega arith) in
    (omega arith, omega arith)

pub pages_bounds : (n : ℕ) → pages_ok n ≡ true → (1 ≤ n) × (n ≤ 256)
pages_bounds n e =
    let p = pages_power n e in
    let a : 2 ^ 0 ≤ 2 ^ p.0 = pow_mono p.2 in
    let b : 2 ^ p.0 ≤ 2 ^ 8 = pow_mono {j = 8} (omega arith) in
    (omega arith, omega arith)

-- ---- row 13's tests by bits

-- b is what a count of one bit says, where one bit gives b and b gives a power of two
counted : (n : ℕ) (b : Bool) → (ones n ≡ 1 → b ≡ true) → (b ≡ true → (j : ℕ) × (n ≡ 2 ^ j)) → eqb (ones n) 1 ≡ b
counted n b f g = go (eqb (ones n) 1) b refl f g
  where
    go : (t u : Bool) → eqb (ones n) 1 ≡ t → (ones n ≡ 1 → u ≡ true) → (u ≡ true → (j : ℕ) × (n ≡ 2 ^ j)) → t ≡ u
    go true true q k m = refl
    go true false q k m = absurd (false≢true (k (eqb-true (ones n) 1 q)))
    go false true q k m =
        let p = m refl in
        absurd (eqb-false (ones n) 1 q (ap ones p.1 ∙ ones_power p.0))
    go false false q k m = refl

tested : ℕ → Bool
tested k = not (leb 512 (2 ^ k)) || page_ok (2 ^ k)

page_tested : agree_below tested (λ k. true) 13 ≡ true
unfolding tested page_ok one_of
page_tested = refl

pages_tested : agree_below (λ k. pages_ok (2 ^ k)) (λ k. true) 9 ≡ true
unfolding pages_ok one_of
pages_tested = refl

module _ (n : ℕ) where
  pub page_low : n < 512 → false ≡ page_ok n
  page_low h = sym (false_from_ne_true (page_ok n) (λ e. omega (arith, page_bounds n e)))

  pub page_high : 4096 < n → false ≡ page_ok n
  page_high h = sym (false_from_ne_true (page_ok n) (λ e. omega (arith, page_bounds n e)))

  pub page_bits : 512 ≤ n → n ≤ 4096 → eqb (ones n) 1 ≡ page_ok n
  unfolding tested
  page_bits lo hi = counted n (page_ok n) one (λ e. let p = page_power n e in (p.0, p.1))
    where
      go : (t : Bool) {u : Bool} → t ≡ true → not t || u ≡ true → u ≡ true
      go true q h = h
      go false q h = absurd (false≢true q)

      one : ones n ≡ 1 → page_ok n ≡ true
      one e =
          let p = one_bit 13 n (omega arith) e in
          let w : 512 ≤ 2 ^ p.0 = omega arith in
          ap page_ok p.2 ∙ go (leb 512 (2 ^ p.0)) (le-leb 512 (2 ^ p.0) w) (agree_below_at tested (λ k. true) 13 p.0 page_tested p.1)

  pub pages_high : 256 < n → false ≡ pages_ok n
  pages_high h = sym (false_from_ne_true (pages_ok n) (λ e. omega (arith, pages_bounds n e)))

  pub pages_bits : n ≤ 256 → eqb (ones n) 1 ≡ pages_ok n
  pages_bits hi = counted n (pages_ok n) one (λ e. let p = pages_power n e in (p.0, p.1))
    where
      one : ones n ≡ 1 → pages_ok n ≡ true
      one e =
          let p = one_bit 9 n (omega arith) e in
          ap pages_ok p.2 ∙ agree_below_at (λ k. pages_ok (2 ^ k)) (λ k. true) 9 p.0 pages_tested p.1

  -- the shift of a page size
  pub shift_page : page_ok n ≡ true → (2 ^ shift_of n ≡ n) × (shift_of n < 64)
  shift_page e =
      let p = page_power n e in
      let s : shift_of n ≡ p.0 = ap (count_trailing_zeros 64) p.1 ∙ trailing_power 64 p.0 (omega arith) in
      (ap (λ (k : ℕ). 2 ^ k) s ∙ sym p.1, omega arith)

pub page_some : (p : ℕ) → page_ok p ≡ true → 0 < p
page_some p e = let b = (page_bounds p e).0 in omega arith
