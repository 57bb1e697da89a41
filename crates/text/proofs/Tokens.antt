-- Laws of runs, tokens and comparisons. Exported for the crates above: `until_length`, `until_take`, `tokens_from`,
-- `place_bounds`, `same_equal`, `same_self`.
-- Assumes nothing.
use Rattle.std.specs.Prelude.{◌≡◌, ℕ, suc, ◌+◌, ◌-◌, ◌<◌, ◌≤◌, Bool, true, false, not, cond, ◌&&◌, eqb, ltb, List, [], ◌∷◌, length, take, drop, None, Some}
use mathlib.Core.Path.{refl, ap, ap₂, ◌∙◌}
use mathlib.Core.Bool.{false≢true}
use native.Mathlib.Omega.{arith}
use borrow.Author.Tests.{lt-ltb, le-ltb, ltb-true, ltb-false, eq-eqb, eqb-true}
use lib.Dec.{leb-suc-suc}
use lib.ListN.{length-take, length-drop}
use lib.Pointwise.{pointwise}
use lib.Seq.{drop-drop}
use Rattle.std.specs.List.{position_or_len}
use Rattle.std.proofs.lemmas.Bool.{and_parts}
use Rattle.std.proofs.lemmas.Bool.Decides.{nat_tests}
use Rattle.text.specs.Token.{until, token_end, place_after, on_first, tokens_of, rest_of, starts_with, same}
use Rattle.text.proofs.Tests.{front}

-- ---- runs

module _ (stop : ℕ) where
  -- a run is a front of the list
  pub until_take : (s : List ℕ) → until stop s ≡ take (length (until stop s)) s
  unfolding until
  until_take [] = refl
  until_take (b ∷ s) = front (eqb b stop) b s (until_take s)

  pub until_length : (s : List ℕ) → length (until stop s) ≤ length s
  until_length s = omega (arith, ap length (until_take s), length-take (length (until stop s)) s)

  pub until_drop : (at : ℕ) (s : List ℕ) → length (until stop (drop at s)) ≤ length s - at
  until_drop at s = omega (arith, until_length (drop at s), length-drop at s)

  -- a run in std's words
  pub until_is : (s : List ℕ) → take (position_or_len (λ b. eqb b stop) s) s ≡ until stop s
  unfolding until
  until_is [] = refl
  until_is (b ∷ s) = go (eqb b stop) (until_is s)
    where
      go : (t : Bool) → take (position_or_len (λ b. eqb b stop) s) s ≡ until stop s
          → take (cond (not t) (1 + position_or_len (λ b. eqb b stop) s) 0) (b ∷ s) ≡ cond t [] (b ∷ until stop s)
      go true h = refl
      go false h =
          let one : 1 + position_or_len (λ b. eqb b stop) s ≡ suc (position_or_len (λ b. eqb b stop) s) = omega arith in
          rw (one, h)

-- ---- tokens

-- the first token of a list, and the tokens behind the space that ends it
behind : List ℕ → List (List ℕ)
behind s = cond (ltb (length (until 0x20 s)) (length s)) (tokens_of (drop (suc (length (until 0x20 s))) s)) []

first : (s : List ℕ) → tokens_of s ≡ until 0x20 s ∷ behind s
unfolding tokens_of until behind
first [] = refl
first (b ∷ s) = go (eqb b 0x20) (first s)
  where
    go : (t : Bool) → tokens_of s ≡ until 0x20 s ∷ behind s
        → cond t ([] ∷ tokens_of s) (on_first b (tokens_of s))
        ≡ cond t [] (b ∷ until 0x20 s)
        ∷ cond (ltb (length (cond t [] (b ∷ until 0x20 s))) (suc (length s))) (tokens_of (drop (length (cond t [] (b ∷ until 0x20 s))) s)) []
    go true h = rw (lt-ltb 0 (suc (length s)) (omega arith))
    go false h = ap (on_first b) h ∙ rw (leb-suc-suc (suc (length (until 0x20 s))) (length s))

module _ (line : List ℕ) (at : ℕ) where
  -- where the line has its next token, with e for the end of the token at a place
  pub place_at : {e : ℕ} → e ≡ token_end line at → e < length line → Some (e + 1) ≡ place_after line at
  unfolding place_after
  place_at q h = rw (← q, lt-ltb _ (length line) h)

  pub place_done : {e : ℕ} → e ≡ token_end line at → length line ≤ e → None ≡ place_after line at
  unfolding place_after
  place_done q h = rw (← q, le-ltb _ (length line) h)

  behind_is : behind (drop at line) ≡ rest_of line (place_after line at)
  unfolding behind place_after rest_of
  behind_is = go (ltb (token_end line at) (length line)) refl
    where
      u : ℕ
      u = length (until 0x20 (drop at line))

      past_space : at + suc u ≡ at + u + 1
      past_space = omega arith

      go : (t : Bool) → ltb (at + u) (length line) ≡ t
          → cond (ltb u (length (drop at line))) (tokens_of (drop (suc u) (drop at line))) []
          ≡ rest_of line (cond t (Some (at + u + 1)) None)
      go true e =
          rw (lt-ltb u (length (drop at line)) (omega (arith, ltb-true, length-drop at line)))
          (ap tokens_of (drop-drop (suc u) at line ∙ ap (λ (n : ℕ). drop n line) past_space))
      go false e = rw (le-ltb u (length (drop at line)) (omega (arith, ltb-false, length-drop at line)))

  -- the tokens from a place on are the one that starts there and those from the next place on
  pub tokens_from : tokens_of (drop at line) ≡ until 0x20 (drop at line) ∷ rest_of line (place_after line at)
  tokens_from = first (drop at line) ∙ ap (λ (ts : List (List ℕ)). until 0x20 (drop at line) ∷ ts) behind_is

  -- the next place lies further on, and within the line
  pub place_bounds : (p : ℕ) → place_after line at ≡ Some p → (at < p) × (p ≤ length line)
  unfolding place_after
  place_bounds p = go (ltb (token_end line at) (length line)) refl
    where
      go : (t : Bool) → ltb (token_end line at) (length line) ≡ t → cond t (Some (token_end line at + 1)) None ≡ Some p → (at < p) × (p ≤ length line)
      go true e h = let q : token_end line at + 1 ≡ p = cc in omega (arith, ltb-true)
      go false e h = let z : ◌≡◌ {A = ℕ} 0 1 = cc in omega arith

-- ---- comparisons

-- `same` and `starts_with` in std's words
pub same_is : (a b : List ℕ) → pointwise eqb a b ≡ same a b
unfolding same
same_is [] [] = refl
same_is [] (y ∷ b) = refl
same_is (x ∷ a) [] = refl
same_is (x ∷ a) (y ∷ b) = ap (λ (t : Bool). eqb x y && t) (same_is a b)

swap : (a b : ℕ) → eqb a b ≡ eqb b a
swap a b = grind (arith, nat_tests)

pub starts_is : (s f : List ℕ) → pointwise eqb f (take (length f) s) ≡ starts_with s f
unfolding starts_with
starts_is s [] = refl
starts_is [] (b ∷ f) = refl
starts_is (a ∷ s) (b ∷ f) = ap₂ (λ (t u : Bool). t && u) (swap b a) (starts_is s f)

-- `same` says that they are equal
pub same_equal : (a b : List ℕ) → same a b ≡ true → a ≡ b
unfolding same
same_equal [] [] e = refl
same_equal [] (y ∷ b) e = absurd (false≢true e)
same_equal (x ∷ a) [] e = absurd (false≢true e)
same_equal (x ∷ a) (y ∷ b) e =
    let f = and_parts (eqb x y) (same a b) e in
    ap₂ (λ (u : ℕ) (v : List ℕ). u ∷ v) (eqb-true x y f.0) (same_equal a b f.1)

pub same_self : (a : List ℕ) → same a a ≡ true
unfolding same
same_self [] = refl
same_self (x ∷ a) = rw (eq-eqb x x refl) (same_self a)
