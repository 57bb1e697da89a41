-- Laws of shell lines: the tokens of a line by the places where they start, and what is
-- made of their numbers.
use Rattle.std.proofs.Common.{◌≡◌, ℕ, List, [], ◌∷◌, drop, Option, Some, None, sym, refl, ap, ◌∙◌}
use Rattle.std.specs.Option.{OnSome}
use Rattle.text.specs.Token.{until, tokens_of, place_after, rest_of}
use Rattle.text.specs.Number.{number_in}
use Rattle.text.proofs.Tokens.{tokens_from}
use Rattle.engine.specs.Shell.{on_number, with_number, with_id, behind, three_of}
use Rattle.engine.specs.declared.shell.Line.{Line}

-- ---- the tokens from a place on

module _ (s : List ℕ) {q : Option ℕ} where
  pub number_none : q ≡ None → {A : Type 0} (f : ℕ → List (List ℕ) → Option A) → None ≡ with_number f (rest_of s q)
  unfolding rest_of
  number_none h f = rw h

  -- one stands there
  module _ {p : ℕ} (h : q ≡ Some p) where
    rest_is : rest_of s q ≡ until 0x20 (drop p s) ∷ rest_of s (place_after s p)
    unfolding rest_of
    rest_is = ap (rest_of s) h ∙ tokens_from s p

    pub skip_some : {r : Option ℕ} → r ≡ place_after s p → rest_of s r ≡ behind (rest_of s q)
    skip_some e = ap (rest_of s) e ∙ sym (ap behind rest_is)

    pub number_some : {t : List ℕ} {x : Option ℕ} → t ≡ until 0x20 (drop p s) → x ≡ number_in t
        → x ≡ with_number (λ n ts. Some n) (rest_of s q)
    number_some {x = x} a e =
        go x ∙ ap (on_number (λ (n : ℕ). Some n)) (e ∙ ap number_in a) ∙ sym (ap (with_number (λ (n : ℕ) (ts : List (List ℕ)). Some n)) rest_is)
      where
        go : (y : Option ℕ) → y ≡ on_number (λ (n : ℕ). Some n) y
        go (Some n) = refl
        go None = refl

pub on_some : {P : Type 0} (o : Option ℕ) → P → OnSome o P
on_some (Some n) p = p
on_some None p = tt

-- ---- three numbers

abbrev on_three : (ℕ → ℕ → ℕ → Line) → Option (ℕ × ℕ × ℕ) → Option Line
on_three f (Some (a, b, c)) = Some (f a b c)
on_three f None = None

module _ (f : ℕ → ℕ → ℕ → Line) where
  three_last : (a b : ℕ) (ts : List (List ℕ)) → on_three f (with_number (λ c us. Some (a, b, c)) ts) ≡ with_number (λ c us. Some (f a b c)) ts
  three_last a b [] = refl
  three_last a b (t ∷ ts) = go (number_in t)
    where
      go : (o : Option ℕ) → on_three f (on_number (λ c. Some (a, b, c)) o) ≡ on_number (λ c. Some (f a b c)) o
      go (Some c) = refl
      go None = refl

  three_next : (a : ℕ) (ts : List (List ℕ))
      → on_three f (with_number (λ b. with_number (λ c us. Some (a, b, c))) ts) ≡ with_number (λ b. with_number (λ c us. Some (f a b c))) ts
  three_next a [] = refl
  three_next a (t ∷ ts) = go (number_in t)
    where
      go : (o : Option ℕ)
          → on_three f (on_number (λ b. with_number (λ c us. Some (a, b, c)) ts) o) ≡ on_number (λ b. with_number (λ c us. Some (f a b c)) ts) o
      go (Some b) = three_last a b ts
      go None = refl

  three_all : (ts : List (List ℕ)) → on_three f (three_of ts) ≡ with_number (λ a. with_number (λ b. with_number (λ c us. Some (f a b c)))) ts
  three_all [] = refl
  three_all (t ∷ ts) = go (number_in t)
    where
      go : (o : Option ℕ)
          → on_three f (on_number (λ a. with_number (λ b. with_number (λ c us. Some (a, b, c))) ts) o)
          ≡ on_number (λ a. with_number (λ b. with_number (λ c us. Some (f a b c))) ts) o
      go (Some a) = three_next a ts
      go None = refl

  -- behind an id
  pub three_id : (ts : List (List ℕ)) → on_three f (three_of (behind ts)) ≡ with_id (with_number (λ a. with_number (λ b. with_number (λ c us. Some (f a b c))))) ts
  three_id [] = refl
  three_id (t ∷ ts) = three_all ts

-- ---- a line

-- the first token, and those behind it
pub first_token : (s : List ℕ) → tokens_of s ≡ until 0x20 s ∷ rest_of s (place_after s 0)
first_token s = tokens_from s 0
