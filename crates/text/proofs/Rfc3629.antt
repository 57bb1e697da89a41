-- `is_utf8` is true of just the lists that the grammar of RFC 3629 derives: `rfc3629`. The octets that a rule's rows begin with lie
-- before those of the next rule, so at most one rule fits, and a character that stands in front is the one that is measured.
-- Assumes nothing.
use Rattle.std.specs.Prelude.{◌≡◌, ℕ, zero, suc, ◌<◌, ◌≤◌, Bool, true, false, cond, ◌||◌, leb, ◌↔◌, List, [], ◌∷◌, ◌++◌, length, get_or, take, drop}
use mathlib.Core.Path.{refl, sym, ap, ◌∙◌, subst}
use mathlib.Core.Bool.{false≢true}
use native.Mathlib.Omega.{arith}
use borrow.Author.Tests.{leb-true}
use lib.ListN.{length-drop, take-append-drop}
use lib.Seq.{drop-append_seam}
use Rattle.std.proofs.lemmas.Bool.{and_parts, or_right}
use Rattle.text.specs.Utf8.{Range, ◌–◌, within, begins, any_of, utf8_char, first_of, char_len, octets, is_utf8, fits, is_char, Octets, empty, one_more}
use Rattle.text.proofs.Tests.{either}
use Rattle.text.proofs.Grammar.{RowsIn, RulesIn, rules_in, char, no_char}

-- ---- a row, in front of more octets

fits_begins : (c t : List ℕ) (row : List Range) → fits c row ≡ true → (length c ≡ length row) × (begins (c ++ t) row ≡ true)
unfolding fits begins
fits_begins [] t [] e = (refl, refl)
fits_begins [] t (r ∷ row) e = absurd (false≢true e)
fits_begins (b ∷ c) t [] e = absurd (false≢true e)
fits_begins (b ∷ c) t (r ∷ row) e =
    let f = and_parts (within b r) (fits c row) e in
    let k = fits_begins c t row f.1 in
    (ap suc k.0, rw f.0 k.1)

begins_fits : (s : List ℕ) (row : List Range) → begins s row ≡ true → fits (take (length row) s) row ≡ true
unfolding fits begins
begins_fits s [] e = refl
begins_fits [] (r ∷ row) e = absurd (false≢true e)
begins_fits (b ∷ s) (r ∷ row) e =
    let f = and_parts (within b r) (begins s row) e in
    rw f.0 (begins_fits s row f.1)

-- ---- a rule

module _ (n lo hi : ℕ) where
  first_in : (rows : List (List Range)) (s : List ℕ) → RowsIn n lo hi rows → any_of (begins s) rows ≡ true → (lo ≤ get_or s 0 0) × (get_or s 0 0 ≤ hi)
  unfolding any_of begins
  first_in [] s h e = absurd (false≢true e)
  first_in ([] ∷ rows) s h e = absurd h
  first_in ((a – b ∷ row) ∷ rows) s h e = either (begins s (a – b ∷ row)) (any_of (begins s) rows) (go s) (first_in rows s h.3) e
    where
      go : (s : List ℕ) → begins s (a – b ∷ row) ≡ true → (lo ≤ get_or s 0 0) × (get_or s 0 0 ≤ hi)
      go [] q = absurd (false≢true q)
      go (x ∷ s) q =
          let f = and_parts (leb a x) (leb x b) (and_parts (within x (a – b)) (begins s row) q).0 in
          omega (arith, leb-true a x f.0, leb-true x b f.1)

  any_begins : (rows : List (List Range)) (c t : List ℕ) → RowsIn n lo hi rows → any_of (fits c) rows ≡ true → (length c ≡ n) × (any_of (begins (c ++ t)) rows ≡ true)
  unfolding any_of
  any_begins [] c t h e = absurd (false≢true e)
  any_begins ([] ∷ rows) c t h e = absurd h
  any_begins ((a – b ∷ row) ∷ rows) c t h e =
      either (fits c (a – b ∷ row)) (any_of (fits c) rows)
      (λ q. let k = fits_begins c t (a – b ∷ row) q in (k.0 ∙ h.0, rw k.1))
      (λ q. let k = any_begins rows c t h.3 q in (k.0, or_right (begins (c ++ t) (a – b ∷ row)) _ k.1))
      e

  any_fits : (rows : List (List Range)) (s : List ℕ) → RowsIn n lo hi rows → any_of (begins s) rows ≡ true → any_of (fits (take n s)) rows ≡ true
  unfolding any_of
  any_fits [] s h e = absurd (false≢true e)
  any_fits ([] ∷ rows) s h e = absurd h
  any_fits ((a – b ∷ row) ∷ rows) s h e =
      either (begins s (a – b ∷ row)) (any_of (begins s) rows)
      (λ q. rw (subst (λ (m : ℕ). fits (take m s) (a – b ∷ row) ≡ true) h.0 (begins_fits s (a – b ∷ row) q)))
      (λ q. or_right (fits (take n s) (a – b ∷ row)) _ (any_fits rows s h.3 q))
      e

-- ---- the rules

-- a character in front is the one that is measured
measured : (n lo : ℕ) (g : List (List (List Range))) (c t : List ℕ) → RulesIn n lo g → any_of (any_of (fits c)) g ≡ true
    → (first_of n g (c ++ t) ≡ length c) × (n ≤ length c) × (lo ≤ get_or (c ++ t) 0 0)
unfolding any_of first_of
measured n lo [] c t h e = absurd (false≢true e)
measured n lo (rows ∷ more) c t h e =
    either (any_of (fits c) rows) (any_of (any_of (fits c)) more)
    (λ q.
    let k = any_begins n lo h.0 rows c t h.2 q in
    let f = first_in n lo h.0 rows (c ++ t) h.2 k.1 in
    (rw k.1 (sym k.0), omega arith, f.0))
    (λ q.
    let k = measured (suc n) (suc h.0) more c t h.3 q in
    (go (any_of (begins (c ++ t)) rows) refl k.2 ∙ k.0, omega arith, omega arith))
    e
  where
    go : (x : Bool) → any_of (begins (c ++ t)) rows ≡ x → h.0 < get_or (c ++ t) 0 0 → cond x n (first_of (suc n) more (c ++ t)) ≡ first_of (suc n) more (c ++ t)
    go true q l = absurd (omega (arith, first_in n lo h.0 rows (c ++ t) h.2 q))
    go false q l = refl

-- what is measured is a character
stands : (n lo : ℕ) (g : List (List (List Range))) (s : List ℕ) → RulesIn n lo g → (first_of n g s ≡ 0 → ⊥) → any_of (any_of (fits (take (first_of n g s) s))) g ≡ true
unfolding any_of first_of
stands n lo [] s h e = absurd (e refl)
stands n lo (rows ∷ more) s h e = go (any_of (begins s) rows) refl (stands (suc n) (suc h.0) more s h.3) e
  where
    go : (x : Bool) → any_of (begins s) rows ≡ x → ((first_of (suc n) more s ≡ 0 → ⊥) → any_of (any_of (fits (take (first_of (suc n) more s) s))) more ≡ true)
        → (cond x n (first_of (suc n) more s) ≡ 0 → ⊥)
        → any_of (fits (take (cond x n (first_of (suc n) more s)) s)) rows || any_of (any_of (fits (take (cond x n (first_of (suc n) more s)) s))) more ≡ true
    go true q k l = rw (any_fits n lo h.0 rows s h.2 q)
    go false q k l = or_right (any_of (fits (take (first_of (suc n) more s) s)) rows) _ (k l)

-- ---- UTF8-octets

derived : {s : List ℕ} → Octets s → is_utf8 s ≡ true
unfolding is_utf8 octets is_char char_len
derived empty = refl
derived (one_more c s e o) = go (length c) refl (measured 1 0 utf8_char c s rules_in e) (derived o)
  where
    go : (n : ℕ) → length c ≡ n → (char_len (c ++ s) ≡ length c) × (1 ≤ length c) × (0 ≤ get_or (c ++ s) 0 0) → octets 0 s ≡ true → octets 0 (c ++ s) ≡ true
    go zero q h k = absurd (omega arith)
    go (suc m) q h k = char (c ++ s) m (h.0 ∙ q) ∙ ap (λ (n : ℕ). octets 0 (drop n (c ++ s))) (sym q) ∙ ap (octets 0) (drop-append_seam c s) ∙ k

-- a list of at most k octets more, where shorter lists are derived
step : (k : ℕ) → ((s : List ℕ) → length s ≤ k → octets 0 s ≡ true → Octets s) → (s : List ℕ) → length s ≤ suc k → octets 0 s ≡ true → Octets s
unfolding is_char char_len
step k f [] h e = empty
step k f (b ∷ s) h e = go (char_len (b ∷ s)) refl
  where
    whole : (m : ℕ) → char_len (b ∷ s) ≡ suc m → is_char (take (suc m) (b ∷ s)) ≡ true
    whole m q = subst (λ (n : ℕ). is_char (take n (b ∷ s)) ≡ true) q (stands 1 0 utf8_char (b ∷ s) rules_in (λ z. omega (arith, q)))

    go : (n : ℕ) → char_len (b ∷ s) ≡ n → Octets (b ∷ s)
    go zero q = absurd (false≢true (sym (no_char (b ∷ s) (omega arith) q) ∙ e))
    go (suc m) q =
        subst (λ (l : List ℕ). Octets l) (take-append-drop (suc m) (b ∷ s))
        (one_more (take (suc m) (b ∷ s)) (drop m s) (whole m q) (f (drop m s) (omega (arith, length-drop m s)) (sym (char (b ∷ s) m q) ∙ e)))

derives : (k : ℕ) (s : List ℕ) → length s ≤ k → octets 0 s ≡ true → Octets s
derives zero [] h e = empty
derives zero (b ∷ s) h e = absurd (omega arith)
derives (suc k) s h e = step k (derives k) s h e

pub rfc3629 : (s : List ℕ) → (is_utf8 s ≡ true) ↔ Octets s
unfolding is_utf8
rfc3629 s = (derives (length s) s (omega arith), derived)
