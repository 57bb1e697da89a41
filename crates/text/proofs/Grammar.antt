-- Laws of the grammar of UTF-8 (RFC 3629, section 4): rows of ranges, characters, runs of characters.
-- Assumes nothing.
use Rattle.std.specs.Prelude.{◌≡◌, ℕ, zero, suc, ◌+◌, ◌-◌, ◌<◌, ◌≤◌, Bool, true, false, cond, ◌&&◌, List, [], ◌∷◌, length, get_or, take, drop, leb}
use mathlib.Core.Path.{refl, sym, ap, ◌∙◌}
use mathlib.Core.Bool.{false≢true}
use Prim.Native.Nat.{zero-le, suc-le-suc}
use native.Mathlib.Nat.{not-suc-le-zero, le_of_suc-le-suc}
use native.Mathlib.Omega.{arith}
use lib.ListN.{length-take}
use Rattle.text.specs.Utf8.{Range, ◌–◌, within, begins, any_of, utf8_1, utf8_2, utf8_3, utf8_4, utf8_char, first_of, char_len, octets}
use Rattle.text.proofs.Tests.{both, either, last, behind}

-- ---- rows of ranges

-- a row, by the octets of the list
module _ (a : Range) where
  pub begins_1 : (s : List ℕ) → begins s (a ∷ []) ≡ leb 1 (length s) && within (get_or s 0 0) a
  unfolding begins
  begins_1 [] = refl
  begins_1 (x ∷ s) = grind arith

  module _ (b : Range) where
    pub begins_2 : (s : List ℕ) → begins s (a ∷ b ∷ []) ≡ leb 2 (length s) && (within (get_or s 0 0) a && within (get_or s 1 0) b)
    unfolding begins
    begins_2 [] = refl
    begins_2 (x ∷ []) = grind arith
    begins_2 (x ∷ y ∷ s) = grind arith

    module _ (c : Range) where
      pub begins_3 : (s : List ℕ) → begins s (a ∷ b ∷ c ∷ []) ≡ leb 3 (length s) && (within (get_or s 0 0) a && (within (get_or s 1 0) b && within (get_or s 2 0) c))
      unfolding begins
      begins_3 [] = refl
      begins_3 (x ∷ []) = grind arith
      begins_3 (x ∷ y ∷ []) = grind arith
      begins_3 (x ∷ y ∷ z ∷ s) = grind arith

      pub begins_4 : (d : Range) (s : List ℕ)
          → begins s (a ∷ b ∷ c ∷ d ∷ []) ≡ leb 4 (length s) && (within (get_or s 0 0) a && (within (get_or s 1 0) b && (within (get_or s 2 0) c && within (get_or s 3 0) d)))
      unfolding begins
      begins_4 d [] = refl
      begins_4 d (x ∷ []) = grind arith
      begins_4 d (x ∷ y ∷ []) = grind arith
      begins_4 d (x ∷ y ∷ z ∷ []) = grind arith
      begins_4 d (x ∷ y ∷ z ∷ w ∷ s) = grind arith

pub ruleset rows = (begins_1, begins_2, begins_3, begins_4)

pub begins_long : (rs : List Range) (s : List ℕ) → begins s rs ≡ true → length rs ≤ length s
unfolding begins
begins_long [] s e = zero-le
begins_long (r ∷ rs) [] e = absurd (false≢true e)
begins_long (r ∷ rs) (b ∷ s) e = suc-le-suc (begins_long rs s (both (within b r) (begins s rs) e).1)

-- ---- characters, by the rules tried one after another

module _ (n : ℕ) (rows : List (List Range)) (more : List (List (List Range))) (s : List ℕ) where
  pub rule_hit : {t : Bool} → t ≡ any_of (begins s) rows → t ≡ true → n ≡ first_of n (rows ∷ more) s
  unfolding first_of
  rule_hit e h = ap (λ (b : Bool). cond b n (first_of (suc n) more s)) (sym h ∙ e)

  pub rule_miss : {t : Bool} {r : ℕ} → t ≡ any_of (begins s) rows → t ≡ false → r ≡ first_of (suc n) more s → r ≡ first_of n (rows ∷ more) s
  unfolding first_of
  rule_miss e h k = k ∙ ap (λ (b : Bool). cond b n (first_of (suc n) more s)) (sym h ∙ e)

pub rule_none : (n : ℕ) (s : List ℕ) → 0 ≡ first_of n [] s
unfolding first_of
rule_none n s = refl

pub ruleset char_rules = (rule_hit, rule_miss, rule_none, last)

-- the rule numbered n: its rows have n octets, of which the first lies from lo to hi
abbrev pub RowsIn : ℕ → ℕ → ℕ → List (List Range) → Type 0
RowsIn n lo hi [] = Unit {0}
RowsIn n lo hi ([] ∷ rows) = ⊥
RowsIn n lo hi ((a – b ∷ row) ∷ rows) = (suc (length row) ≡ n) × (lo ≤ a) × (b ≤ hi) × RowsIn n lo hi rows

-- the rules from that one on: the first octets of each lie behind those of the rule before
abbrev pub RulesIn : ℕ → ℕ → List (List (List Range)) → Type 0
RulesIn n lo [] = Unit {0}
RulesIn n lo (rows ∷ more) = (hi : ℕ) × (lo ≤ hi) × RowsIn n lo hi rows × RulesIn (suc n) (suc hi) more

pub rules_in : RulesIn 1 0 utf8_char
unfolding utf8_char utf8_1 utf8_2 utf8_3 utf8_4
rules_in = (0x7F, omega arith, omega arith, (0xDF, omega arith, omega arith, (0xEF, omega arith, omega arith, (0xF4, omega arith, omega arith, tt))))

rows_long : (n lo hi : ℕ) (rows : List (List Range)) (s : List ℕ) → RowsIn n lo hi rows → any_of (begins s) rows ≡ true → n ≤ length s
unfolding any_of
rows_long n lo hi [] s h e = absurd (false≢true e)
rows_long n lo hi ([] ∷ rows) s h e = absurd h
rows_long n lo hi ((a – b ∷ row) ∷ rows) s h e =
    either (begins s (a – b ∷ row)) (any_of (begins s) rows) (λ q. omega (arith, begins_long (a – b ∷ row) s q, h.0)) (rows_long n lo hi rows s h.3) e

rules_long : (n lo : ℕ) (g : List (List (List Range))) (s : List ℕ) → RulesIn n lo g → first_of n g s ≤ length s
unfolding first_of
rules_long n lo [] s h = zero-le
rules_long n lo (rows ∷ more) s h = go (any_of (begins s) rows) refl (rules_long (suc n) (suc h.0) more s h.3)
  where
    go : (t : Bool) → any_of (begins s) rows ≡ t → first_of (suc n) more s ≤ length s → cond t n (first_of (suc n) more s) ≤ length s
    go true q k = rows_long n lo h.0 rows s h.2 q
    go false q k = k

-- a character is not longer than the list, and has at most four octets
pub char_len_le : (s : List ℕ) → char_len s ≤ length s
unfolding char_len
char_len_le s = rules_long 1 0 utf8_char s rules_in

-- the octets of a character
pub char_long : (s : List ℕ) → length (take (char_len s) s) ≡ char_len s
char_long s = omega (arith, char_len_le s, length-take (char_len s) s)

rules_few : (n : ℕ) (g : List (List (List Range))) (s : List ℕ) → first_of (suc n) g s ≤ n + length g
unfolding first_of
rules_few n [] s = zero-le
rules_few n (rows ∷ more) s = go (any_of (begins s) rows) (rules_few (suc n) more s)
  where
    go : (t : Bool) → first_of (suc (suc n)) more s ≤ suc n + length more → cond t (suc n) (first_of (suc (suc n)) more s) ≤ n + suc (length more)
    go true h = omega arith
    go false h = omega arith

pub char_len_four : (s : List ℕ) → char_len s ≤ 4
unfolding char_len utf8_char
char_len_four s = rules_few 0 utf8_char s

-- ---- runs of characters

-- octets that are passed
pass : (k : ℕ) (s : List ℕ) → k ≤ length s → octets k s ≡ octets 0 (drop k s)
unfolding octets
pass zero s h = refl
pass (suc k) [] h = absurd (not-suc-le-zero h)
pass (suc k) (b ∷ s) h = pass k s (le_of_suc-le-suc h)

pub char : (s : List ℕ) (k : ℕ) → char_len s ≡ suc k → octets 0 s ≡ octets 0 (drop (suc k) s)
unfolding octets
char [] k e = refl
char (b ∷ s) k e = rw (e, octets) (pass k s (le_of_suc-le-suc (rw e at (char_len_le (b ∷ s)))))

pub no_char : (s : List ℕ) → 0 < length s → char_len s ≡ 0 → octets 0 s ≡ false
unfolding octets
no_char [] h e = absurd (not-suc-le-zero h)
no_char (b ∷ s) h e = rw (e, octets)

-- a list that has come to its end, one with no character, one with a character of n octets
module _ (s : List ℕ) where
  pub ended : length s ≡ 0 → octets 0 s ≡ true
  unfolding octets
  ended h = go s h
    where
      go : (s : List ℕ) → length s ≡ 0 → octets 0 s ≡ true
      go [] h = refl
      go (b ∷ s) h = absurd (omega arith)

  pub goes : (n : ℕ) → n ≡ char_len s → (n ≡ 0 → ⊥) → octets 0 (drop n s) ≡ octets 0 s
  goes zero e h = absurd (h refl)
  goes (suc k) e h = sym (char s k (sym e))

-- a character of one octet, and one of several
module _ (s : List ℕ) where
  one : {t : Bool} → t ≡ any_of (begins s) utf8_1 → t ≡ true → 1 ≡ char_len s
  unfolding char_len utf8_char
  one e h = rule_hit 1 utf8_1 (utf8_2 ∷ utf8_3 ∷ utf8_4 ∷ []) s e h

  pub one_long : {t : Bool} → t ≡ any_of (begins s) utf8_1 → t ≡ true → 1 ≤ length s
  one_long e h = omega (arith, one e h, char_len_le s)

  pub one_goes : {t : Bool} → t ≡ any_of (begins s) utf8_1 → t ≡ true → octets 0 (take (length s - 1) (drop 1 s)) ≡ octets 0 s
  one_goes e h = ap (octets 0) (behind 1 s) ∙ sym (char s 0 (sym (one e h)))

  pub long : (n : ℕ) → n ≡ first_of 2 (utf8_2 ∷ utf8_3 ∷ utf8_4 ∷ []) s → any_of (begins s) utf8_1 ≡ false → n ≡ char_len s
  unfolding char_len utf8_char
  long n e h = rule_miss 1 utf8_1 (utf8_2 ∷ utf8_3 ∷ utf8_4 ∷ []) s refl h e
