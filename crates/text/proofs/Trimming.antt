-- Laws of trimming: one white space, white space at the start, the text up to the white space at its end.
-- Lengths say where the code's parts begin and end, so most laws are equations of lengths.
-- Assumes nothing.
use Rattle.std.specs.Prelude.{◌≡◌, ℕ, zero, suc, pred, ◌+◌, ◌-◌, ◌<◌, ◌≤◌, Bool, true, false, cond, List, [], ◌∷◌, length, take, drop}
use mathlib.Core.Path.{refl, sym, ap, ◌∙◌}
use mathlib.Core.Bool.{true≢false}
use Prim.Native.Nat.{zero-le}
use native.Mathlib.Nat.{le_of_suc-le-suc, not-suc-le-zero, le_refl, sub_self}
use native.Mathlib.Omega.{arith}
use lib.ListN.{length-drop}
use Rattle.text.specs.Utf8.{within, any_of, char_len}
use Rattle.text.specs.Trim.{white_space, code_point, blank_len, lead, trim_start, is_nil, keep, trim_end, trim}
use Rattle.text.proofs.Tests.{front}
use Rattle.text.proofs.Grammar.{char_len_le}

-- ---- code points, by the number of octets

-- the octets of a character, and what is behind them
pub point_take : (n : ℕ) (s : List ℕ) → 1 ≤ n → n ≤ 4 → n ≤ length s → code_point (length (take n s)) (take n s) ≡ code_point n s
unfolding code_point
point_take zero s l m h = absurd (omega arith)
point_take (suc zero) [] l m h = absurd (omega arith)
point_take (suc zero) (a ∷ s) l m h = refl
point_take (suc (suc zero)) [] l m h = absurd (omega arith)
point_take (suc (suc zero)) (a ∷ []) l m h = absurd (omega arith)
point_take (suc (suc zero)) (a ∷ b ∷ s) l m h = refl
point_take (suc (suc (suc zero))) [] l m h = absurd (omega arith)
point_take (suc (suc (suc zero))) (a ∷ []) l m h = absurd (omega arith)
point_take (suc (suc (suc zero))) (a ∷ b ∷ []) l m h = absurd (omega arith)
point_take (suc (suc (suc zero))) (a ∷ b ∷ c ∷ s) l m h = refl
point_take (suc (suc (suc (suc zero)))) [] l m h = absurd (omega arith)
point_take (suc (suc (suc (suc zero)))) (a ∷ []) l m h = absurd (omega arith)
point_take (suc (suc (suc (suc zero)))) (a ∷ b ∷ []) l m h = absurd (omega arith)
point_take (suc (suc (suc (suc zero)))) (a ∷ b ∷ c ∷ []) l m h = absurd (omega arith)
point_take (suc (suc (suc (suc zero)))) (a ∷ b ∷ c ∷ d ∷ s) l m h = refl
point_take (suc (suc (suc (suc (suc n))))) s l m h = absurd (omega arith)

-- ---- one white space

module _ (s : List ℕ) where
  -- a white space is a whole character
  blank_char : (k : ℕ) → blank_len s ≡ suc k → char_len s ≡ suc k
  unfolding blank_len
  blank_char k = go (any_of (within (code_point (char_len s) s)) white_space)
    where
      go : (t : Bool) → cond t (char_len s) 0 ≡ suc k → char_len s ≡ suc k
      go true e = e
      go false e = absurd (omega arith)

  pub blank_le : blank_len s ≤ length s
  unfolding blank_len
  blank_le = go (any_of (within (code_point (char_len s) s)) white_space)
    where
      go : (t : Bool) → cond t (char_len s) 0 ≤ length s
      go true = char_len_le s
      go false = zero-le

-- ---- white space at the start

lead_pass : (k : ℕ) (l : List ℕ) → lead k l ≡ lead 0 (drop k l)
unfolding lead
lead_pass zero l = refl
lead_pass (suc k) [] = refl
lead_pass (suc k) (b ∷ l) = lead_pass k l

-- at the head of a list, by the length of the white space there
lead_stop : (l : List ℕ) → blank_len l ≡ 0 → lead 0 l ≡ l
unfolding lead
lead_stop [] e = refl
lead_stop (b ∷ l) e = rw (e, lead)

lead_in : (b : ℕ) (l : List ℕ) (k : ℕ) → blank_len (b ∷ l) ≡ suc k → lead 0 (b ∷ l) ≡ lead k l
unfolding lead
lead_in b l k e = rw (e, lead)

-- x is what is left of l behind the white space at its start: an end of l that has none at its own
record Left (l x : List ℕ) : Type 0 where
  shorter : length x ≤ length l
  behind : x ≡ drop (length l - length x) l
  bare : blank_len x ≡ 0

left_here : (l : List ℕ) → blank_len l ≡ 0 → Left l l
left_here l e = record { shorter = le_refl (length l); behind = rw (sub_self (length l)); bare = e }

left_on : (b : ℕ) (l x : List ℕ) → Left l x → Left (b ∷ l) x
left_on b l x h = record { shorter = omega arith; behind = rw one_more h.behind; bare = h.bare }
  where
    one_more : suc (length l) - length x ≡ suc (length l - length x)
    one_more = omega arith

lead_left : (k : ℕ) (l : List ℕ) → Left l (lead k l)
unfolding lead
lead_left k [] = left_here [] (omega (arith, blank_le []))
lead_left (suc k) (b ∷ l) = left_on b l (lead k l) (lead_left k l)
lead_left zero (b ∷ l) = go (blank_len (b ∷ l)) refl (λ k. lead_left k l)
  where
    go : (n : ℕ) → blank_len (b ∷ l) ≡ n → ((k : ℕ) → Left l (lead k l)) → Left (b ∷ l) (lead 0 (b ∷ l))
    go zero e f = rw (lead_stop (b ∷ l) e) (left_here (b ∷ l) e)
    go (suc k) e f = rw (lead_in b l k e) (left_on b l (lead k l) (f k))

-- no white space, and white space of n octets
module _ (s : List ℕ) where
  pub start_le : length (trim_start s) ≤ length s
  unfolding trim_start
  start_le = (lead_left 0 s).shorter

  pub start_bare : blank_len (trim_start s) ≡ 0
  unfolding trim_start
  start_bare = (lead_left 0 s).bare

  pub start_stop : blank_len s ≡ 0 → trim_start s ≡ s
  unfolding trim_start
  start_stop e = lead_stop s e

  pub start_on : (n : ℕ) → n ≡ blank_len s → (n ≡ 0 → ⊥) → trim_start (drop n s) ≡ trim_start s
  unfolding trim_start
  start_on zero e h = absurd (h refl)
  start_on (suc k) e h = sym (on s (sym e))
    where
      on : (l : List ℕ) → blank_len l ≡ suc k → lead 0 l ≡ lead 0 (drop (suc k) l)
      on [] e = refl
      on (b ∷ l) e = lead_in b l k e ∙ lead_pass k l

-- ---- the text up to the white space at its end

-- it is a front of the list
keep_front : (k : ℕ) (l : List ℕ) → keep k l ≡ take (length (keep k l)) l
unfolding keep
keep_front k [] = refl
keep_front (suc k) (b ∷ l) = ap (λ (x : List ℕ). b ∷ x) (keep_front k l)
keep_front zero (b ∷ l) = front (is_nil (trim_start (b ∷ l))) b l (keep_front (pred (char_len (b ∷ l))) l)

keep_none : (l : List ℕ) → is_nil (trim_start l) ≡ true → keep 0 l ≡ []
unfolding keep
keep_none [] e = refl
keep_none (b ∷ l) e = rw (keep, e)

keep_on : (b : ℕ) (l : List ℕ) → is_nil (trim_start (b ∷ l)) ≡ false → keep 0 (b ∷ l) ≡ b ∷ keep (pred (char_len (b ∷ l))) l
unfolding keep
keep_on b l e = rw (keep, e)

keep_pass : (k : ℕ) (l : List ℕ) → k ≤ length l → length (keep k l) ≡ k + length (keep 0 (drop k l))
unfolding keep
keep_pass zero l h = omega arith
keep_pass (suc k) [] h = absurd (not-suc-le-zero h)
keep_pass (suc k) (b ∷ l) h = omega (arith, keep_pass k l (le_of_suc-le-suc h))

-- a character that is kept
keep_char : (l : List ℕ) (m : ℕ) → m ≡ suc (pred (char_len l)) → 0 < length l → is_nil (trim_start l) ≡ false → length (keep 0 l) ≡ m + length (keep 0 (drop m l))
keep_char [] m e h n = absurd (not-suc-le-zero h)
keep_char (b ∷ l) m e h n =
    rw (e, keep_on b l n) (omega (arith, keep_pass (pred (char_len (b ∷ l))) l (omega (arith, char_len_le (b ∷ l)))))

-- white space that something follows is kept
keep_run : (k : ℕ) (l : List ℕ) → is_nil (lead k l) ≡ false → length (keep k l) + length (lead k l) ≡ length l + length (keep 0 (lead k l))
unfolding keep lead
keep_run k [] e = absurd (true≢false e)
keep_run (suc k) (b ∷ l) e = omega (arith, keep_run k l e)
keep_run zero (b ∷ l) e = go (blank_len (b ∷ l)) refl (λ k q. keep_run k l q)
  where
    go : (n : ℕ) → blank_len (b ∷ l) ≡ n → ((k : ℕ) → is_nil (lead k l) ≡ false → length (keep k l) + length (lead k l) ≡ length l + length (keep 0 (lead k l)))
        → length (keep 0 (b ∷ l)) + length (lead 0 (b ∷ l)) ≡ suc (length l) + length (keep 0 (lead 0 (b ∷ l)))
    go zero q f = rw (lead_stop (b ∷ l) q) (omega arith)
    go (suc k) q f =
        rw (keep_on b l (unfold trim_start in e), blank_char (b ∷ l) k q, lead_in b l k q) (omega (arith, f k (rw (lead_in b l k q) at e)))

-- ---- the two ends of a text

is_nil_short : (l : List ℕ) → length l ≡ 0 → is_nil l ≡ true
is_nil_short [] e = refl
is_nil_short (b ∷ l) e = absurd (omega arith)

is_nil_long : (l : List ℕ) → 0 < length l → is_nil l ≡ false
is_nil_long [] h = absurd (not-suc-le-zero h)
is_nil_long (b ∷ l) h = refl

-- x is the text r without the white space at its start
module _ (r x : List ℕ) (q : x ≡ trim_start r) where
  -- nothing follows it: nothing is kept
  pub done : length x ≡ 0 → length (keep 0 r) ≡ 0
  done h = ap length (keep_none r (is_nil_short (trim_start r) (ap length (sym q) ∙ h)))

  -- a character of m octets follows it: both are kept
  pub turn : (m : ℕ) → 0 < length x → m ≡ suc (pred (char_len x))
      → (length x ≤ length r) × (m ≤ length x) × (length (keep 0 r) + length (drop m x) ≡ length r + length (keep 0 (drop m x)))
  unfolding trim_start
  turn m h e = (
    omega (arith, start_le r, ap length q),
    fits (char_len x) e (char_len_le x),
    omega (arith, run, one, fits (char_len x) e (char_len_le x), length-drop m x),
  )
    where
      fits : (n : ℕ) → m ≡ suc (pred n) → n ≤ length x → m ≤ length x
      fits zero e l = omega arith
      fits (suc n) e l = omega arith

      run : length (keep 0 r) + length x ≡ length r + length (keep 0 x)
      run = rw q (keep_run 0 r (is_nil_long (trim_start r) (rw q at h)))

      one : length (keep 0 x) ≡ m + length (keep 0 (drop m x))
      one = keep_char x m e h (is_nil_long (trim_start x) (rw (start_stop x (rw q (start_bare r))) h))

-- the front that is kept of the text behind the white space at its start
pub cut_out : (s text : List ℕ) (e : ℕ) → text ≡ trim_start s → length (keep 0 text) ≡ e → take e text ≡ trim s
unfolding trim trim_end
cut_out s text e q h = ap (λ (n : ℕ). take n text) (sym h) ∙ sym (keep_front 0 text) ∙ ap (keep 0) q
