-- How a write goes: byte by byte in the definition, a page's piece at a time in the code. Once for every kind of device.
use Rattle.std.proofs.Common.{Result, Ok, Err, is_ok}
use mathlib.Core.Path.{◌≡◌, refl, sym, ap, ◌∙◌}
use mathlib.Core.Bool.{Bool, true, false, cond}
use mathlib.Core.List.{List, [], ◌∷◌, ◌++◌}
use Prim.Native.Nat.{ℕ, suc, ◌+◌, ◌-◌, ◌%◌, ◌≤◌, ◌<◌}
use native.Mathlib.Nat.{le_refl, le_trans, le-add_right, add-zero, not-suc-le-zero}
use native.Mathlib.Numerals.{add-one}
use native.Mathlib.Omega.{arith}
use borrow.Author.Tests.{le-leb}
use lib.ListN.{length, take, drop, set, take-append-drop, length-take, length-drop, drop_of_length-le}
use lib.Seq.{sets, drop-drop}
use Rattle.std.proofs.lemmas.Bool.{cond_both}
use Rattle.wire.specs.Bytes.{laid}
use Rattle.storage.specs.declared.types.Stopped.{Stopped}
use Rattle.storage.specs.declared.types.Store.{Store}
use Rattle.storage.specs.World.{Dev, dev, Out, out}
use Rattle.storage.specs.Fold.{Run, run, base, seals, step, writes, reached as reached_to, Laws}
use Rattle.storage.proofs.Pages.{mod_on, base_on}

pub false_true : {A : Type 0} → false ≡ true → A
false_true e = absurd (let z : ◌≡◌ {A = ℕ} 0 1 = cc in omega arith)

picked_at : (b : Bool) (o : Run) (n a : ℕ) (d : Dev) → o.at ≡ n → (cond b o (run false a d)).ok ≡ true → (cond b o (run false a d)).at ≡ n
picked_at true o n a d q e = q
picked_at false o n a d q e = false_true e

module _ (p : ℕ) (load seal : ℕ → Dev → Out) where
  -- ---- what has failed stands

  pub stopped : (xs : List ℕ) (a : ℕ) (d : Dev) → writes p load seal xs (run false a d) ≡ run false a d
  unfolding writes step
  stopped [] a d = refl
  stopped (x ∷ xs) a d = stopped xs a d

  -- ---- one after the other

  pub writes_append : (xs ys : List ℕ) (o : Run) → writes p load seal (xs ++ ys) o ≡ writes p load seal ys (writes p load seal xs o)
  unfolding writes
  writes_append [] ys o = refl
  writes_append (x ∷ xs) ys o = writes_append xs ys (step p load seal o x)

  -- ---- a write that has not failed has come as far as its bytes

  step_at_lem : (a x : ℕ) (d : Dev) → (step p load seal (run true a d) x).ok ≡ true → (step p load seal (run true a d) x).at ≡ a + 1
  unfolding step seals
  step_at_lem a x d e = picked_at (load a d).ok _ (a + 1) a (load a d).dev refl e

  step_on : (x : ℕ) (b : Bool) (a : ℕ) (d : Dev) → a ≤ (step p load seal (run b a d) x).at
  unfolding step seals
  step_on x true a d = cond_both (load a d).ok _ (run false a (load a d).dev) (λ (r : Run). a ≤ r.at) (λ t. le-add_right a 1) (λ t. le_refl a)
  step_on x false a d = le_refl a

  step_most : (x : ℕ) (b : Bool) (a : ℕ) (d : Dev) → (step p load seal (run b a d) x).at ≤ a + 1
  unfolding step seals
  step_most x true a d = cond_both (load a d).ok _ (run false a (load a d).dev) (λ (r : Run). r.at ≤ a + 1) (λ t. le_refl (a + 1)) (λ t. le-add_right a 1)
  step_most x false a d = le-add_right a 1

  come : (xs : List ℕ) (b : Bool) (a : ℕ) (d : Dev) → (writes p load seal xs (run b a d)).ok ≡ true
      → (b ≡ true) × ((writes p load seal xs (run b a d)).at ≡ a + length xs)
  unfolding writes
  come [] b a d e = (e, sym (add-zero a))
  come (x ∷ xs) true a d e =
      let o = step p load seal (run true a d) x in
      let h = come xs o.ok o.at o.dev e in
      (refl, h.1 ∙ (let k : o.at ≡ a + 1 = step_at_lem a x d h.0 in omega arith))
  come (x ∷ xs) false a d e = false_true (sym (ap (λ (o : Run). o.ok) (stopped (x ∷ xs) a d)) ∙ e)

  pub reached : (xs : List ℕ) (a : ℕ) (d : Dev) → (writes p load seal xs (run true a d)).ok ≡ true → (writes p load seal xs (run true a d)).at ≡ a + length xs
  reached xs a d e = (come xs true a d e).1

  -- a write never goes back
  onwards : (xs : List ℕ) (o : Run) → o.at ≤ (writes p load seal xs o).at
  unfolding writes
  onwards [] o = omega arith
  onwards (x ∷ xs) o = le_trans (step_on x o.ok o.at o.dev) (onwards xs (step p load seal o x))

  -- nor past its bytes
  pub no_more : (xs : List ℕ) (o : Run) → (writes p load seal xs o).at ≤ o.at + length xs
  unfolding writes
  no_more [] o = omega arith
  no_more (x ∷ xs) o =
      let h = step_most x o.ok o.at o.dev in
      let k = no_more xs (step p load seal o x) in
      omega arith

  pub no_less : (xs : List ℕ) (a : ℕ) (d : Dev) {r : Run} → r ≡ writes p load seal xs (run true a d) → a ≤ r.at
  no_less xs a d q = rw q (onwards xs (run true a d))

  -- ---- a piece within one page: the bytes are set one after the other, and only the last can fill the page

  module _ (s : Store) (b : ℕ) (stays : (a : ℕ) (chip buf : List ℕ) → base p a ≡ b → load a (dev s chip buf) ≡ out true (dev s chip buf))
      (opens : (a : ℕ) (d : Dev) → (a % p ≡ 0 → ⊥) → seal a d ≡ out true d) where
    held_step : (a x : ℕ) (chip buf : List ℕ) → base p a ≡ b
        → step p load seal (run true a (dev s chip buf)) x ≡ seals p load seal (a + 1) (dev s chip (set buf (a % p) x))
    unfolding step
    held_step a x chip buf h = rw (stays a chip buf h)

    seals_open : (a : ℕ) (d : Dev) → (a % p ≡ 0 → ⊥) → seals p load seal a d ≡ run true a d
    unfolding seals
    seals_open a d n = rw (opens a d n)

    chunk : (x : ℕ) (xs : List ℕ) (a : ℕ) (chip buf : List ℕ) → base p a ≡ b → a % p + suc (length xs) ≤ p
        → writes p load seal (x ∷ xs) (run true a (dev s chip buf)) ≡ seals p load seal (a + suc (length xs)) (dev s chip (sets buf (a % p) (x ∷ xs)))
    unfolding writes
    chunk x [] a chip buf h k = held_step a x chip buf h
    chunk x (y ∷ ys) a chip buf h k =
        let i : a % p + 1 < p = omega arith in
        let e2 : (a + 1) % p ≡ suc (a % p) = mod_on a 1 p i ∙ add-one (a % p) in
        let e3 : a + 1 + suc (length ys) ≡ a + suc (suc (length ys)) = omega arith in
        let n0 : (a + 1) % p ≡ 0 → ⊥ = omega arith in
        let c = set buf (a % p) x in
        ap (λ (o : Run). writes p load seal (y ∷ ys) o) (held_step a x chip buf h ∙ seals_open (a + 1) (dev s chip c) n0)
        ∙ (rw (e2, e3) at (chunk y ys (a + 1) chip c (base_on a 1 p i ∙ h) (omega arith)))

  -- ---- the same from the state before the page is loaded, as the code goes

  module _ (a : ℕ) (d : Dev) {l : Out} (q : l ≡ load a d) where
    pub piece_unloaded : (xs : List ℕ) → 0 < length xs → l.ok ≡ false → run false a l.dev ≡ writes p load seal xs (run true a d)
    unfolding writes step
    piece_unloaded [] k t = absurd (not-suc-le-zero k)
    piece_unloaded (x ∷ xs) k t = rw (← q, t) (sym (stopped xs a l.dev))

    pub loaded_step : (x : ℕ) → l.ok ≡ true
        → step p load seal (run true a d) x ≡ seals p load seal (a + 1) (dev l.dev.store l.dev.chip (set l.dev.buf (a % p) x))
    unfolding step
    loaded_step x t = rw (← q, t)

    pub piece : (xs : List ℕ) → 0 < length xs → l.ok ≡ true → a % p + length xs ≤ p
        → ((e : ℕ) (chip buf : List ℕ) → base p e ≡ base p a → load e (dev l.dev.store chip buf) ≡ out true (dev l.dev.store chip buf))
        → ((e : ℕ) (f : Dev) → (e % p ≡ 0 → ⊥) → seal e f ≡ out true f)
        → seals p load seal (a + length xs) (dev l.dev.store l.dev.chip (sets l.dev.buf (a % p) xs)) ≡ writes p load seal xs (run true a d)
    unfolding writes
    piece [] k t n stays opens = absurd (not-suc-le-zero k)
    piece (x ∷ xs) k t n stays opens =
        sym (ap (λ (o : Run). writes p load seal xs o) (loaded_step x t ∙ sym (held_step l.dev.store (base p a) stays opens a x l.dev.chip l.dev.buf refl))
        ∙ chunk l.dev.store (base p a) stays opens x xs a l.dev.chip l.dev.buf refl n)

  -- ---- the loop over pieces: the piece from k up to e is done, and what is left is from e on

  stopped_if : (xs : List ℕ) (b : Bool) (a : ℕ) (d : Dev) → b ≡ false → writes p load seal xs (run b a d) ≡ run b a d
  stopped_if xs true a d e = false_true (sym e)
  stopped_if xs false a d e = stopped xs a d

  module _ (bs : List ℕ) (k e off : ℕ) (d : Dev) {r : Run} (h : k ≤ e) (q : r ≡ writes p load seal (take (e - k) (drop k bs)) (run true (off + k) d)) where
    onward : writes p load seal (drop e bs) r ≡ writes p load seal (drop k bs) (run true (off + k) d)
    onward =
        let m : e ≡ k + (e - k) = omega arith in
        let n : drop e bs ≡ drop (e - k) (drop k bs) = ap (λ (j : ℕ). drop j bs) m ∙ sym (drop-drop (e - k) k bs) in
        ap (λ (o : Run). writes p load seal (drop e bs) o) q
        ∙ sym (writes_append (take (e - k) (drop k bs)) (drop e bs) (run true (off + k) d))
        ∙ ap (λ (l : List ℕ). writes p load seal l (run true (off + k) d)) (ap (λ (l : List ℕ). take (e - k) (drop k bs) ++ l) n ∙ take-append-drop (e - k) (drop k bs))

    pub piece_failed : r.ok ≡ false → r ≡ writes p load seal (drop k bs) (run true (off + k) d)
    piece_failed t = sym (stopped_if (drop e bs) r.ok r.at r.dev t) ∙ onward

    pub piece_went : e ≤ length bs → r.ok ≡ true → writes p load seal (drop e bs) (run true (off + e) r.dev) ≡ writes p load seal (drop k bs) (run true (off + k) d)
    piece_went l t =
        let n : length (take (e - k) (drop k bs)) ≡ e - k = simp (length-take, length-drop) (omega arith) in
        let z = reached (take (e - k) (drop k bs)) (off + k) d (ap (λ (o : Run). o.ok) (sym q) ∙ t) in
        let w : r.at ≡ off + e = ap (λ (o : Run). o.at) q ∙ z ∙ (omega arith) in
        ap (λ (o : Run). writes p load seal (drop e bs) o) (λ i. record { ok = sym t i; at = sym w i; dev = r.dev }) ∙ onward

  pub finished : (bs : List ℕ) (k : ℕ) (o : Run) → length bs ≤ k → o ≡ writes p load seal (drop k bs) o
  unfolding writes
  finished bs k o h = rw (drop_of_length-le bs h)

-- bytes laid over the buffer are set one after the other
pub laid_sets : (i : ℕ) (l xs : List ℕ) → i + length xs ≤ length l → laid l i xs ≡ sets l i xs
unfolding laid
laid_sets i l xs h = rw (le-leb (i + length xs) (length l) h)

-- a failure says itself how far it came
pub reached_err : {A : Type 0} (m n : ℕ) (r : Result A Stopped) → is_ok r ≡ false → reached_to m r ≡ reached_to n r
reached_err m n (Ok x) e = false_true (sym e)
reached_err m n (Err x) e = refl

-- the state that a write needs, after a load whatever is laid in the buffer then, and after a seal
module _ {p : ℕ} {ready : Dev → Type 0} {load seal : ℕ → Dev → Out} (w : Laws p ready load seal) (a : ℕ) (d : Dev) {o : Out} where
  pub ready_loaded : {b : List ℕ} → o ≡ load a d → ready d → length b ≡ length d.buf → ready (dev o.dev.store o.dev.chip b)
  ready_loaded {b = b} q r h = rw q (w.loaded a d b r h)

  pub ready_sealed : o ≡ seal a d → ready d → ready (dev o.dev.store o.dev.chip d.buf)
  ready_sealed q r = rw q (w.sealed a d r)

-- a piece of a kind that keeps to the laws: brought in, laid over the buffer, and what is done behind it
module _ (p : ℕ) {ready : Dev → Type 0} (load seal : ℕ → Dev → Out) (w : Laws p ready load seal) (a : ℕ) (d : Dev) (xs : List ℕ) {b : List ℕ} {l f : Out} where
  pub piece_sealed : l ≡ load a d → l.ok ≡ true → 0 < length xs → a % p + length xs ≤ p → a % p + length xs ≤ length l.dev.buf
      → b ≡ laid l.dev.buf (a % p) xs → f ≡ seal (a + length xs) (dev l.dev.store l.dev.chip b)
      → run f.ok (a + length xs) f.dev ≡ writes p load seal xs (run true a d)
  unfolding seals
  piece_sealed q t k n m r v =
      let h : (load a d).ok ≡ true = ap (λ (o : Out). o.ok) (sym q) ∙ t in
      let z : (e : ℕ) (chip buf : List ℕ) → base p e ≡ base p a → load e (dev l.dev.store chip buf) ≡ out true (dev l.dev.store chip buf) =
      λ e chip buf g. rw q (w.stays a d h e chip buf g) in
      rw (v, r, laid_sets (a % p) l.dev.buf xs m) (piece p load seal a d q xs k t n z w.opens)
