-- The cut law by what a caller sees, whatever the chip does: where a NAND write counted every byte of its first part, a write of both
-- parts is the one and then the other. A full page stays held, so a write fails only before a byte is counted.
use Rattle.std.specs.Prelude.{◌≡◌, refl, Bool, false, cond, ℕ, suc, ◌+◌, ◌-◌, ◌%◌, ◌≤◌, ◌<◌, length, set}
use Rattle.std.proofs.Common.{sym, ap, ◌∙◌, arith, length-append}
use Rattle.std.proofs.Math.Bool.{true}
use mathlib.Core.List.{List, [], ◌∷◌, ◌++◌}
use Rattle.storage.specs.declared.types.Shape.{Shape}
use Rattle.storage.specs.World.{Lent, Dev, dev, Out, Told, told}
use Rattle.storage.specs.Fold.{Run, run, seals, step, writes}
use Rattle.storage.specs.Nand.{loads, stays, written}
use Rattle.storage.proofs.Fold.{false_true, stopped, writes_append, reached, no_less}
use Rattle.storage.proofs.NandKeeps.{writes_shape}
use Rattle.storage.proofs.NandMoves.{written_told}

module _ (l : Lent) (p : ℕ) where
  -- the bytes of a write, for short
  abbrev puts : List ℕ → Run → Run
  puts = writes p (loads l p) stays

  -- ---- a write that failed has left a byte uncounted

  step_stops : (a x : ℕ) (d : Dev) → (step p (loads l p) stays (run true a d) x).ok ≡ false → (step p (loads l p) stays (run true a d) x).at ≡ a
  unfolding step seals stays
  step_stops a x d = go o.ok
    where
      o : Out
      o = loads l p a d

      r : Bool → Run
      r b = cond b (run true (a + 1) (dev o.dev.store o.dev.chip (set o.dev.buf (a % p) x))) (run false a o.dev)

      go : (b : Bool) → (r b).ok ≡ false → (r b).at ≡ a
      go true t = false_true (sym t)
      go false t = refl

  -- after the first byte: it went on, and what is left stopped, or it stopped there
  rest_short : (xs : List ℕ) (a : ℕ) (b : Bool) (i : ℕ) (e : Dev) → (b ≡ true → i ≡ a + 1) → (b ≡ false → i ≡ a)
      → ((j : ℕ) → (puts xs (run true j e)).ok ≡ false → (puts xs (run true j e)).at < j + length xs) → (puts xs (run b i e)).ok ≡ false → (puts xs (run b i e)).at < a + suc (length xs)
  rest_short xs a true i e h k rec t =
      let q : i ≡ a + 1 = h refl in
      let r = rec i t in
      omega arith
  rest_short xs a false i e h k rec t = let q : i ≡ a = k refl in rw (stopped p (loads l p) stays xs i e) (omega arith)

  writes_short : (xs : List ℕ) (a : ℕ) (d : Dev) → (puts xs (run true a d)).ok ≡ false → (puts xs (run true a d)).at < a + length xs
  unfolding writes
  writes_short [] a d t = false_true (sym t)
  writes_short (x ∷ xs) a d t =
      let s = step p (loads l p) stays (run true a d) x in
      rest_short xs a s.ok s.at s.dev (λ e. reached p (loads l p) stays (x ∷ []) a d e) (step_stops a x d) (λ j. writes_short xs j s.dev) t

  came : (xs : List ℕ) (a : ℕ) (d : Dev) (o : Run) → o ≡ puts xs (run true a d) → o.at ≡ a + length xs → o ≡ run true (a + length xs) o.dev
  came xs a d o q e = go o.ok refl
    where
      go : (b : Bool) → o.ok ≡ b → o ≡ run true (a + length xs) o.dev
      go true t = λ i. record { ok = t i; at = e i; dev = o.dev }
      go false t =
          let s : (puts xs (run true a d)).at < a + length xs = writes_short xs a d (ap (λ (r : Run). r.ok) (sym q) ∙ t) in
          let w : (puts xs (run true a d)).at ≡ a + length xs = ap (λ (r : Run). r.at) (sym q) ∙ e in
          absurd (omega arith)

-- ---- the cut

-- two writes as one answer, for either kind of device
abbrev pub both : (ℕ → List ℕ → Dev → Told) → ℕ → List ℕ → List ℕ → Dev → Told
both write a xs ys d =
    let t = write a xs d in
    let u = write (a + length xs) ys t.dev in
    told 0 (t.count + u.count) u.dev

pub joins : (t u : Told) (p q n : ℕ) (e f : Dev) → t ≡ told 0 p e → u ≡ told 0 q f → n ≡ p + q → told 0 (t.count + u.count) u.dev ≡ told 0 n f
joins t u p q n e f x y z = rw (x, y, z)

-- where the first part was written in full, a write of both is the one and then the other
pub cut : (l : Lent) (xs ys : List ℕ) (a : ℕ) (d : Dev) → a + length (xs ++ ys) ≤ d.store.shape.capacity → (written l a xs d).count ≡ length xs
    → written l a (xs ++ ys) d ≡ both (written l) a xs ys d
cut l xs ys a d c n =
    let p = d.store.shape.page in
    let m : length (xs ++ ys) ≡ length xs + length ys = length-append xs ys in
    let o = writes p (loads l p) stays xs (run true a d) in
    let first : written l a xs d ≡ told 0 (o.at - a) o.dev = sym (written_told l a xs d (omega arith) refl) in
    let back : a ≤ o.at = no_less p (loads l p) stays xs a d refl in
    let count : o.at - a ≡ length xs = sym (ap (λ (t : Told). t.count) first) ∙ n in
    let at : o.at ≡ a + length xs = omega arith in
    let shape : o.dev.store.shape ≡ d.store.shape = writes_shape l d p xs a refl in
    let page : o.dev.store.shape.page ≡ p = ap (λ (s : Shape). s.page) shape in
    let cap : o.dev.store.shape.capacity ≡ d.store.shape.capacity = ap (λ (s : Shape). s.capacity) shape in
    let w = writes p (loads l p) stays ys (run true (a + length xs) o.dev) in
    let whole : writes p (loads l p) stays (xs ++ ys) (run true a d) ≡ w =
    writes_append p (loads l p) stays xs ys (run true a d) ∙ ap (λ (r : Run). writes p (loads l p) stays ys r) (came l p xs a d o refl at) in
    let again : w ≡ writes o.dev.store.shape.page (loads l o.dev.store.shape.page) stays ys (run true (a + length xs) o.dev) =
    ap (λ (q : ℕ). writes q (loads l q) stays ys (run true (a + length xs) o.dev)) (sym page) in
    let second : written l (a + length xs) ys (written l a xs d).dev ≡ told 0 (w.at - (a + length xs)) w.dev =
    ap (λ (t : Told). written l (a + length xs) ys t.dev) first ∙ sym (written_told l (a + length xs) ys o.dev (omega arith) again) in
    let on : a + length xs ≤ w.at = no_less p (loads l p) stays ys (a + length xs) o.dev refl in
    sym (written_told l a (xs ++ ys) d c (sym whole)) ∙ sym (joins _ _ _ _ _ _ _ first second (omega arith))
