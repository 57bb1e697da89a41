-- NOR writes over several calls: a write and then another is one write of both; and pieces written one after the other within chip
-- and capacity, then a flush, leave the chip with their bytes and no other byte changed. A write that comes up short, or a stream of
-- them, has itself met a chip call that was told to fail; with no call told to fail from the first on, none does.
use Rattle.std.specs.Prelude.{◌≡◌, true, false, ◌⊎◌, ℕ, suc, ◌+◌, ◌-◌, ◌%◌, ◌≤◌, take, drop, set}
use Rattle.std.proofs.Math.Path.{refl}
use Rattle.std.proofs.Common.{sym, ap, subst, ◌∙◌, le_refl, le_trans, add-zero, arith}
use mathlib.Core.List.{List, [], ◌∷◌, ◌++◌}
use Rattle.std.proofs.Math.Logic.{inl, inr, ⊎_elim}
use Rattle.std.proofs.Math.Nat.{add-sub_cancel_left}
use Rattle.std.proofs.Math.ListN.{length, length-append}
use Rattle.std.proofs.lemmas.List.Edits.{sets, sets-eq}
use Rattle.std.proofs.Math.Seq.{length-sets}
use Rattle.storage.specs.declared.types.Shape.{Shape}
use Rattle.storage.specs.World.{Dev, out, Told, told}
use Rattle.storage.specs.Fold.{Run, run, writes}
use Rattle.storage.specs.Nor.{loads, closes, flushes, written}
use Rattle.storage.proofs.Fold.{writes_append, reached, no_less}
use Rattle.storage.proofs.Nors.{written_told}
use Rattle.nand_laws.specs.Made.{Failed, failed_wide}
use Rattle.nand_laws.specs.Cut.{both, joins}
use Rattle.storage_laws.specs.Kept.{writes_kept}
use Rattle.storage_laws.specs.Counted.{made_on, flushes_made, written_made}
use Rattle.storage_laws.specs.Faults.{QuietFrom, unmet}
use Rattle.storage_laws.specs.View.{Shows, view, free_shows, flush_or_failed, flush_shows, writes_or_failed, writes_show}

-- ---- the cut law, whatever fails later: what counts is that the first part went through

went : (o : Run) (a : ℕ) → o.ok ≡ true → o.at ≡ a → o ≡ run true a o.dev
went o a t w = λ i. record { ok = t i; at = w i; dev = o.dev }

pub writes_split : (F xs ys : List ℕ) (a : ℕ) (d : Dev) → (writes 4096 (loads F) (closes F) xs (run true a d)).ok ≡ true
    → writes 4096 (loads F) (closes F) (xs ++ ys) (run true a d)
    ≡ writes 4096 (loads F) (closes F) ys (run true (a + length xs) (writes 4096 (loads F) (closes F) xs (run true a d)).dev)
writes_split F xs ys a d t =
    let o = writes 4096 (loads F) (closes F) xs (run true a d) in
    writes_append 4096 (loads F) (closes F) xs ys (run true a d)
    ∙ ap (λ (r : Run). writes 4096 (loads F) (closes F) ys r) (went o (a + length xs) t (reached 4096 (loads F) (closes F) xs a d t))

-- a write of both is the one and then the other, where nothing failed in the first
pub split : (F xs ys : List ℕ) (a : ℕ) (d : Dev) → (writes 4096 (loads F) (closes F) xs (run true a d)).ok ≡ true → a + length (xs ++ ys) ≤ d.store.shape.capacity
    → written F a (xs ++ ys) d ≡ both (written F) a xs ys d
split F xs ys a d t c =
    let n : length (xs ++ ys) ≡ length xs + length ys = length-append xs ys in
    let o = writes 4096 (loads F) (closes F) xs (run true a d) in
    let p = writes 4096 (loads F) (closes F) ys (run true (a + length xs) o.dev) in
    let at : o.at ≡ a + length xs = reached 4096 (loads F) (closes F) xs a d t in
    let cap : o.dev.store.shape.capacity ≡ d.store.shape.capacity = ap (λ (s : Shape). s.capacity) (writes_kept F xs a d (omega arith)).shape in
    let first : written F a xs d ≡ told 0 (o.at - a) o.dev = sym (written_told F a xs d (omega arith) refl) in
    let second : written F (a + length xs) ys (written F a xs d).dev ≡ told 0 (p.at - (a + length xs)) p.dev =
    ap (λ (t : Told). written F (a + length xs) ys t.dev) first ∙ sym (written_told F (a + length xs) ys o.dev (omega arith) refl) in
    let on : a + length xs ≤ p.at = no_less 4096 (loads F) (closes F) ys (a + length xs) o.dev refl in
    sym (written_told F a (xs ++ ys) d c (sym (writes_split F xs ys a d t)))
    ∙ sym (joins _ _ _ _ _ _ _ first second (omega arith))

-- ---- what the bytes and the answers of several writes come to

sets_append : (xs ys v : List ℕ) (a : ℕ) → sets v a (xs ++ ys) ≡ sets (sets v a xs) (a + length xs) ys
sets_append [] ys v a = rw add-zero
sets_append (x ∷ xs) ys v a =
    let n : suc a + length xs ≡ a + suc (length xs) = omega arith in
    sets_append xs ys (set v a x) (suc a) ∙ ap (λ (k : ℕ). sets (sets (set v a x) (suc a) xs) k ys) n

-- pieces one after the other
abbrev pub joined : List (List ℕ) → List ℕ
joined [] = []
joined (p ∷ ps) = p ++ joined ps

unfoldable pub stream : List ℕ → ℕ → List (List ℕ) → Dev → Told
stream F a [] d = told 0 0 d
stream F a (p ∷ ps) d =
    let t = written F a p d in
    let r = stream F (a + length p) ps t.dev in
    told 0 (t.count + r.count) r.dev

-- a piece, and then the others
stream_cons : (F : List ℕ) (a : ℕ) (p : List ℕ) (ps : List (List ℕ)) (d : Dev) (m n k : ℕ) (e f : Dev) → written F a p d ≡ told 0 m e → stream F (a + length p) ps e ≡ told 0 n f
    → k ≡ m + n → stream F a (p ∷ ps) d ≡ told 0 k f
unfolding stream
stream_cons F a p ps d m n k e f q r h = rw (q, r, h)

told_of : (F : List ℕ) (a : ℕ) (xs : List ℕ) (n : ℕ) (d e : Dev) → a + length xs ≤ d.store.shape.capacity
    → writes 4096 (loads F) (closes F) xs (run true a d) ≡ run true (a + n) e → written F a xs d ≡ told 0 n e
told_of F a xs n d e c q = sym (written_told F a xs d c (sym q)) ∙ ap (λ (j : ℕ). told 0 j e) (add-sub_cancel_left a n)

module _ (F : List ℕ) where
  -- ---- one write

  -- the write took every byte, and set them in the view
  abbrev pub Written : List ℕ → List ℕ → Shape → ℕ → Dev → Type 0
  Written xs v sh a d = (e : Dev) × (written F a xs d ≡ told 0 (length xs) e) × Shows (sets v a xs) sh e

  -- a write within chip and capacity takes every byte and sets them in the view, or one of its chip calls was told to fail
  pub write_or_failed : (xs v : List ℕ) (sh : Shape) (a : ℕ) (d : Dev) → Shows v sh d → a + length xs ≤ length v → a + length xs ≤ sh.capacity
      → Written xs v sh a d ⊎ Failed F d (written F a xs d).dev
  write_or_failed xs v sh a d s k c =
      let i : a + length xs ≤ d.store.shape.capacity = rw s.fixed c in
      ⊎_elim (λ w. inl (w.0, told_of F a xs (length xs) d w.0 i w.1, w.2))
      (λ x. inr (subst (λ (t : Told). Failed F d t.dev) (written_told F a xs d i refl) x))
      (writes_or_failed F xs v sh a d s k)

  -- so it does where no call from its first on is told to fail
  pub write_shows : (xs v : List ℕ) (sh : Shape) (a : ℕ) (d : Dev) → QuietFrom F d.store.calls → Shows v sh d → a + length xs ≤ length v → a + length xs ≤ sh.capacity
      → Written xs v sh a d
  write_shows xs v sh a d q s k c = unmet q (write_or_failed xs v sh a d s k c)

  -- what is shown after such a write is what was shown, with the bytes over it
  pub view_write : (xs : List ℕ) (a : ℕ) (d : Dev) → QuietFrom F d.store.calls → Shows (view d) d.store.shape d → a + length xs ≤ length d.chip
      → a + length xs ≤ d.store.shape.capacity → view (written F a xs d).dev ≡ take a (view d) ++ xs ++ drop (a + length xs) (view d)
  view_write xs a d q s k c =
      let b : a + length xs ≤ length (view d) = omega (arith, s.long) in
      let w = write_shows xs (view d) d.store.shape a d q s b c in
      ap (λ (t : Told). view t.dev) w.1 ∙ w.2.is ∙ sets-eq xs (view d) a b

  -- a flush with no such call succeeds, makes the chip what was shown, and holds nothing
  pub view_flush : (d : Dev) → QuietFrom F d.store.calls → Shows (view d) d.store.shape d
      → (e : Dev) × (flushes F d ≡ out true e) × (e.chip ≡ view d) × (e.store.held ≡ false) × (view e ≡ view d)
  view_flush d q s =
      let f = flush_shows F (view d) d.store.shape d q s in
      (f.0, f.1, f.2, f.3, f.4.is)

  -- the cut law within the chip, with no such call: a write of both is the one and then the other
  pub split_quiet : (xs ys v : List ℕ) (sh : Shape) (a : ℕ) (d : Dev) → QuietFrom F d.store.calls → Shows v sh d → a + length (xs ++ ys) ≤ length v
      → a + length (xs ++ ys) ≤ sh.capacity → written F a (xs ++ ys) d ≡ both (written F) a xs ys d
  split_quiet xs ys v sh a d q s k c =
      let n : length (xs ++ ys) ≡ length xs + length ys = length-append xs ys in
      let w = writes_show F xs v sh a d q s (omega arith) in
      split F xs ys a d (ap (λ (o : Run). o.ok) w.1) (rw s.fixed c)

  -- ---- pieces one after the other

  -- a stream does not set the counter back
  stream_on : (ps : List (List ℕ)) (a : ℕ) (d : Dev) → d.store.calls ≤ 18446744073709551615
      → (let e = (stream F a ps d).dev in (d.store.calls ≤ e.store.calls) × (e.store.calls ≤ 18446744073709551615))
  unfolding stream
  stream_on [] a d h = (le_refl _, h)
  stream_on (p ∷ ps) a d h =
      let k = made_on h (written_made F a p d).1 in
      let r = stream_on ps (a + length p) (written F a p d).dev k.1 in
      (le_trans k.0 r.0, r.1)

  -- every byte of the pieces was taken, and set in the view
  abbrev pub Streamed : List (List ℕ) → List ℕ → Shape → ℕ → Dev → Type 0
  Streamed ps v sh a d = (e : Dev) × (stream F a ps d ≡ told 0 (length (joined ps)) e) × Shows (sets v a (joined ps)) sh e

  -- a piece, and then the others
  streamed_more : (p : List ℕ) (ps : List (List ℕ)) (v : List ℕ) (sh : Shape) (a : ℕ) (d : Dev) (w : Written p v sh a d) → Streamed ps (sets v a p) sh (a + length p) w.0
      → Streamed (p ∷ ps) v sh a d
  streamed_more p ps v sh a d w r = (
    r.0,
    stream_cons F a p ps d (length p) (length (joined ps)) (length (p ++ joined ps)) w.0 r.0 w.1 r.1 (length-append p (joined ps)),
    subst (λ (l : List ℕ). Shows l sh r.0) (sym (sets_append p (joined ps) v a)) r.2,
  )

  -- pieces within chip and capacity are taken in full and set in the view, or a chip call of one of the writes was told to fail
  pub stream_or_failed : (ps : List (List ℕ)) (v : List ℕ) (sh : Shape) (a : ℕ) (d : Dev) → Shows v sh d → a + length (joined ps) ≤ length v
      → a + length (joined ps) ≤ sh.capacity → Streamed ps v sh a d ⊎ Failed F d (stream F a ps d).dev
  unfolding stream
  stream_or_failed [] v sh a d s k c = inl (d, refl, s)
  stream_or_failed (p ∷ ps) v sh a d s k c =
      let n = length-append p (joined ps) in
      let b : a + length p + length (joined ps) ≤ length (sets v a p) = rw (length-sets v a p) (omega arith) in
      let o = made_on s.calls (written_made F a p d).1 in
      ⊎_elim
      (λ w. ⊎_elim (λ r. inl (streamed_more p ps v sh a d w r))
      (λ x. inr (failed_wide o.0 (le_refl _) (subst (λ (t : Told). Failed F t.dev (stream F (a + length p) ps t.dev).dev) (sym w.1) x)))
      (stream_or_failed ps (sets v a p) sh (a + length p) w.0 w.2 b (omega arith)))
      (λ x. inr (failed_wide (le_refl _) (stream_on ps (a + length p) (written F a p d).dev o.1).0 x))
      (write_or_failed p v sh a d s (omega arith) (omega arith))

  -- so they are where no call from the first on is told to fail
  pub stream_shows : (ps : List (List ℕ)) (v : List ℕ) (sh : Shape) (a : ℕ) (d : Dev) → QuietFrom F d.store.calls → Shows v sh d → a + length (joined ps) ≤ length v
      → a + length (joined ps) ≤ sh.capacity → Streamed ps v sh a d
  stream_shows ps v sh a d q s k c = unmet q (stream_or_failed ps v sh a d s k c)

  -- ---- pieces and then a flush

  -- every byte was counted, the flush succeeded, nothing is held, and the chip is the old one with the pieces' bytes at B
  abbrev pub Burnt : List (List ℕ) → ℕ → Dev → Type 0
  Burnt ps B d =
      (e : Dev) × ((stream F B ps d).count ≡ length (joined ps)) × (flushes F (stream F B ps d).dev ≡ out true e) × (e.store.held ≡ false)
      × (e.chip ≡ take B d.chip ++ joined ps ++ drop (B + length (joined ps)) d.chip)

  module _ (ps : List (List ℕ)) (B : ℕ) (d : Dev) (h : d.store.held ≡ false) (r : 4096 ≤ length d.buf) (w : length d.chip % 4096 ≡ 0)
      (m : d.store.calls ≤ 18446744073709551615) (k : B + length (joined ps) ≤ length d.chip) (c : B + length (joined ps) ≤ d.store.shape.capacity) where
    streamed_burnt : Streamed ps d.chip d.store.shape B d → Burnt ps B d ⊎ Failed F d (flushes F (stream F B ps d).dev).dev
    streamed_burnt t =
        let n : d.store.calls ≤ t.0.store.calls = rw t.1 at (stream_on ps B d m).0 in
        ⊎_elim
        (λ f. inl (
          f.0,
          ap (λ (z : Told). z.count) t.1,
          ap (λ (z : Told). flushes F z.dev) t.1 ∙ f.1,
          f.3,
          f.2 ∙ sets-eq (joined ps) d.chip B k,
        ))
        (λ x. inr (subst (λ (z : Told). Failed F d (flushes F z.dev).dev) (sym t.1) (failed_wide n (le_refl _) x)))
        (flush_or_failed F (sets d.chip B (joined ps)) d.store.shape t.0 t.2)

    -- from nothing held, pieces written one after the other from B on and then a flush leave the chip with their bytes, or a chip call among them was told to fail
    pub burnt_or_failed : Burnt ps B d ⊎ Failed F d (flushes F (stream F B ps d).dev).dev
    burnt_or_failed =
        ⊎_elim streamed_burnt
        (λ x. inr (failed_wide (le_refl _) (made_on (stream_on ps B d m).1 (flushes_made F (stream F B ps d).dev).1).0 x))
        (stream_or_failed ps d.chip d.store.shape B d (free_shows d h r w m) k c)

    -- so they do where no call from the first on is told to fail
    pub burnt : QuietFrom F d.store.calls → Burnt ps B d
    burnt q = unmet q burnt_or_failed
