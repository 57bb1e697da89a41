-- A stream's piece in two. Where a stream has no target, a piece p ++ q is p and then q, whatever the storage is. Where it has one, it
-- is so if the storage takes p in full and the rest of the stream lies below the capacity; and on a NOR, which counts the bytes of a
-- full sector whose flush fails, if none of the chip calls for p was told to fail and the rest lies within the chip. `Steady` is what
-- this asks of the storage at all times, and every storage call keeps it.
use Rattle.std.specs.Prelude.{◌≡◌, refl, Bool, false, List, ◌++◌, ℕ, ◌+◌, ◌-◌, ◌≤◌, ◌<◌, eqb, length}
use Rattle.std.proofs.Common.{sym, subst, ◌∙◌, ⊎_elim, le_refl, le_trans, add_assoc, arith, eq-eqb, ne_eqb, eqb-true, length-append}
use Rattle.std.proofs.Math.Path.{ap}
use Rattle.std.proofs.Math.Bool.{true, cond}
use Rattle.std.proofs.lemmas.Bool.{eqb-false}
use Rattle.wire.proofs.Register.{crc_continues}
use Rattle.storage.specs.declared.types.Kind.{Kind}
use Rattle.storage.specs.declared.types.Kind.TheVariants.{Nor, Nand}
use Rattle.storage.specs.declared.types.Shape.{Shape}
use Rattle.storage.specs.World.{Lent, Dev, Told, Seen}
use Rattle.storage.specs.Fold.{Run}
use Rattle.storage.specs.Nor as NorOf
use Rattle.storage.specs.Nand as NandOf
use Rattle.storage.specs.Store.{good, by_good, flushing, erasing, writing, reading}
use Rattle.storage.proofs.Nors.{written_told}
use Rattle.nand_laws.specs.Made.{Failed}
use Rattle.nand_laws.specs.Kept as NandKept
use Rattle.nand_laws.specs.Cut.{both, cut}
use Rattle.storage_laws.specs.Kept as NorKept
use Rattle.storage_laws.specs.Faults.{QuietFrom}
use Rattle.storage_laws.specs.View.{Shows, view, writes_or_failed}
use Rattle.storage_laws.specs.Shown as Shown
use Rattle.storage_laws.specs.Stream.{split, write_or_failed}
use Rattle.storage_laws.specs.Reasons.{InOrder}
use Rattle.storage_laws.specs.Bounds.{chosen, page_fits, flushing_good, erasing_good, writing_good, reading_good}
use Rattle.engine.specs.declared.types.Update.{Update}
use Rattle.engine.specs.World.{World, with_up, at_e, dev_of, at_dev}
use Rattle.engine.specs.Stream.{burn_by, taken, fed_by, fed}
use Rattle.engine_laws.specs.Carry.{Closed}

-- ---- what is asked of the storage at all times

-- the tests of every call take it, and a NOR shows something
pub record Steady (l : Lent) (d : Dev) : Type 0 where
  pub taken : good l d ≡ true
  pub shows : d.store.shape.kind ≡ Nor → Shows (view d) d.store.shape d

-- a NOR in bounds that shows something, with no call from its next on told to fail
pub record Still (l : Lent) (d : Dev) : Type 0 where
  pub kind : d.store.shape.kind ≡ Nor
  pub taken : good l d ≡ true
  pub shows : Shows (view d) d.store.shape d
  pub quiet : QuietFrom l.faults d.store.calls

-- a storage that calls have led to from d
pub record On (l : Lent) (d e : Dev) : Type 0 where
  pub taken : good l e ≡ true
  pub shape : e.store.shape ≡ d.store.shape
  pub chip : length e.chip ≡ length d.chip
  pub shows : d.store.shape.kind ≡ Nor → Shows (view e) d.store.shape e
  pub calls : d.store.shape.kind ≡ Nor → d.store.calls ≤ e.store.calls

-- a storage in order is steady
pub order_steady : (l : Lent) (d : Dev) → InOrder l d → Steady l d
order_steady l d o = record { taken = o.taken; shows = λ q. Shown.good_shows l d o.taken q o.rests.below o.calls }

-- no call has been made
pub on_start : (l : Lent) (d : Dev) → Steady l d → On l d d
on_start l d s = record { taken = s.taken; shape = refl; chip = refl; shows = s.shows; calls = λ q. le_refl _ }

-- it is steady
pub on_steady : (l : Lent) (d e : Dev) → On l d e → Steady l e
on_steady l d e o =
    record {
      taken = o.taken;
      shows = λ q. subst (λ (s : Shape). Shows (view e) s e) (sym o.shape) (o.shows (ap (λ (s : Shape). s.kind) (sym o.shape) ∙ q));
    }

module _ (l : Lent) (d : Dev) where
  nor_not_nand : {A : Type 0} → d.store.shape.kind ≡ Nor → d.store.shape.kind ≡ Nand → A
  nor_not_nand p q = absurd (let z : ◌≡◌ {A = ℕ} 0 1 = cc in omega arith)

  kind_of_lem : {e : Dev} {k : Kind} → On l d e → e.store.shape.kind ≡ k → d.store.shape.kind ≡ k
  kind_of_lem o q = ap (λ (s : Shape). s.kind) (sym o.shape) ∙ q

  -- what a NOR call led to, and what a NAND call led to
  nor_on : (e f : Dev) → On l d e → d.store.shape.kind ≡ Nor → good l f ≡ true → NorKept.Kept e f → Shows (view f) d.store.shape f → On l d f
  nor_on e f o q t k s =
      record {
        taken = t;
        shape = k.shape ∙ o.shape;
        chip = k.chip ∙ o.chip;
        shows = λ _. s;
        calls = λ _. le_trans (o.calls q) (k.calls (o.shows q).calls).0;
      }

  nand_on : (e f : Dev) → On l d e → d.store.shape.kind ≡ Nand → good l f ≡ true → NandKept.Kept e f → On l d f
  nand_on e f o q t k =
      record {
        taken = t;
        shape = k.shape ∙ o.shape;
        chip = k.chip ∙ o.chip;
        shows = λ p. nor_not_nand p q;
        calls = λ p. nor_not_nand p q;
      }

  on_flush : (e : Dev) → On l d e → On l d (flushing l e).dev
  unfolding flushing
  on_flush e o =
      chosen l e o.taken (λ (t : Told). good l t.dev ≡ true → On l d t.dev) _ _ _
      (λ q t. nor_on e _ o (kind_of_lem o q) t (NorKept.flushes_kept l.faults e) (Shown.flushes_shown l.faults (view e) d.store.shape e (o.shows (kind_of_lem o q))))
      (λ q t. nand_on e _ o (kind_of_lem o q) t (NandKept.flushed_kept l e)) (flushing_good l e o.taken)

  on_erase : (start size : ℕ) (e : Dev) → On l d e → On l d (erasing l start size e).dev
  unfolding erasing
  on_erase start size e o =
      chosen l e o.taken (λ (t : Told). good l t.dev ≡ true → On l d t.dev) _ _ _
      (λ q t. nor_on e _ o (kind_of_lem o q) t (NorKept.erased_kept l.faults start size e) (Shown.erased_shown l.faults (view e) d.store.shape e (o.shows (kind_of_lem o q)) start size))
      (λ q t. nand_on e _ o (kind_of_lem o q) t (NandKept.erased_kept l e start size)) (erasing_good l e o.taken start size)

  on_write : (off : ℕ) (xs : List ℕ) (e : Dev) → On l d e → On l d (writing l off xs e).dev
  unfolding writing
  on_write off xs e o =
      chosen l e o.taken (λ (t : Told). good l t.dev ≡ true → On l d t.dev) _ _ _
      (λ q t. nor_on e _ o (kind_of_lem o q) t (NorKept.written_kept l.faults off xs e) (Shown.written_shown l.faults (view e) d.store.shape e (o.shows (kind_of_lem o q)) off xs))
      (λ q t. nand_on e _ o (kind_of_lem o q) t (NandKept.written_kept l e (page_fits l e o.taken q) off xs)) (writing_good l e o.taken off xs)

  on_read : (off : ℕ) (room : List ℕ) (e : Dev) → On l d e → On l d (reading l off room e).told.dev
  unfolding reading
  on_read off room e o =
      chosen l e o.taken (λ (s : Seen). good l s.told.dev ≡ true → On l d s.told.dev) _ _ _
      (λ q t. nor_on e _ o (kind_of_lem o q) t (NorKept.read_out_kept l.faults off room e) (Shown.read_out_shown l.faults (view e) d.store.shape e (o.shows (kind_of_lem o q)) off room))
      (λ q t. nand_on e _ o (kind_of_lem o q) t (NandKept.read_out_kept l e off room)) (reading_good l e o.taken off room)

  -- every storage call leads on
  pub on_closed : Closed l (On l d)
  on_closed = record { flush = on_flush; erase = on_erase; write = on_write; read = on_read }

-- ---- a write to the storage in two

-- the storage took all of p, and p and q are both of them one after the other
abbrev pub Divides : Lent → ℕ → List ℕ → List ℕ → Dev → Type 0
Divides l a p q d = (writing l a (p ++ q) d ≡ both (writing l) a p q d) × ((writing l a p d).count ≡ length p)

module _ (l : Lent) (a : ℕ) (xs : List ℕ) (d : Dev) (g : good l d ≡ true) where
  writing_nor : d.store.shape.kind ≡ Nor → writing l a xs d ≡ NorOf.written l.faults a xs d
  unfolding writing by_good
  writing_nor q = rw (g, q)

  writing_nand : d.store.shape.kind ≡ Nand → writing l a xs d ≡ NandOf.written l a xs d
  unfolding writing by_good
  writing_nand q = rw (g, q)

module _ (l : Lent) (a : ℕ) (p q : List ℕ) (d : Dev) (s : Steady l d) (c : a + length (p ++ q) ≤ d.store.shape.capacity) where
  next : On l d (writing l a p d).dev
  next = (on_closed l d).write a p d (on_start l d s)

  -- a NOR divides where none of the chip calls for p was told to fail
  nor_divides : d.store.shape.kind ≡ Nor → a + length (p ++ q) ≤ length d.chip → (Failed l.faults d (writing l a p d).dev → ⊥) → Divides l a p q d
  nor_divides k h n =
      let F = l.faults in
      let sh = d.store.shape in
      let v = s.shows k in
      let m = length-append p q in
      let low : a + length p ≤ sh.capacity = omega arith in
      let high : a + length p ≤ length (view d) = omega (arith, v.long) in
      let e = writing_nor l a p d s.taken k in
      let no : Failed F d (NorOf.written F a p d).dev → ⊥ = λ x. n (subst (λ (t : Told). Failed F d t.dev) (sym e) x) in
      let two : NorOf.written F a (p ++ q) d ≡ both (NorOf.written F) a p q d =
      ⊎_elim (λ w. split F p q a d (ap (λ (o : Run). o.ok) w.1) c) (λ x. absurd (no (subst (λ (t : Told). Failed F d t.dev) (written_told F a p d low refl) x)))
      (writes_or_failed F p (view d) sh a d v high) in
      let count : (NorOf.written F a p d).count ≡ length p =
      ⊎_elim (λ w. ap (λ (t : Told). t.count) w.1) (λ x. absurd (no x)) (write_or_failed F p (view d) sh a d v high low) in
      let f : writing l (a + length p) q (writing l a p d).dev ≡ NorOf.written F (a + length p) q (NorOf.written F a p d).dev =
      writing_nor l (a + length p) q (writing l a p d).dev next.taken (ap (λ (x : Shape). x.kind) next.shape ∙ k) ∙ ap (λ (t : Told). NorOf.written F (a + length p) q t.dev) e in
      (writing_nor l a (p ++ q) d s.taken k ∙ two ∙ rw (f, e), ap (λ (t : Told). t.count) e ∙ count)

  -- a NAND divides where it took all of p
  nand_divides : d.store.shape.kind ≡ Nand → (writing l a p d).count ≡ length p → Divides l a p q d
  nand_divides k n =
      let e = writing_nand l a p d s.taken k in
      let two = cut l p q a d c (ap (λ (t : Told). t.count) (sym e) ∙ n) in
      let f : writing l (a + length p) q (writing l a p d).dev ≡ NandOf.written l (a + length p) q (NandOf.written l a p d).dev =
      writing_nand l (a + length p) q (writing l a p d).dev next.taken (ap (λ (x : Shape). x.kind) next.shape ∙ k) ∙ ap (λ (t : Told). NandOf.written l (a + length p) q t.dev) e in
      (writing_nand l a (p ++ q) d s.taken k ∙ two ∙ rw (f, e), n)

-- ---- the counts of a stream in two

burn_zero : (old count n : ℕ) → burn_by old count n ≡ 0 → count ≡ n
burn_zero old count n = go (eqb count n) (eqb old 0) refl refl
  where
    go : (t u : Bool) → eqb count n ≡ t → eqb old 0 ≡ u → cond t old (cond u 1 old) ≡ 0 → count ≡ n
    go true u e f h = eqb-true count n e
    go false true e f h = absurd (omega arith)
    go false false e f h = absurd (eqb-false old 0 f h)

burn_cut : (old m k n : ℕ) → burn_by old (m + k) (m + n) ≡ burn_by (burn_by old m m) k n
burn_cut old m k n = rw (eq-eqb m m refl) (go (eqb k n) refl)
  where
    go : (t : Bool) → eqb k n ≡ t → cond (eqb (m + k) (m + n)) old (cond (eqb old 0) 1 old) ≡ cond (eqb k n) old (cond (eqb old 0) 1 old)
    go true e = rw (e, eq-eqb (m + k) (m + n) (omega (arith, eqb-true k n e)))
    go false e = rw (e, ne_eqb (m + k) (m + n) (λ h. eqb-false k n e (omega arith)))

taken_cut : (p q : List ℕ) (k : ℕ) (u : Update) → taken (p ++ q) (length p + k) u ≡ taken q k (taken p (length p) u)
taken_cut p q k u =
    let a : u.written + (length p + length q) ≡ u.written + length p + length q = omega arith in
    let b : u.left - (length p + length q) ≡ u.left - length p - length q = omega arith in
    rw (length-append p q, a, b, burn_cut u.burn (length p) k (length q), crc_continues u.crc p q)

-- ---- a piece of a stream in two

module _ (l : Lent) (w : World) where
  abbrev place : ℕ
  place = w.e.up.target + w.e.up.written

  pub fed_aimed : (p : List ℕ) → w.e.up.aimed ≡ true → fed l p w ≡ fed_by w p (writing l place p (dev_of w))
  unfolding fed
  fed_aimed p e = ap (λ (b : Bool). cond b (fed_by w p (writing l place p (dev_of w))) (at_e (with_up (taken p (length p) w.e.up) w.e) w)) e

  fed_unaimed : (p : List ℕ) → w.e.up.aimed ≡ false → fed l p w ≡ at_e (with_up (taken p (length p) w.e.up) w.e) w
  unfolding fed
  fed_unaimed p e = ap (λ (b : Bool). cond b (fed_by w p (writing l place p (dev_of w))) (at_e (with_up (taken p (length p) w.e.up) w.e) w)) e

-- what a piece leaves of the counts
abbrev after_fed : World → Update → Dev → World
after_fed w u d = at_e (with_up u (at_dev d w).e) (at_dev d w)

-- a piece of a stream that has no target is both of its parts, one after the other
pub unaimed_cut : (l : Lent) (w : World) (p q : List ℕ) → w.e.up.aimed ≡ false → fed l (p ++ q) w ≡ fed l q (fed l p w)
unaimed_cut l w p q e =
    let v = at_e (with_up (taken p (length p) w.e.up) w.e) w in
    fed_unaimed l w (p ++ q) e
    ∙ ap (λ (n : ℕ). at_e (with_up (taken (p ++ q) n w.e.up) w.e) w) (length-append p q)
    ∙ ap (λ (u : Update). at_e (with_up u w.e) w) (taken_cut p q (length q) w.e.up)
    ∙ sym (fed_unaimed l v q e)
    ∙ ap (fed l q) (sym (fed_unaimed l w p e))

-- and so is one of a stream with a target, where the storage divides there
pub aimed_cut : (l : Lent) (w : World) (p q : List ℕ) → w.e.up.aimed ≡ true → Divides l (w.e.up.target + w.e.up.written) p q (dev_of w)
    → fed l (p ++ q) w ≡ fed l q (fed l p w)
aimed_cut l w p q e h =
    let a = w.e.up.target + w.e.up.written in
    let t = writing l a p (dev_of w) in
    let u = writing l (a + length p) q t.dev in
    fed_aimed l w (p ++ q) e
    ∙ ap (fed_by w (p ++ q)) h.0
    ∙ ap (λ (n : ℕ). after_fed w (taken (p ++ q) (n + u.count) w.e.up) u.dev) h.1
    ∙ ap (λ (x : Update). after_fed w x u.dev) (taken_cut p q u.count w.e.up)
    ∙ ap (λ (n : ℕ). after_fed w (taken q u.count (taken p n w.e.up)) u.dev) (sym h.1)
    ∙ ap (λ (n : ℕ). fed_by (fed_by w p t) q (writing l n q t.dev)) (add_assoc w.e.up.target w.e.up.written (length p))
    ∙ sym (fed_aimed l (fed_by w p t) q e)
    ∙ ap (fed l q) (sym (fed_aimed l w p e))

-- ---- the condition

-- from w to v, where v has an open stream with a target: the rest of the stream lies below the capacity; on a NOR it lies within the
-- chip, and no chip call between w and v was told to fail; on a NAND every byte was stored
pub record Clean (l : Lent) (w v : World) : Type 0 where
  pub low : v.e.up.target + v.e.up.written + v.e.up.left ≤ v.e.store.shape.capacity
  pub high : w.e.store.shape.kind ≡ Nor → v.e.up.target + v.e.up.written + v.e.up.left ≤ length v.chip
  pub unmet : w.e.store.shape.kind ≡ Nor → Failed l.faults (dev_of w) (dev_of v) → ⊥
  pub full : w.e.store.shape.kind ≡ Nand → v.e.up.burn ≡ 0

-- and else nothing is asked
abbrev pub Cleanly : Lent → World → World → Type 0
Cleanly l w v = (v.e.up.left ≡ 0 → ⊥) → v.e.up.aimed ≡ true → Clean l w v

module _ (l : Lent) (w : World) (p q : List ℕ) (s : Steady l (dev_of w)) (b : ℕ) where
  -- the storage divides where what it left is clean
  clean_divides : b + length (p ++ q) ≤ w.e.store.shape.capacity → (w.e.store.shape.kind ≡ Nor → b + length (p ++ q) ≤ length w.chip)
      → Clean l w (fed_by w p (writing l b p (dev_of w))) → Divides l b p q (dev_of w)
  clean_divides low high c = by w.e.store.shape.kind refl
    where
      by : (k : Kind) → w.e.store.shape.kind ≡ k → Divides l b p q (dev_of w)
      by Nor k = nor_divides l b p q (dev_of w) s low k (high k) (c.unmet k)
      by Nand k = nand_divides l b p q (dev_of w) s low k (burn_zero w.e.up.burn (writing l b p (dev_of w)).count (length p) (c.full k))

-- a piece of a stream of which more is to come, and what comes, are fed as one or as two
pub fed_cut : (l : Lent) (w : World) (p q : List ℕ) → Steady l (dev_of w) → length p < w.e.up.left → length p + length q ≤ w.e.up.left → Cleanly l w (fed l p w)
    → fed l (p ++ q) w ≡ fed l q (fed l p w)
fed_cut l w p q s i j h = go w.e.up.aimed refl
  where
    go : (b : Bool) → w.e.up.aimed ≡ b → fed l (p ++ q) w ≡ fed l q (fed l p w)
    go true e =
        let b = w.e.up.target + w.e.up.written in
        let t = writing l b p (dev_of w) in
        let c : Clean l w (fed_by w p t) = subst (λ (v : World). Cleanly l w v) (fed_aimed l w p e) h (λ z. omega arith) e in
        let o = (on_closed l (dev_of w)).write b p (dev_of w) (on_start l (dev_of w) s) in
        let cap : t.dev.store.shape.capacity ≡ w.e.store.shape.capacity = ap (λ (x : Shape). x.capacity) o.shape in
        let size : length t.dev.chip ≡ length w.chip = o.chip in
        let n = length-append p q in
        aimed_cut l w p q e (clean_divides l w p q s b (omega (arith, c.low)) (λ k. omega (arith, c.high k)) c)
    go false e = unaimed_cut l w p q e
