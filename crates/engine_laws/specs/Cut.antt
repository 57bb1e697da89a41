-- The cut law: a write of a ++ b is a write of a, and then of b, wherever the cut falls, if the write of a has status 0 and leaves an
-- open stream, if any, clean (`Cleanly`, Split.antt). Without a condition it is false: the engine goes on after a short storage write,
-- and the storage looks at each of its pieces as a whole, so with a failing chip, or past the capacity, cuts can be seen.
--   `frame_halves`, `stream_halves`   a turn with p ++ q, where p leaves it unfinished, is a turn with p and then one with q
--   `cut_by`         the law from any condition that turns keep and that lets a stream's piece be fed in two
--   `cut_unaimed`    where a leaves no stream open, or one with no target: any storage, any faults, any state
--   `cut`, `cuts`    where a leaves one with a target, for one cut and for many: either kind of storage. On a NOR no chip call made for a
--                    was told to fail; those of b may be
--   `cut_quiet`      a NOR with no call from the first on told to fail; `quiet_feeds`, what it asks of the storage stays
--   `cut_within`, `cuts_within`   within an open stream of such a NOR, by the state before the cuts; `within_stays`, it stays so
--   `write_cut` and its like      the same for the public call, from an engine in bounds
use Rattle.std.specs.Prelude.{◌≡◌, Bool, true, false, cond, ℕ, zero, suc, ◌+◌, ◌-◌, ◌≤◌, ◌<◌, eqb, ltb, take, drop, set}
use Rattle.std.proofs.Math.Path.{refl, sym, ap}
use Rattle.std.proofs.Common.{subst, ◌∙◌, le_refl, add-zero, add_assoc, ne_eqb, eqb-true, lt-ltb, ltb-true, ltb-false, length-drop, length-take, drop_of_length-le, take_all}
use mathlib.Core.List.{List, [], ◌∷◌, ◌++◌, append-nil, append_assoc}
use native.Mathlib.Omega.{arith}
use Rattle.std.proofs.lemmas.Bool.{eqb-false}
use Rattle.std.proofs.Math.ListN.{length, length-append}
use Rattle.std.proofs.lemmas.List.Edits.{sets}
use Rattle.std.proofs.Math.Seq.{take-append-add, drop-append-add}
use Rattle.std.proofs.lemmas.List.{take-append-le, drop-append-le}
use Rattle.storage.specs.declared.types.Kind.TheVariants.{Nor}
use Rattle.storage.specs.declared.types.Shape.{Shape}
use Rattle.storage.specs.Open.{nor_store}
use Rattle.storage.specs.Partition.{end_of}
use Rattle.storage.specs.Store.{writing}
use Rattle.storage.proofs.Fold.{false_true}
use Rattle.nand_laws.specs.Made.{failed_wide}
use Rattle.nand_laws.specs.Within.{Inside}
use Rattle.storage_laws.specs.Faults.{QuietFrom, quiet_later}
use Rattle.storage_laws.specs.View.{Shows, view}
use Rattle.storage_laws.specs.Stream.{joined}
use Rattle.storage_laws.specs.Reasons.{InOrder, nor_nand, nor_opening_lem}
use Rattle.engine.specs.declared.types.Frame.{Frame}
use Rattle.engine.specs.World.{Given, World, with_up, at_e, dev_of, Out, out_of}
use Rattle.engine.specs.Exec.{execs}
use Rattle.engine.specs.Stream.{taken, fed_by, fed, finishes, streamed_by, streams}
use Rattle.engine.specs.Frame.{ripens, heads, grown, fills, gathers}
use Rattle.engine.specs.Feed.{want_by, want_of, turns, cut_of, then_by, feeds}
use Rattle.engine.specs.Api.{fits, writes, fresh, Opening}
use Rattle.engine.proofs.Feeds.{feed_step, feed_nil, then_go, then_stop, turn_frame, turn_stream}
use Rattle.storage_laws.specs.Bounds.{either}
use Rattle.engine_laws.specs.Carry.{turns_left, feeds_left}
use Rattle.engine_laws.specs.Bounds.{nor_opening, nor_opening_is, in_bounds, write_feeds, write_fits}
use Rattle.engine_laws.specs.Split.{Steady, Still, order_steady, On, on_start, on_steady, on_closed, Cleanly, unaimed_cut, fed_cut}

-- ---- a frame's piece in two

sets_append : (xs ys v : List ℕ) (a : ℕ) → sets v a (xs ++ ys) ≡ sets (sets v a xs) (a + length xs) ys
sets_append [] ys v a = rw add-zero
sets_append (x ∷ xs) ys v a =
    let n : suc a + length xs ≡ a + suc (length xs) = omega arith in
    sets_append xs ys (set v a x) (suc a) ∙ ap (λ (k : ℕ). sets (sets (set v a x) (suc a) xs) k ys) n

grown_cut : (w : World) (p q : List ℕ) → grown w (p ++ q) ≡ grown (grown w p) q
grown_cut w p q = rw (sets_append p q w.request w.e.frame.len, length-append p q, ← add_assoc w.e.frame.len (length p) (length q))

-- a frame that is not full yet
pub fills_short : (g : Given) (w : World) → 0 < want_by 0 w.e.frame → fills g w ≡ out_of 0 w
unfolding fills ripens
fills_short g w = go (eqb w.e.frame.total 0)
  where
    go : (t : Bool) → 0 < cond t (16 - w.e.frame.len) (w.e.frame.total - w.e.frame.len)
        → cond t (cond (ltb w.e.frame.len 16) (out_of 0 w) (heads g w)) (cond (ltb w.e.frame.len w.e.frame.total) (out_of 0 w) (execs g w)) ≡ out_of 0 w
    go true h = ap (λ (t : Bool). cond t (out_of 0 w) (heads g w)) (lt-ltb w.e.frame.len 16 (omega arith))
    go false h = ap (λ (t : Bool). cond t (out_of 0 w) (execs g w)) (lt-ltb w.e.frame.len w.e.frame.total (omega arith))

abbrev pub longer : ℕ → Frame → Frame
longer m f = record { len = f.len + m; total = f.total }

pub want_less : (f : Frame) (m : ℕ) → want_by 0 (longer m f) ≡ want_by 0 f - m
want_less f m = go (eqb f.total 0)
  where
    go : (t : Bool) → cond t (16 - (f.len + m)) (f.total - (f.len + m)) ≡ cond t (16 - f.len) (f.total - f.len) - m
    go true = omega arith
    go false = omega arith

pub want_at : (left : ℕ) (f : Frame) → (left ≡ 0 → ⊥) → want_by left f ≡ left
want_at left f h = ap (λ (t : Bool). cond t (cond (eqb f.total 0) (16 - f.len) (f.total - f.len)) left) (ne_eqb left 0 h)

-- ---- a turn in two

-- a turn with p, short of what is wanted, and then one with q, are one
pub record Halves (g : Given) (p q : List ℕ) (w : World) : Type 0 where
  pub fine : (turns g p w).status ≡ 0
  pub whole : turns g (p ++ q) w ≡ turns g q (turns g p w).w
  pub wants : want_of (turns g p w).w.e ≡ want_of w.e - length p

module _ (g : Given) (p q : List ℕ) (w : World) where
  gather_turn : (d : List ℕ) (v : World) → v.e.up.left ≡ 0 → turns g d v ≡ fills g (grown v d)
  unfolding gathers
  gather_turn d v h = sym (turn_frame g d v h refl)

  -- a frame's bytes gather piece by piece, whatever else holds
  pub frame_halves : w.e.up.left ≡ 0 → length p < want_of w.e → Halves g p q w
  frame_halves h i =
      let f = w.e.frame in
      let j : want_of w.e ≡ want_by 0 f = ap (λ (l : ℕ). want_by l f) h in
      let k = want_less f (length p) in
      let s : turns g p w ≡ out_of 0 (grown w p) = gather_turn p w h ∙ fills_short g (grown w p) (omega arith) in
      record {
        fine = ap (λ (o : Out). o.status) s;
        whole = gather_turn (p ++ q) w h ∙ ap (fills g) (grown_cut w p q) ∙ sym (gather_turn q (grown w p) h) ∙ ap (λ (o : Out). turns g q o.w) (sym s);
        wants = ap (λ (o : Out). want_of o.w.e) s ∙ ap (λ (l : ℕ). want_by l (longer (length p) f)) h ∙ k ∙ ap (λ (x : ℕ). x - length p) (sym j);
      }

  stream_turn : (d : List ℕ) (v : World) → (v.e.up.left ≡ 0 → ⊥) → turns g d v ≡ streamed_by g.lent (fed g.lent d v)
  unfolding streams
  stream_turn d v h = sym (turn_stream g d v h)

  pub fed_left : (fed g.lent p w).e.up.left ≡ w.e.up.left - length p
  unfolding fed
  fed_left =
      either (λ (v : World). v.e.up.left ≡ w.e.up.left - length p) w.e.up.aimed
      (fed_by w p (writing g.lent (w.e.up.target + w.e.up.written) p (dev_of w))) (at_e (with_up (taken p (length p) w.e.up) w.e) w) refl refl

  fed_frame : (fed g.lent p w).e.frame ≡ w.e.frame
  unfolding fed
  fed_frame =
      either (λ (v : World). v.e.frame ≡ w.e.frame) w.e.up.aimed
      (fed_by w p (writing g.lent (w.e.up.target + w.e.up.written) p (dev_of w))) (at_e (with_up (taken p (length p) w.e.up) w.e) w) refl refl

  -- a turn that leaves some of a stream to come
  pub stream_short : (w.e.up.left ≡ 0 → ⊥) → length p < w.e.up.left → turns g p w ≡ out_of 0 (fed g.lent p w)
  stream_short h i =
      let v = fed g.lent p w in
      let n : v.e.up.left ≡ 0 → ⊥ = λ e. omega (arith, fed_left) in
      stream_turn p w h ∙ ap (λ (t : Bool). cond t (finishes g.lent v) (out_of 0 v)) (ne_eqb v.e.up.left 0 n)

  -- a stream's bytes do where the piece can be fed in two
  pub stream_halves : (w.e.up.left ≡ 0 → ⊥) → length p < w.e.up.left → fed g.lent (p ++ q) w ≡ fed g.lent q (fed g.lent p w) → Halves g p q w
  stream_halves h i c =
      let v = fed g.lent p w in
      let l = fed_left in
      let n : v.e.up.left ≡ 0 → ⊥ = λ e. omega arith in
      let s = stream_short h i in
      record {
        fine = ap (λ (o : Out). o.status) s;
        whole =
            stream_turn (p ++ q) w h ∙ ap (streamed_by g.lent) c ∙ sym (stream_turn q v n) ∙ ap (λ (o : Out). turns g q o.w) (sym s);
        wants =
            ap (λ (o : Out). want_of o.w.e) s ∙ want_at v.e.up.left v.e.frame n ∙ l
            ∙ ap (λ (x : ℕ). x - length p) (sym (want_at w.e.up.left w.e.frame h));
      }

-- a ends within the first piece
pub short_alone : (g : Given) (w : World) (a : List ℕ) → 0 < length a → length a < cut_of w → (turns g a w).status ≡ 0 → feeds g w a ≡ out_of 0 (turns g a w).w
short_alone g w a h i z =
    feed_step g w a h
    ∙ rw (take_all (cut_of w) a (omega arith), drop_of_length-le a {i = cut_of w} (omega arith)) (then_go g (turns g a w) _ z)
    ∙ feed_nil g (turns g a w).w

-- ---- a write in two, from what makes it hold

-- `P` holds of each world, `C` of a world and the one behind the first part
module _ (g : Given) (P : World → Type 0) (C : World → World → Type 0) (keep : (w : World) (p : List ℕ) → P w → P (turns g p w).w)
    (later : (w v : World) (p : List ℕ) → P w → C w v → C (turns g p w).w v)
    (splits : (w : World) (p q : List ℕ) → P w → length p < w.e.up.left → length p + length q ≤ w.e.up.left → C w (fed g.lent p w)
    → fed g.lent (p ++ q) w ≡ fed g.lent q (fed g.lent p w)) where
  halves : (p q : List ℕ) (w : World) → P w → length p < want_of w.e → length p + length q ≤ want_of w.e → C w (turns g p w).w → Halves g p q w
  halves p q w k i j c = go (eqb w.e.up.left 0) refl
    where
      go : (t : Bool) → eqb w.e.up.left 0 ≡ t → Halves g p q w
      go true e = frame_halves g p q w (eqb-true w.e.up.left 0 e) i
      go false e =
          let h = eqb-false w.e.up.left 0 e in
          let n = want_at w.e.up.left w.e.frame h in
          let s = stream_short g p q w h (omega arith) in
          stream_halves g p q w h (omega arith) (splits w p q k (omega arith) (omega arith) (subst (λ (o : Out). C w o.w) s c))

  -- what is shown of a: a write of a and b is a write of a, and then of b
  abbrev Joins : World → List ℕ → List ℕ → Type 0
  Joins w a b = P w → (feeds g w a).status ≡ 0 → C w (feeds g w a).w → feeds g w (a ++ b) ≡ feeds g (feeds g w a).w b

  then_fine : (o : Out) (k : World → Out) → (then_by o k).status ≡ 0 → o.status ≡ 0
  then_fine o k z = go (eqb o.status 0) refl
    where
      go : (t : Bool) → eqb o.status 0 ≡ t → o.status ≡ 0
      go true e = eqb-true o.status 0 e
      go false e = ap (λ (x : Out). x.status) (sym (then_stop g o k (eqb-false o.status 0 e))) ∙ z

  first_fine : (w : World) (a : List ℕ) → 0 < length a → (feeds g w a).status ≡ 0 → (turns g (take (cut_of w) a) w).status ≡ 0
  first_fine w a h z = then_fine _ (λ v. feeds g v (drop (cut_of w) a)) (ap (λ (x : Out). x.status) (sym (feed_step g w a h)) ∙ z)

  joins_some : (w : World) (a b : List ℕ) → 0 < length a → 0 < length b → length a < cut_of w → P w → C w (turns g a w).w
      → feeds g w (a ++ b) ≡ feeds g (turns g a w).w b
  joins_some w a b h hb i pw c =
      let v = (turns g a w).w in
      let m = cut_of w - length a in
      let t = length-take m b in
      let x = halves a (take m b) w pw (omega arith) (omega arith) c in
      let k : cut_of w ≡ length a + m = omega arith in
      let n : cut_of v ≡ m = omega (arith, x.wants) in
      feed_step g w (a ++ b) (simp length-append (omega arith))
      ∙ rw (k, take-append-add a b m, drop-append-add a b m, x.whole, ← n) (sym (feed_step g v b hb))

  joins_short : (w : World) (a b : List ℕ) → 0 < length a → length a < cut_of w → Joins w a b
  joins_short w a b h i pw z c =
      let y : (turns g a w).status ≡ 0 = rw (take_all (cut_of w) a (omega arith)) at (first_fine w a h z) in
      let e = short_alone g w a h i y in
      rw e (go b (rw e at c) y)
    where
      go : (b : List ℕ) → C w (turns g a w).w → (turns g a w).status ≡ 0 → feeds g w (a ++ b) ≡ feeds g (turns g a w).w b
      go [] k y = rw (append-nil a, feed_nil g (turns g a w).w) (short_alone g w a h i y)
      go (x ∷ xs) k y = joins_some w a (x ∷ xs) h (omega arith) i pw k

  joins_long : (w : World) (a b : List ℕ) → cut_of w ≤ length a → ((v : World) → Joins v (drop (cut_of w) a) b) → Joins w a b
  joins_long w a b h r pw z c =
      let p = take (cut_of w) a in
      let o = turns g p w in
      let y = first_fine w a (omega arith) z in
      let e : feeds g w a ≡ feeds g o.w (drop (cut_of w) a) = feed_step g w a (omega arith) ∙ then_go g o _ y in
      let c' : C w (feeds g o.w (drop (cut_of w) a)).w = rw e at c in
      feed_step g w (a ++ b) (simp length-append (omega arith))
      ∙ rw (take-append-le (cut_of w) a b h, drop-append-le (cut_of w) a b h, e) (then_go g o _ y ∙ r o.w (keep w p pw) (rw e at z) (later w _ p pw c'))

  joins_at : (n : ℕ) (w : World) (a b : List ℕ) → ((v : World) (d : List ℕ) → length d ≤ n → Joins v d b) → 0 < length a → length a ≤ suc n → Joins w a b
  joins_at n w a b r h i = go (ltb (length a) (cut_of w)) refl
    where
      go : (t : Bool) → ltb (length a) (cut_of w) ≡ t → Joins w a b
      go true e = joins_short w a b h (ltb-true (length a) (cut_of w) e)
      go false e = let j = ltb-false (length a) (cut_of w) e in joins_long w a b j (λ v. r v (drop (cut_of w) a) (simp length-drop (omega arith)))

  joins_nil : (w : World) (b : List ℕ) → Joins w [] b
  joins_nil w b pw z c = rw (feed_nil g w)

  none_left : (w : World) (a b : List ℕ) → length a ≤ 0 → Joins w a b
  none_left w [] b h = joins_nil w b
  none_left w (x ∷ xs) b h = absurd (omega arith)

  some_left : (n : ℕ) (w : World) (a b : List ℕ) → ((v : World) (d : List ℕ) → length d ≤ n → Joins v d b) → length a ≤ suc n → Joins w a b
  some_left n w [] b r h = joins_nil w b
  some_left n w (x ∷ xs) b r h = joins_at n w (x ∷ xs) b r (omega arith) h

  joins : (n : ℕ) (w : World) (a b : List ℕ) → length a ≤ n → Joins w a b
  joins zero w a b h = none_left w a b h
  joins (suc n) w a b h = some_left n w a b (λ v d. joins n v d b) h

  -- any cut of the bytes, under a condition that turns keep and that lets a stream's piece be fed in two
  pub cut_by : (w : World) (a b : List ℕ) → P w → (feeds g w a).status ≡ 0 → C w (feeds g w a).w → feeds g w (a ++ b) ≡ feeds g (feeds g w a).w b
  cut_by w a b = joins (length a) w a b (le_refl _)

-- ---- the law

module _ (g : Given) where
  -- behind the first part no stream is open, or one with no target
  abbrev pub Unaimed : World → Type 0
  Unaimed v = (v.e.up.left ≡ 0 → ⊥) → v.e.up.aimed ≡ false

  fed_aim : (p : List ℕ) (w : World) → (fed g.lent p w).e.up.aimed ≡ w.e.up.aimed
  unfolding fed
  fed_aim p w =
      either (λ (v : World). v.e.up.aimed ≡ w.e.up.aimed) w.e.up.aimed
      (fed_by w p (writing g.lent (w.e.up.target + w.e.up.written) p (dev_of w))) (at_e (with_up (taken p (length p) w.e.up) w.e) w) refl refl

  -- with no open stream behind the first part, or one with no target, the law asks nothing of the storage
  pub cut_unaimed : (w : World) (a b : List ℕ) → (feeds g w a).status ≡ 0 → Unaimed (feeds g w a).w → feeds g w (a ++ b) ≡ feeds g (feeds g w a).w b
  cut_unaimed w a b z c =
      cut_by g (λ (v : World). Unit {0}) (λ (u v : World). Unaimed v) (λ u p k. tt) (λ u v p k h. h)
      (λ u p q k i j h. unaimed_cut g.lent u p q (sym (fed_aim p u) ∙ h (λ e. omega (arith, fed_left g p q u))))
      w a b tt z c

  -- a turn leaves a steady storage, from which nothing failed that did not fail from where it began
  turn_on : (w : World) (p : List ℕ) → Steady g.lent (dev_of w) → On g.lent (dev_of w) (dev_of (turns g p w).w)
  turn_on w p s = (turns_left g (On g.lent (dev_of w)) (on_closed g.lent (dev_of w)) p w).stays.store (on_start g.lent (dev_of w) s)

  cleanly_later : (w v : World) (p : List ℕ) → Steady g.lent (dev_of w) → Cleanly g.lent w v → Cleanly g.lent (turns g p w).w v
  cleanly_later w v p s c x y =
      let k = c x y in
      let o = turn_on w p s in
      record {
        low = k.low;
        high = λ m. k.high (ap (λ (h : Shape). h.kind) (sym o.shape) ∙ m);
        unmet = λ m f. let n = ap (λ (h : Shape). h.kind) (sym o.shape) ∙ m in k.unmet n (failed_wide (o.calls n) (le_refl _) f);
        full = λ m. k.full (ap (λ (h : Shape). h.kind) (sym o.shape) ∙ m);
      }

  -- the cut law, of either kind of storage: the write of a has status 0, and an open stream with a target that it leaves is clean
  pub cut : (w : World) (a b : List ℕ) → Steady g.lent (dev_of w) → (feeds g w a).status ≡ 0 → Cleanly g.lent w (feeds g w a).w
      → feeds g w (a ++ b) ≡ feeds g (feeds g w a).w b
  cut =
      cut_by g (λ (v : World). Steady g.lent (dev_of v)) (Cleanly g.lent) (λ w p s. on_steady g.lent (dev_of w) (dev_of (turns g p w).w) (turn_on w p s))
      cleanly_later (λ w p q s i j c. fed_cut g.lent w p q s i j c)

  -- ---- a NOR with no call told to fail

  -- what is asked of a world's storage
  abbrev pub Quiet : World → Type 0
  Quiet w = Still g.lent (dev_of w)

  -- as one in order is
  pub order_quiet : (w : World) → InOrder g.lent (dev_of w) → w.e.store.shape.kind ≡ Nor → QuietFrom g.lent.faults w.e.store.calls → Quiet w
  order_quiet w o k q = record { kind = k; taken = o.taken; shows = (order_steady g.lent (dev_of w) o).shows k; quiet = q }

  -- and as an opening gives it, with no call told to fail
  pub opening_quiet : (w : World) (base stage device : ℕ) → (nor_opening g w base stage device).number ≡ 0 → QuietFrom g.lent.faults 0
      → Quiet (at_e (nor_opening g w base stage device).e w)
  opening_quiet w base stage device e q =
      let s = nor_store (length w.chip) (end_of g.lists) stage device in
      let i = nor_opening_is g w base stage device e in
      let o = nor_opening_lem g.lent w.chip w.buffer g.lists base (length w.scratch) stage device s i.1 in
      subst (λ (x : Opening). Quiet (at_e x.e w)) (sym i.0) (order_quiet (at_e (fresh base s) w) o refl q)

  pub quiet_steady : (w : World) → Quiet w → Steady g.lent (dev_of w)
  quiet_steady w q = record { taken = q.taken; shows = λ _. q.shows }

  -- the rest of an open stream with a target lies within chip and capacity
  abbrev pub Room : World → Type 0
  Room v = (v.e.up.left ≡ 0 → ⊥) → v.e.up.aimed ≡ true → Inside (dev_of v) (v.e.up.target + v.e.up.written) v.e.up.left

  quiet_clean : (w v : World) → Quiet w → Room v → Cleanly g.lent w v
  quiet_clean w v q r x y =
      let i = r x y in
      record {
        low = i.low;
        high = λ _. i.short;
        unmet = λ _ f. false_true (sym (q.quiet f.number f.after) ∙ f.fails);
        full = λ k. nor_nand q.kind k;
      }

  -- the cut law of such a NOR, where the stream that the first part leaves open, if any, has room
  pub cut_quiet : (w : World) (a b : List ℕ) → Quiet w → (feeds g w a).status ≡ 0 → Room (feeds g w a).w → feeds g w (a ++ b) ≡ feeds g (feeds g w a).w b
  cut_quiet w a b q z r = cut w a b (quiet_steady w q) z (quiet_clean w (feeds g w a).w q r)

  -- storage calls leave such a NOR
  pub quiet_on : (w v : World) → Quiet w → On g.lent (dev_of w) (dev_of v) → Quiet v
  quiet_on w v q o =
      record {
        kind = ap (λ (h : Shape). h.kind) o.shape ∙ q.kind;
        taken = o.taken;
        shows = subst (λ (h : Shape). Shows (view (dev_of v)) h (dev_of v)) (sym o.shape) (o.shows q.kind);
        quiet = quiet_later g.lent.faults w.e.store.calls v.e.store.calls (o.calls q.kind) q.quiet;
      }

  -- and so does a write
  pub quiet_feeds : (w : World) (a : List ℕ) → Quiet w → Quiet (feeds g w a).w
  quiet_feeds w a q =
      let l = g.lent in
      let d = dev_of w in
      quiet_on w (feeds g w a).w q ((feeds_left g (On l d) (on_closed l d) w a).stays.store (on_start l d (quiet_steady w q)))

  -- ---- many cuts

  -- what writes of the pieces leave
  unfoldable pub fed_all : World → List (List ℕ) → World
  fed_all w [] = w
  fed_all w (p ∷ ps) = fed_all (feeds g w p).w ps

  -- every piece has status 0, and leaves an open stream clean
  abbrev pub Cuts : World → List (List ℕ) → Type 0
  Cuts w [] = Unit {0}
  Cuts w (p ∷ ps) = ((feeds g w p).status ≡ 0) × Cleanly g.lent w (feeds g w p).w × Cuts (feeds g w p).w ps

  steady_feeds : (w : World) (a : List ℕ) → Steady g.lent (dev_of w) → Steady g.lent (dev_of (feeds g w a).w)
  steady_feeds w a s =
      let l = g.lent in
      let d = dev_of w in
      on_steady l d (dev_of (feeds g w a).w) ((feeds_left g (On l d) (on_closed l d) w a).stays.store (on_start l d s))

  -- any number of cuts: one write of all the pieces and b is a write of each, and then of b
  pub cuts : (ps : List (List ℕ)) (w : World) (b : List ℕ) → Steady g.lent (dev_of w) → Cuts w ps → feeds g w (joined ps ++ b) ≡ feeds g (fed_all w ps) b
  unfolding fed_all
  cuts [] w b s c = refl
  cuts (p ∷ ps) w b s c =
      ap (feeds g w) (append_assoc p (joined ps) b) ∙ cut w p (joined ps ++ b) s c.0 c.1 ∙ cuts ps (feeds g w p).w b (steady_feeds w p s) c.2

  -- ---- within a stream

  -- a part of what is left of a stream is one turn
  pub within_is : (w : World) (a : List ℕ) → 0 < length a → length a < w.e.up.left → feeds g w a ≡ out_of 0 (fed g.lent a w)
  within_is w a h i =
      let n : w.e.up.left ≡ 0 → ⊥ = λ e. omega arith in
      let s = stream_short g a [] w n i in
      let k = want_at w.e.up.left w.e.frame n in
      short_alone g w a h (omega arith) (ap (λ (o : Out). o.status) s) ∙ ap (λ (o : Out). out_of 0 o.w) s

  -- a NOR as above with a stream open, that has room
  pub record Streaming (w : World) : Type 0 where
    pub quiet : Quiet w
    pub going : w.e.up.left ≡ 0 → ⊥
    pub room : w.e.up.aimed ≡ true → Inside (dev_of w) (w.e.up.target + w.e.up.written) w.e.up.left

  -- what is left, where the stream goes, and how long it is all in all
  pub record Fed (n : ℕ) (w v : World) : Type 0 where
    pub left : v.e.up.left ≡ w.e.up.left - n
    pub aimed : v.e.up.aimed ≡ w.e.up.aimed
    pub target : v.e.up.target ≡ w.e.up.target
    pub written : v.e.up.written ≡ w.e.up.written + n

  fed_is : (p : List ℕ) (w : World) → Fed (length p) w (fed g.lent p w)
  unfolding fed
  fed_is p w =
      either (Fed (length p) w) w.e.up.aimed (fed_by w p (writing g.lent (w.e.up.target + w.e.up.written) p (dev_of w)))
      (at_e (with_up (taken p (length p) w.e.up) w.e) w) (record { left = refl; aimed = refl; target = refl; written = refl })
      (record { left = refl; aimed = refl; target = refl; written = refl })

  -- a write of some of it has status 0, and counts as many bytes
  pub within_told : (w : World) (a : List ℕ) → length a < w.e.up.left → ((feeds g w a).status ≡ 0) × Fed (length a) w (feeds g w a).w
  within_told w [] i = rw (feed_nil g w) (refl, record { left = omega arith; aimed = refl; target = refl; written = omega arith })
  within_told w (x ∷ xs) i = rw (within_is w (x ∷ xs) (omega arith) i) (refl, fed_is (x ∷ xs) w)

  -- and leaves the stream open, with room
  pub within_stays : (w : World) (a : List ℕ) → Streaming w → length a < w.e.up.left → Streaming (feeds g w a).w
  within_stays w a s i =
      let v = (feeds g w a).w in
      let f = (within_told w a i).1 in
      let l = g.lent in
      let d = dev_of w in
      let o = (feeds_left g (On l d) (on_closed l d) w a).stays.store (on_start l d (quiet_steady w s.quiet)) in
      let c : v.e.store.shape.capacity ≡ w.e.store.shape.capacity = ap (λ (h : Shape). h.capacity) o.shape in
      let n : length v.chip ≡ length w.chip = o.chip in
      let ft : v.e.up.target ≡ w.e.up.target = f.target in
      let fw : v.e.up.written ≡ w.e.up.written + length a = f.written in
      let fl : v.e.up.left ≡ w.e.up.left - length a = f.left in
      record {
        quiet = quiet_feeds w a s.quiet;
        going = λ z. omega arith;
        room = λ t.
            let r = s.room (sym f.aimed ∙ t) in
            let r0 : w.e.up.target + w.e.up.written + w.e.up.left ≤ w.e.store.shape.capacity = r.low in
            let r1 : w.e.up.target + w.e.up.written + w.e.up.left ≤ length w.chip = r.short in
            record { low = omega arith; short = omega arith };
      }

  -- a cut within a stream, by the state before it
  pub cut_within : (w : World) (a b : List ℕ) → Streaming w → length a < w.e.up.left → feeds g w (a ++ b) ≡ feeds g (feeds g w a).w b
  cut_within w a b s i = cut_quiet w a b s.quiet (within_told w a i).0 (λ n t. (within_stays w a s i).room t)

  -- any number of cuts within a stream
  pub cuts_within : (ps : List (List ℕ)) (w : World) (b : List ℕ) → Streaming w → length (joined ps) < w.e.up.left → feeds g w (joined ps ++ b) ≡ feeds g (fed_all w ps) b
  unfolding fed_all
  cuts_within [] w b s i = refl
  cuts_within (p ∷ ps) w b s i =
      let n = length-append p (joined ps) in
      let h : length p < w.e.up.left = omega arith in
      let f = (within_told w p h).1.left in
      ap (feeds g w) (append_assoc p (joined ps) b) ∙ cut_within w p (joined ps ++ b) s h
      ∙ cuts_within ps (feeds g w p).w b (within_stays w p s h) (omega arith)

  -- ---- the public call

  module _ (w : World) (f : fits g w ≡ true) (a b : List ℕ) where
    -- a write in two is the pieces in two
    both_writes : feeds g w (a ++ b) ≡ feeds g (feeds g w a).w b → writes g w (a ++ b) ≡ writes g (writes g w a).w b
    both_writes e =
        write_feeds g w f (a ++ b) ∙ e ∙ ap (λ (o : Out). feeds g o.w b) (sym (write_feeds g w f a)) ∙ sym (write_feeds g (writes g w a).w (write_fits g w f a) b)

    -- the cut law of the call, from an engine in bounds
    pub write_cut : (w.e.store.shape.kind ≡ Nor → Shows (view (dev_of w)) w.e.store.shape (dev_of w)) → (writes g w a).status ≡ 0
        → Cleanly g.lent w (writes g w a).w → writes g w (a ++ b) ≡ writes g (writes g w a).w b
    write_cut s z c =
        let e = write_feeds g w f a in
        both_writes (cut w a b (record { taken = (in_bounds g w f).store; shows = s }) (rw e at z) (rw e at c))

    -- where the first part leaves no stream open, or one with no target, nothing more is asked
    pub write_cut_unaimed : (writes g w a).status ≡ 0 → Unaimed (writes g w a).w → writes g w (a ++ b) ≡ writes g (writes g w a).w b
    write_cut_unaimed z c = let e = write_feeds g w f a in both_writes (cut_unaimed w a b (rw e at z) (rw e at c))

    -- of a NOR with no call told to fail, where the stream that the first part leaves open, if any, has room
    pub write_cut_quiet : Quiet w → (writes g w a).status ≡ 0 → Room (writes g w a).w → writes g w (a ++ b) ≡ writes g (writes g w a).w b
    write_cut_quiet q z r = let e = write_feeds g w f a in both_writes (cut_quiet w a b q (rw e at z) (rw e at r))

    -- within a stream of such a NOR
    pub write_cut_within : Streaming w → length a < w.e.up.left → writes g w (a ++ b) ≡ writes g (writes g w a).w b
    write_cut_within s i = both_writes (cut_within w a b s i)
