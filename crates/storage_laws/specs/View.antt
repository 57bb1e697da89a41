-- What a NOR store shows: its chip with the held sector's buffer over it. A flush makes the chip the view, and a write of bytes within
-- the chip sets those bytes in the view and no others; where one does not, it has itself met a chip call that was told to fail. So
-- with no call told to fail from its first on, each succeeds, whatever was told of the calls before.
use Rattle.std.specs.Prelude.{◌≡◌, Bool, cond, ◌⊎◌, eqb, drop, set}
use Rattle.std.proofs.Math.Path.{refl, sym, ap, subst}
use Rattle.std.proofs.Common.{◌∙◌, le_refl, add-one, eqb-true, length-take-le, take_at}
use Rattle.std.proofs.Math.Bool.{true, false}
use mathlib.Core.List.{List, [], ◌∷◌, ◌++◌}
use Rattle.std.proofs.Math.Logic.{inl, inr, ⊎_elim}
use Prim.Native.Nat.{ℕ, suc, ◌+◌, ◌%◌, ◌≤◌, ◌<◌}
use Rattle.std.proofs.Math.Nat.{add-zero}
use native.Mathlib.Omega.{arith}
use Rattle.std.proofs.Math.ListN.{length, take, length-drop, length-append, length-set}
use Rattle.std.proofs.lemmas.List.Edits.{sets}
use Rattle.storage.specs.declared.types.Shape.{Shape}
use Rattle.storage.specs.declared.types.Store.{Store}
use Rattle.storage.specs.World.{Dev, dev, Out, out}
use Rattle.storage.specs.Chip.{failing, next_call, called, over}
use Rattle.storage.specs.Fold.{Run, run, base, seals, step, writes}
use Rattle.storage.specs.Nor.{blank, holding, holds, flushes, loads, closes}
use Rattle.storage.proofs.Chips.{fetch_fails}
use Rattle.storage.proofs.Over.{over_same, over_set}
use Rattle.storage.proofs.Programs.{fetched_well}
use Rattle.storage.proofs.Sectors.{erase_fails, write_fails, erase_well, rewritten}
use Rattle.storage.proofs.Fold.{false_true, stopped, loaded_step, piece_unloaded}
use Rattle.storage.proofs.Nors.{flush_free, flush_unerased, flush_unwritten, flush_done, load_held, load_unflushed, load_unread, load_done}
use Rattle.nand_laws.specs.Made.{Failed}
use Rattle.storage_laws.specs.Counted.{made_on, flushes_made, writes_made}
use Rattle.storage_laws.specs.Faults.{QuietFrom, unmet, Stopped, stopped_wide, stop, able_told, asked}
use Rattle.std.specs.Prelude.{Option}

abbrev pub store : Shape → Bool → ℕ → Option ℕ → ℕ → Store
store sh h a r n = record { shape = sh; held = h; at = a; erased = r; calls = n }

unfoldable pub view : Dev → List ℕ
view d = cond d.store.held (over d.store.at (take 4096 d.buf) d.chip) d.chip

-- the state is one that an opening and its calls can leave, and it shows v
pub record Shows (v : List ℕ) (sh : Shape) (d : Dev) : Type 0 where
  pub room : 4096 ≤ length d.buf
  pub whole : length d.chip % 4096 ≡ 0
  pub on : d.store.held ≡ true → (d.store.at % 4096 ≡ 0) × (d.store.at + 4096 ≤ length d.chip)
  pub long : length d.chip ≡ length v
  pub fixed : d.store.shape ≡ sh
  pub is : view d ≡ v
  pub calls : d.store.calls ≤ 18446744073709551615

free_go : (h : Bool) (sh : Shape) (a : ℕ) (r : Option ℕ) (n : ℕ) (chip buf : List ℕ) → h ≡ false → 4096 ≤ length buf → length chip % 4096 ≡ 0 → n ≤ 18446744073709551615
    → Shows chip sh (dev (store sh h a r n) chip buf)
unfolding view
free_go true sh a r n chip buf e m w c = false_true (sym e)
free_go false sh a r n chip buf e m w c = record { room = m; whole = w; on = λ t. false_true t; long = refl; fixed = refl; is = refl; calls = c }

-- a store that holds nothing shows its chip
pub free_shows : (d : Dev) → d.store.held ≡ false → 4096 ≤ length d.buf → length d.chip % 4096 ≡ 0 → d.store.calls ≤ 18446744073709551615
    → Shows d.chip d.store.shape d
free_shows d = free_go d.store.held d.store.shape d.store.at d.store.erased d.store.calls d.chip d.buf

-- a chip call that changes no byte shows the same
pub called_shows : (v : List ℕ) (sh : Shape) (d : Dev) → Shows v sh d → Shows v sh (dev (called d.store) d.chip d.buf)
unfolding view
called_shows v sh d s = record { room = s.room; whole = s.whole; on = s.on; long = s.long; fixed = s.fixed; is = s.is; calls = omega arith }

holds_true : (h : Bool) (sh : Shape) (a : ℕ) (r : Option ℕ) (n k : ℕ) → holds (store sh h a r n) k ≡ true → (h ≡ true) × (a ≡ k)
unfolding holds
holds_true true sh a r n k e = (refl, eqb-true a k e)
holds_true false sh a r n k e = false_true e

module _ (F : List ℕ) where
  -- ---- flush

  -- the flush succeeded, made the chip the view, and holds nothing
  abbrev pub Flushed : List ℕ → Shape → Dev → Type 0
  Flushed v sh d = (e : Dev) × (flushes F d ≡ out true e) × (e.chip ≡ v) × (e.store.held ≡ false) × Shows v sh e

  -- neither the erase nor the write of the held sector is told to fail
  flush_held : (v : List ℕ) (sh : Shape) (a : ℕ) (c : Shape) (r : Option ℕ) (n : ℕ) (chip buf : List ℕ) → Shows v sh (dev (store c true a r n) chip buf) → failing F n ≡ false
      → failing F (next_call n) ≡ false → Flushed v sh (dev (store c true a r n) chip buf)
  unfolding view
  flush_held v sh a c r n chip buf s f g =
      let l : length (over a (take 4096 buf) chip) ≡ length v = ap length s.is in
      let m : length v % 4096 ≡ 0 = rw s.long at s.whole in
      let w = rewritten F a (store c true a r n) chip buf (s.on refl).1 f (take 4096 buf) g (length-take-le 4096 buf s.room) in (
        dev (store c false a r (next_call (next_call n))) (over a (take 4096 buf) chip) buf,
        sym (flush_done F (dev (store c true a r n) chip buf) refl (sym w.1) refl (sym w.2) refl),
        s.is,
        refl,
        record { room = s.room; whole = rw l m; on = λ e. false_true e; long = l; fixed = s.fixed; is = s.is; calls = omega arith },
      )

  flush_go : (v : List ℕ) (sh : Shape) (h : Bool) (c : Shape) (a : ℕ) (r : Option ℕ) (n : ℕ) (chip buf : List ℕ) → Shows v sh (dev (store c h a r n) chip buf)
      → (let d = dev (store c h a r n) chip buf in Flushed v sh d ⊎ Stopped F d (flushes F d).ok (flushes F d).dev)
  unfolding view
  flush_go v sh true c a r n chip buf s =
      let t = store c true a r n in
      let d = dev t chip buf in
      let xs = take 4096 buf in
      ⊎_elim
      (λ f. let e = sym (erase_well F a t chip buf (s.on refl).1 f) in
      ⊎_elim (λ g. inl (flush_held v sh a c r n chip buf s f g))
      (λ g. inr (stop (called t) (omega (arith, s.calls)) g
      (flush_unwritten F d refl e refl (write_fails F (called t) (over a blank chip) a buf refl xs (able_told F (called t) (over a blank chip) a (length xs) g)) refl)))
      (asked F (next_call n)))
      (λ f. inr (stop t (le_refl n) f (flush_unerased F d refl (erase_fails F t chip a buf refl (able_told F t chip a 4096 f)) refl)))
      (asked F n)
  flush_go v sh false c a r n chip buf s =
      inl (dev (store c false a r n) chip buf, sym (flush_free F (dev (store c false a r n) chip buf) refl), s.is, refl, s)

  -- a flush succeeds, makes the chip the view and holds nothing, or it fails and one of its chip calls was told to fail
  pub flush_goes : (v : List ℕ) (sh : Shape) (d : Dev) → Shows v sh d → Flushed v sh d ⊎ Stopped F d (flushes F d).ok (flushes F d).dev
  flush_goes v sh d s = flush_go v sh d.store.held d.store.shape d.store.at d.store.erased d.store.calls d.chip d.buf s

  -- so a flush that does not has met a chip call that was told to fail
  pub flush_or_failed : (v : List ℕ) (sh : Shape) (d : Dev) → Shows v sh d → Flushed v sh d ⊎ Failed F d (flushes F d).dev
  flush_or_failed v sh d s = ⊎_elim inl (λ x. inr x.met) (flush_goes v sh d s)

  -- and it does where no call from its first on is told to fail
  pub flush_shows : (v : List ℕ) (sh : Shape) (d : Dev) → QuietFrom F d.store.calls → Shows v sh d → Flushed v sh d
  flush_shows v sh d q s = unmet q (flush_or_failed v sh d s)

  -- a flush does not set the counter back
  pub flush_on : (v : List ℕ) (sh : Shape) (d : Dev) → Shows v sh d → (w : Flushed v sh d) → d.store.calls ≤ w.0.store.calls
  flush_on v sh d s w = rw w.1 at (made_on s.calls (flushes_made F d).1).0

  -- ---- load

  -- a sector that is read shows the chip as it is
  read_in : (v : List ℕ) (sh : Shape) (a : ℕ) (r : List ℕ) (f : Dev) → Shows v sh f → f.chip ≡ v → a % 4096 ≡ 0 → a + 4096 ≤ length f.chip → r ≡ take 4096 (drop a f.chip)
      → Shows v sh (dev (holding a (called f.store)) f.chip (r ++ drop 4096 f.buf))
  unfolding view
  read_in v sh a r f s e z k q =
      let lr : length r ≡ 4096 = rw q (length-take-le 4096 (drop a f.chip) (simp length-drop (omega arith))) in
      record {
        room = simp length-append (omega arith);
        whole = s.whole;
        on = λ _. (z, k);
        long = s.long;
        fixed = s.fixed;
        is = rw (take_at r (drop 4096 f.buf) 4096 lr, q, over_same a 4096 f.chip k) e;
        calls = omega (arith, s.calls);
      }

  -- the sector of the address was brought in, and the view is as it was
  abbrev Loaded : List ℕ → Shape → ℕ → Dev → Type 0
  Loaded v sh a d = (e : Dev) × (loads F a d ≡ out true e) × (e.store.held ≡ true) × (e.store.at ≡ base 4096 a) × Shows v sh e × (d.store.calls ≤ e.store.calls)

  -- after a flush
  read_goes : (v : List ℕ) (sh : Shape) (a : ℕ) (d : Dev) → holds d.store (base 4096 a) ≡ false → a < length v → (w : Flushed v sh d) → d.store.calls ≤ w.0.store.calls
      → Loaded v sh a d ⊎ Stopped F d (loads F a d).ok (loads F a d).dev
  read_goes v sh a d h k w i =
      let f = w.0 in
      let lf : length f.chip ≡ length v = w.4.long in
      let wf : length f.chip % 4096 ≡ 0 = w.4.whole in
      let cf : f.store.calls ≤ 18446744073709551615 = w.4.calls in
      let z : base 4096 a % 4096 ≡ 0 = omega arith in
      let n : base 4096 a + 4096 ≤ length f.chip = omega arith in
      let room = take 4096 f.buf in
      let lb : length room ≡ 4096 = length-take-le 4096 f.buf w.4.room in
      let g = take (length room) (drop (base 4096 a) f.chip) in
      ⊎_elim
      (λ q. inl (
        dev (holding (base 4096 a) (called f.store)) f.chip (g ++ drop 4096 f.buf),
        sym (load_done F a d h (sym w.1) refl (sym (fetched_well F f.store f.chip q (base 4096 a) room (rw lb n))) refl),
        refl,
        refl,
        read_in v sh (base 4096 a) g f w.4 w.2 z n (rw lb),
        omega arith,
      ))
      (λ q. inr (stop f.store i q
      (load_unread F a d h (sym w.1) refl (fetch_fails F f.store f.chip (base 4096 a) room refl (able_told F f.store f.chip (base 4096 a) (length room) q)) refl)))
      (asked F f.store.calls)

  load_go : (v : List ℕ) (sh : Shape) (a : ℕ) (d : Dev) (b : Bool) → holds d.store (base 4096 a) ≡ b → Shows v sh d → a < length v
      → Loaded v sh a d ⊎ Stopped F d (loads F a d).ok (loads F a d).dev
  load_go v sh a d true h s k =
      let t = holds_true d.store.held d.store.shape d.store.at d.store.erased d.store.calls (base 4096 a) h in
      inl (d, sym (load_held F a d h), t.0, t.1, s, le_refl _)
  load_go v sh a d false h s k =
      ⊎_elim (λ w. read_goes v sh a d h k w (flush_on v sh d s w))
      (λ x. inr (subst (λ (o : Out). Stopped F d o.ok o.dev) (load_unflushed F a d h refl x.fails) x))
      (flush_goes v sh d s)

  -- ---- write

  -- a byte set in the held sector's buffer is set in the view
  set_shows : (v : List ℕ) (sh : Shape) (a x : ℕ) (c : Shape) (h : Bool) (p : ℕ) (r : Option ℕ) (n : ℕ) (chip buf : List ℕ) → h ≡ true → p ≡ base 4096 a
      → Shows v sh (dev (store c h p r n) chip buf) → Shows (set v a x) sh (dev (store c h p r n) chip (set buf (a % 4096) x))
  unfolding view
  set_shows v sh a x c true p r n chip buf t q s =
      let m : p + a % 4096 ≡ a = omega arith in
      let i : a % 4096 < 4096 = omega arith in
      let k : p ≤ length chip = omega (arith, (s.on refl).1) in
      record {
        room = simp length-set s.room;
        whole = s.whole;
        on = s.on;
        long = simp length-set s.long;
        fixed = s.fixed;
        is = over_set p 4096 (a % 4096) x buf chip i s.room k ∙ rw (s.is, m);
        calls = s.calls;
      }
  set_shows v sh a x c false p r n chip buf t q s = false_true t

  close_go : (v : List ℕ) (sh : Shape) (a : ℕ) (d : Dev) (b : Bool) → eqb (a % 4096) 0 ≡ b → Shows v sh d
      → (let r = seals 4096 (loads F) (closes F) a d in ((e : Dev) × (r ≡ run true a e) × Shows v sh e) ⊎ Stopped F d r.ok r.dev)
  unfolding seals closes
  close_go v sh a d true q s = rw q (⊎_elim (λ w. inl (w.0, rw w.1, w.4)) inr (flush_goes v sh d s))
  close_go v sh a d false q s = inl (d, rw q, s)

  -- the byte was set in the view
  abbrev Stepped : List ℕ → Shape → ℕ → ℕ → Dev → Type 0
  Stepped v sh a x d = (e : Dev) × (step 4096 (loads F) (closes F) (run true a d) x ≡ run true (a + 1) e) × Shows (set v a x) sh e

  -- after the load
  set_goes : (v : List ℕ) (sh : Shape) (a x : ℕ) (d : Dev) → Loaded v sh a d
      → (let r = step 4096 (loads F) (closes F) (run true a d) x in Stepped v sh a x d ⊎ Stopped F d r.ok r.dev)
  set_goes v sh a x d l =
      let e = l.0 in
      let m = dev e.store e.chip (set e.buf (a % 4096) x) in
      let sm : Shows (set v a x) sh m = set_shows v sh a x e.store.shape e.store.held e.store.at e.store.erased e.store.calls e.chip e.buf l.2 l.3 l.4 in
      let q = loaded_step 4096 (loads F) (closes F) a d (sym l.1) x refl in
      ⊎_elim (λ w. inl (w.0, q ∙ w.1, w.2))
      (λ y. inr (subst (λ (r : Run). Stopped F d r.ok r.dev) (sym q) (stopped_wide l.5 y)))
      (close_go (set v a x) sh (a + 1) m (eqb ((a + 1) % 4096) 0) refl sm)

  step_goes : (v : List ℕ) (sh : Shape) (a x : ℕ) (d : Dev) → Shows v sh d → a < length v
      → (let r = step 4096 (loads F) (closes F) (run true a d) x in Stepped v sh a x d ⊎ Stopped F d r.ok r.dev)
  unfolding writes
  step_goes v sh a x d s k =
      ⊎_elim (λ l. set_goes v sh a x d l)
      (λ y. inr (subst (λ (r : Run). Stopped F d r.ok r.dev) (piece_unloaded 4096 (loads F) (closes F) a d refl (x ∷ []) (omega arith) y.fails) (record { fails = refl; met = y.met })))
      (load_go v sh a d (holds d.store (base 4096 a)) refl s k)

  -- a step does not set the counter back
  step_on : (v : List ℕ) (sh : Shape) (a x : ℕ) (d : Dev) → Shows v sh d → (w : Stepped v sh a x d) → d.store.calls ≤ w.0.store.calls
  unfolding writes
  step_on v sh a x d s w = rw w.1 at (made_on s.calls (writes_made F (x ∷ []) a d).1).0

  -- the write succeeded, and set its bytes in the view
  abbrev pub Wrote : List ℕ → List ℕ → Shape → ℕ → Dev → Type 0
  Wrote xs v sh a d = (e : Dev) × (writes 4096 (loads F) (closes F) xs (run true a d) ≡ run true (a + length xs) e) × Shows (sets v a xs) sh e

  set_more : (x : ℕ) (xs v : List ℕ) (sh : Shape) (a : ℕ) (d : Dev) (w : Stepped v sh a x d) → Wrote xs (set v a x) sh (a + 1) w.0 → Wrote (x ∷ xs) v sh a d
  unfolding writes
  set_more x xs v sh a d w r =
      let n : a + 1 + length xs ≡ a + suc (length xs) = omega arith in (
        r.0,
        ap (λ (o : Run). writes 4096 (loads F) (closes F) xs o) w.1 ∙ r.1 ∙ ap (λ (j : ℕ). run true j r.0) n,
        subst (λ (j : ℕ). Shows (sets (set v a x) j xs) sh r.0) (add-one a) r.2,
      )

  -- after a step that failed nothing happens
  stays : (xs : List ℕ) (d : Dev) (b : Bool) (a : ℕ) (e : Dev) → Stopped F d b e
      → (let r = writes 4096 (loads F) (closes F) xs (run b a e) in Stopped F d r.ok r.dev)
  stays xs d true a e x = false_true (sym x.fails)
  stays xs d false a e x = rw (stopped 4096 (loads F) (closes F) xs a e) x

  writes_go : (xs v : List ℕ) (sh : Shape) (a : ℕ) (d : Dev) → Shows v sh d → a + length xs ≤ length v
      → (let r = writes 4096 (loads F) (closes F) xs (run true a d) in Wrote xs v sh a d ⊎ Stopped F d r.ok r.dev)
  unfolding writes
  writes_go [] v sh a d s k = inl (d, rw add-zero, s)
  writes_go (x ∷ xs) v sh a d s k =
      let r = step 4096 (loads F) (closes F) (run true a d) x in
      let b : a + 1 + length xs ≤ length (set v a x) = simp length-set (omega arith) in
      ⊎_elim
      (λ w. ⊎_elim (λ m. inl (set_more x xs v sh a d w m))
      (λ y. inr (subst (λ (o : Run). let r = writes 4096 (loads F) (closes F) xs o in Stopped F d r.ok r.dev) (sym w.1) (stopped_wide (step_on v sh a x d s w) y)))
      (writes_go xs (set v a x) sh (a + 1) w.0 w.2 b))
      (λ y. inr (stays xs d r.ok r.at r.dev y))
      (step_goes v sh a x d s (omega arith))

  -- a write within the chip succeeds and sets its bytes in the view, or one of its chip calls was told to fail
  pub writes_or_failed : (xs v : List ℕ) (sh : Shape) (a : ℕ) (d : Dev) → Shows v sh d → a + length xs ≤ length v
      → Wrote xs v sh a d ⊎ Failed F d (writes 4096 (loads F) (closes F) xs (run true a d)).dev
  writes_or_failed xs v sh a d s k = ⊎_elim inl (λ x. inr x.met) (writes_go xs v sh a d s k)

  -- so it does where no call from its first on is told to fail
  pub writes_show : (xs v : List ℕ) (sh : Shape) (a : ℕ) (d : Dev) → QuietFrom F d.store.calls → Shows v sh d → a + length xs ≤ length v → Wrote xs v sh a d
  writes_show xs v sh a d q s k = unmet q (writes_or_failed xs v sh a d s k)
