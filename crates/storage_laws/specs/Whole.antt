-- Within chip and capacity a NOR read gives what the store shows, and an erase leaves every touched sector blank; one that fails or
-- comes up short has itself met a chip call that was told to fail, and with no call told to fail from its first on neither does.
-- Flush and write are in View and Stream. With them, a NOR call fails or comes up short only by a chip's error, the capacity or the
-- chip's end. And what an erase of size 0 does (01, 'Chips and buffering').
use Rattle.std.specs.Prelude.{◌≡◌, false, cond, ◌⊎◌, leb, take, drop}
use Rattle.std.proofs.Math.Path.{refl, ap}
use Rattle.std.proofs.Common.{sym, ap₂, subst, ◌∙◌, le_refl, length-take-le}
use Rattle.std.proofs.Math.Bool.{true}
use mathlib.Core.List.{List, ◌++◌}
use Rattle.std.proofs.Math.Logic.{inl, inr, ⊎_elim}
use Prim.Native.Nat.{ℕ, zero, suc, ◌+◌, ◌-◌, ◌*◌, ◌%◌, ◌≤◌, min}
use native.Mathlib.Omega.{arith}
use Rattle.std.proofs.Math.ListN.{length, replicate}
use Rattle.std.proofs.lemmas.List.{length-replicate}
use Rattle.storage.specs.declared.types.Shape.{Shape}
use Rattle.storage.specs.declared.types.Store.{Store}
use Rattle.storage.specs.World.{Dev, dev, Out, out, and_then, told, Seen, seen}
use Rattle.storage.specs.Chip.{called, over}
use Rattle.storage.specs.Fold.{base}
use Rattle.storage.specs.Nor.{blank, erase_sector, flushes, erase_n, pages_of, sat_add, erased, read_out}
use Rattle.storage.proofs.Chips.{fetch_fails}
use Rattle.storage.proofs.Over.{length_over, over_nil, over_append}
use Rattle.storage.proofs.Programs.{fetched_well}
use Rattle.storage.proofs.Sectors.{length_blank, blank_more, erase_fails, erase_well}
use Rattle.storage.proofs.Nors.{read_unflushed, read_none, read_told, erased_unflushed, erased_told}
use Rattle.nand_laws.specs.Made.{Failed}
use Rattle.storage_laws.specs.Faults.{QuietFrom, unmet, Stopped, stopped_wide, meets, stop, able_told, asked}
use Rattle.storage_laws.specs.View.{Shows, free_shows, called_shows, Flushed, flush_goes, flush_on}

-- v with every sector blank that a range touches
abbrev pub wiped : ℕ → ℕ → List ℕ → List ℕ
wiped start size v = let b = base 4096 start in over b (replicate (pages_of 4096 (sat_add start size - b) * 4096) 255) v

-- ---- an erase of size 0, whatever the chip does: at a sector's start it erases nothing, elsewhere the one sector

no_size : (start : ℕ) → start ≤ 18446744073709551615 → sat_add start 0 ≡ start
no_size start h = omega arith

pub erase_none_aligned : (F : List ℕ) (start : ℕ) (d : Dev) → start ≤ 18446744073709551615 → start % 4096 ≡ 0
    → erased F start 0 d ≡ and_then (flushes F d) (λ f. cond (leb start f.store.shape.capacity) (out true f) (out false f))
unfolding erased erase_n
erase_none_aligned F start d h z =
    let k : pages_of 4096 (sat_add start 0 - base 4096 start) ≡ 0 = omega arith in
    ap₂ (λ (e n : ℕ). and_then (flushes F d) (λ f. cond (leb e f.store.shape.capacity) (erase_n F n (base 4096 start) f) (out false f))) (no_size start h) k

pub erase_none_within : (F : List ℕ) (start : ℕ) (d : Dev) → start ≤ 18446744073709551615 → (start % 4096 ≡ 0 → ⊥)
    → erased F start 0 d ≡ and_then (flushes F d) (λ f. cond (leb start f.store.shape.capacity) (erase_n F 1 (base 4096 start) f) (out false f))
unfolding erased
erase_none_within F start d h z =
    let k : pages_of 4096 (sat_add start 0 - base 4096 start) ≡ 1 = omega arith in
    ap₂ (λ (e n : ℕ). and_then (flushes F d) (λ f. cond (leb e f.store.shape.capacity) (erase_n F n (base 4096 start) f) (out false f))) (no_size start h) k

module _ (F : List ℕ) where
  -- ---- read

  -- the read gave the bytes that are shown, as many as the room takes below the capacity, left the rest of the room, and holds nothing
  abbrev pub Read : List ℕ → Shape → ℕ → List ℕ → Dev → Type 0
  Read v sh off room d =
      (e : Dev) × (read_out F off room d ≡ (let n = min (length room) (sh.capacity - off) in seen (told 0 n e) (take n (drop off v) ++ drop n room)))
      × (e.store.held ≡ false) × Shows v sh e

  -- after the flush
  read_go : (v : List ℕ) (sh : Shape) (off : ℕ) (room : List ℕ) (d : Dev) (n : ℕ) → Shows v sh d → n ≡ min (length room) (sh.capacity - off) → off + n ≤ length v → Flushed F v sh d
      → ((e : Dev) × (read_out F off room d ≡ seen (told 0 n e) (take n (drop off v) ++ drop n room)) × (e.store.held ≡ false) × Shows v sh e) ⊎ Failed F d (read_out F off room d).told.dev
  read_go v sh off room d zero s q k w = inl (w.0, sym (read_none F off room d (sym w.1) refl 0 (rw w.4.fixed q) refl), w.3, w.4)
  read_go v sh off room d (suc m) s q k w =
      let f = w.0 in
      let n : ℕ = suc m in
      let l : length (take n room) ≡ n = length-take-le n room (omega arith) in
      let c : off + n ≤ length f.chip = rw w.2 k in
      let z : suc m ≡ 0 → ⊥ = λ e. omega arith in
      let e = dev (called f.store) f.chip f.buf in
      ⊎_elim
      (λ t. inl (
        e,
        sym (read_told F off room d (sym w.1) refl n (rw w.4.fixed q) z (sym (fetched_well F f.store f.chip t off (take n room) (rw l c))) refl)
            ∙ ap₂ (λ (j : ℕ) (c : List ℕ). seen (told 0 n e) (take j (drop off c) ++ drop n room)) l w.2,
        w.3,
        called_shows v sh f w.4,
      ))
      (λ t. inr (meets f.store (flush_on F v sh d s w) t (ap (λ (x : Seen). x.told.dev.store)
      (sym (read_told F off room d (sym w.1) refl n (rw w.4.fixed q) z (fetch_fails F f.store f.chip off (take n room) refl (able_told F f.store f.chip off (length (take n room)) t)) refl)))))
      (asked F f.store.calls)

  -- a read within the chip gives the bytes that are shown, or one of its chip calls was told to fail
  pub read_or_failed : (v : List ℕ) (sh : Shape) (off : ℕ) (room : List ℕ) (d : Dev) → Shows v sh d → off + min (length room) (sh.capacity - off) ≤ length v
      → Read v sh off room d ⊎ Failed F d (read_out F off room d).told.dev
  read_or_failed v sh off room d s k =
      ⊎_elim (read_go v sh off room d (min (length room) (sh.capacity - off)) s refl k)
      (λ x. inr (subst (λ (y : Seen). Failed F d y.told.dev) (read_unflushed F off room d refl x.fails) x.met))
      (flush_goes F v sh d s)

  -- so it does where no call from its first on is told to fail
  pub read_shows : (v : List ℕ) (sh : Shape) (off : ℕ) (room : List ℕ) (d : Dev) → QuietFrom F d.store.calls → Shows v sh d
      → off + min (length room) (sh.capacity - off) ≤ length v → Read v sh off room d
  read_shows v sh off room d q s k = unmet q (read_or_failed v sh off room d s k)

  -- ---- erase

  -- k sectors from a on are blank, and the record is as it was but for its number
  abbrev Ran : ℕ → ℕ → Store → List ℕ → List ℕ → Type 0
  Ran k a s chip buf =
      (t : Store) × (erase_n F k a (dev s chip buf) ≡ out true (dev t (over a (replicate (k * 4096) 255) chip) buf)) × (t.held ≡ s.held) × (t.shape ≡ s.shape)
      × (t.calls ≤ 18446744073709551615)

  -- one sector, and then the others
  ran_more : (k a : ℕ) (s : Store) (chip buf : List ℕ) → a + 4096 ≤ length chip → erase_sector F a (dev s chip buf) ≡ out true (dev (called s) (over a blank chip) buf)
      → Ran k (a + 4096) (called s) (over a blank chip) buf → Ran (suc k) a s chip buf
  unfolding erase_n
  ran_more k a s chip buf h e r =
      let m : 4096 + k * 4096 ≡ suc k * 4096 = omega arith in
      let o : over (a + 4096) (replicate (k * 4096) 255) (over a blank chip) ≡ over a (replicate (suc k * 4096) 255) chip =
      ap (λ (j : ℕ). over (a + j) (replicate (k * 4096) 255) (over a blank chip)) (sym length_blank)
      ∙ over_append a blank (replicate (k * 4096) 255) chip (rw length_blank h)
      ∙ ap (λ (l : List ℕ). over a l chip) (blank_more (k * 4096) ∙ ap (λ (j : ℕ). replicate j 255) m) in (
        r.0,
        ap (λ (o : Out). and_then o (erase_n F k (a + 4096))) e ∙ r.1 ∙ ap (λ (l : List ℕ). out true (dev r.0 l buf)) o,
        r.2,
        r.3,
        r.4,
      )

  erase_run : (k a : ℕ) (s : Store) (chip buf : List ℕ) → s.calls ≤ 18446744073709551615 → a + k * 4096 ≤ length chip
      → (let d = dev s chip buf in Ran k a s chip buf ⊎ Stopped F d (erase_n F k a d).ok (erase_n F k a d).dev)
  unfolding erase_n
  erase_run zero a s chip buf b h = inl (s, ap (λ (l : List ℕ). out true (dev s l buf)) (sym (over_nil a chip)), refl, refl, b)
  erase_run (suc k) a s chip buf b h =
      let i : a + 4096 ≤ length chip = omega arith in
      let l : length (over a blank chip) ≡ length chip = length_over a blank chip (rw length_blank i) in
      ⊎_elim
      (λ t. let e = erase_well F a s chip buf i t in
      ⊎_elim (λ r. inl (ran_more k a s chip buf i e r))
      (λ x. inr (subst (λ (o : Out). let r = and_then o (erase_n F k (a + 4096)) in Stopped F (dev s chip buf) r.ok r.dev) (sym e) (stopped_wide (omega arith) x)))
      (erase_run k (a + 4096) (called s) (over a blank chip) buf (omega arith) (rw l (omega arith))))
      (λ t. inr (stop s (le_refl _) t (ap (λ (o : Out). and_then o (erase_n F k (a + 4096))) (erase_fails F s chip a buf refl (able_told F s chip a 4096 t)))))
      (asked F s.calls)

  -- whole sectors that cover m bytes from a boundary stay within what is whole sectors too
  covered : (b m n : ℕ) → b % 4096 ≡ 0 → n % 4096 ≡ 0 → b + m ≤ n → b + pages_of 4096 m * 4096 ≤ n
  covered b m n p q h = omega arith

  -- what a flush left shows its own chip
  flushed_shows : (v : List ℕ) (sh : Shape) (d : Dev) (w : Flushed F v sh d) → Shows w.0.chip sh w.0
  flushed_shows v sh d w = subst (λ (l : List ℕ). Shows l sh w.0) (sym w.2) w.4

  -- the erase succeeded, holds nothing, and left the touched sectors blank and every other byte as it was shown
  abbrev pub Wiped : List ℕ → Shape → ℕ → ℕ → Dev → Type 0
  Wiped v sh start size d = (e : Dev) × (erased F start size d ≡ out true e) × (e.store.held ≡ false) × Shows (wiped start size v) sh e

  -- the run from the state that the flush left
  module _ (sh : Shape) (start size : ℕ) (d f : Dev) (p : flushes F d ≡ out true f) (q : f.store.held ≡ false) (s : Shows f.chip sh f) (c : sat_add start size ≤ sh.capacity)
      (fits : base 4096 start + pages_of 4096 (sat_add start size - base 4096 start) * 4096 ≤ length f.chip) (on : d.store.calls ≤ f.store.calls) where
    length_wiped : length (wiped start size f.chip) ≡ length f.chip
    length_wiped = length_over (base 4096 start) _ f.chip (rw (length-replicate {A = ℕ} (pages_of 4096 (sat_add start size - base 4096 start) * 4096) 255) fits)

    wiped_shows : (t : Store) → t.held ≡ false → t.shape ≡ sh → t.calls ≤ 18446744073709551615
        → Shows (wiped start size f.chip) sh (dev t (wiped start size f.chip) f.buf)
    wiped_shows t h g b =
        subst (λ (j : Shape). Shows (wiped start size f.chip) j (dev t (wiped start size f.chip) f.buf)) g
        (free_shows (dev t (wiped start size f.chip) f.buf) h s.room (rw length_wiped s.whole) b)

    -- the erase is the run
    is_run : {o : Out} → o ≡ erase_n F (pages_of 4096 (sat_add start size - base 4096 start)) (base 4096 start) f → o ≡ erased F start size d
    is_run r = erased_told F start size d (sym p) refl (sat_add start size) refl (rw s.fixed c) r

    erase_after : Wiped f.chip sh start size d ⊎ Failed F d (erased F start size d).dev
    erase_after =
        ⊎_elim (λ r. inl (dev r.0 (wiped start size f.chip) f.buf, sym (is_run (sym r.1)), r.2 ∙ q, wiped_shows r.0 (r.2 ∙ q) (r.3 ∙ s.fixed) r.4))
        (λ x. inr (subst (λ (o : Out). Failed F d o.dev) (is_run refl) (stopped_wide on x).met))
        (erase_run (pages_of 4096 (sat_add start size - base 4096 start)) (base 4096 start) f.store f.chip f.buf s.calls fits)

  -- an erase whose end is within capacity and chip leaves the touched sectors blank and every other byte as it was shown, or one of its chip calls was told to fail
  pub erase_or_failed : (v : List ℕ) (sh : Shape) (start size : ℕ) (d : Dev) → Shows v sh d → start ≤ sat_add start size → sat_add start size ≤ sh.capacity
      → sat_add start size ≤ length v → Wiped v sh start size d ⊎ Failed F d (erased F start size d).dev
  erase_or_failed v sh start size d s h c m =
      let z : length v % 4096 ≡ 0 = rw s.long at s.whole in
      let fits : base 4096 start + pages_of 4096 (sat_add start size - base 4096 start) * 4096 ≤ length v = covered (base 4096 start) (sat_add start size - base 4096 start) (length v) (omega arith) z (omega arith) in
      ⊎_elim (λ w. rw w.2 at (erase_after sh start size d w.0 w.1 w.3 (flushed_shows v sh d w) c (rw w.2 fits) (flush_on F v sh d s w)))
      (λ x. inr (subst (λ (o : Out). Failed F d o.dev) (erased_unflushed F start size d refl x.fails) x.met))
      (flush_goes F v sh d s)

  -- so it does where no call from its first on is told to fail
  pub erase_shows : (v : List ℕ) (sh : Shape) (start size : ℕ) (d : Dev) → QuietFrom F d.store.calls → Shows v sh d → start ≤ sat_add start size
      → sat_add start size ≤ sh.capacity → sat_add start size ≤ length v → Wiped v sh start size d
  erase_shows v sh start size d q s h c m = unmet q (erase_or_failed v sh start size d s h c m)
