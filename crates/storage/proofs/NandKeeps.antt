-- What the NAND's buffering keeps of a state: a property that a chip call, another erased block, a freed page, a page begun and a
-- byte set leave alone is left alone by everything. The shape is such a property.
use mathlib.Core.Path.{◌≡◌, refl, ap, ◌∙◌}
use mathlib.Core.Bool.{Bool, true, false, cond}
use mathlib.Core.List.{List}
use Prim.Native.Nat.{ℕ, suc, ◌+◌, ◌*◌, ◌/◌, ◌≤◌, ◌<◌}
use native.Mathlib.Nat.{le_refl}
use lib.Dec.{ltb}
use lib.ListN.{length, take, drop, set}
use Rattle.std.proofs.lemmas.Bool.{cond_both}
use Rattle.text.specs.Token.{same}
use Rattle.storage.specs.declared.types.Shape.{Shape}
use Rattle.storage.specs.declared.types.Store.{Store}
use Rattle.storage.specs.World.{Lent, Dev, dev, Out, out, and_then}
use Rattle.storage.specs.Chip.{able, called, over}
use Rattle.storage.specs.Fold.{Run, run, base, writes}
use Rattle.storage.specs.Nor.{freed, holds}
use Rattle.storage.specs.Nand.{Shaped, Sound, block_size, blanks, kept, erase_block, program_page, asks_good, remember, is_erased, erase_checked, ready, burns, attempt, or_else, flushes, begins, loads, stays}
use Rattle.storage.proofs.Chips.{able_fits}
use Rattle.storage.proofs.Over.{length_over}
use Rattle.storage.proofs.Programs.{Call, programs_call}
use Rattle.storage.proofs.Along.{writes_along}
use Rattle.storage.proofs.NandCalls.{length_page}
use Rattle.std.specs.Prelude.{Option, None, Some}

-- ---- the chip's calls

asks_call : (l : Lent) (k : ℕ) (d : Dev) → Call d (asks_good l k d).dev
unfolding asks_good
asks_call l k d = record { number = refl; buf = refl; size = refl }

erase_call : (F : List ℕ) (k : ℕ) (d : Dev) → Call d (erase_block F k d).dev
unfolding erase_block
erase_call F k d = programs_call F (k * block_size d.store) (blanks (block_size d.store)) d

page_call : (F : List ℕ) (a : ℕ) (xs : List ℕ) (d : Dev) → Call d (program_page F a xs d).dev
unfolding program_page
page_call F a xs d = go (able F d.store d.chip a (length xs)) refl
  where
    new : List ℕ
    new = kept (take (length xs) (drop a d.chip)) xs

    go : (b : Bool) → able F d.store d.chip a (length xs) ≡ b
        → Call d (cond b (out (same new xs) (dev (called d.store) (over a new d.chip) d.buf)) (out false (dev (called d.store) d.chip d.buf))).dev
    go true t =
        let f : a + length xs ≤ length d.chip = able_fits F d.store d.chip a (length xs) t in
        record { number = refl; buf = refl; size = length_over a new d.chip (rw (length_page a xs d.chip f) f) }
    go false t = record { number = refl; buf = refl; size = refl }

-- ---- the steps

module _ (P : Dev → Type 0) where
  abbrev Of : Out → Type 0
  Of o = P o.dev

  next : (o : Out) (f : Dev → Out) → P o.dev → ((d : Dev) → P d → P (f d).dev) → P (and_then o f).dev
  next o f h k = cond_both o.ok (f o.dev) o Of (λ t. k o.dev h) (λ t. h)

  module _ (calls : (d e : Dev) → Call d e → P d → P e) (notes : (e : Option ℕ) (d : Dev) → P d → P (remember e d)) (l : Lent) where
    pub checked_keeps : (k : ℕ) (d : Dev) → P d → P (erase_checked l k d).dev
    unfolding erase_checked
    checked_keeps k d h =
        cond_both (ltb k d.store.shape.blocks) (and_then (asks_good l k d) (erase_block l.faults k)) (out false d) Of
        (λ t. next (asks_good l k d) (erase_block l.faults k) (calls d (asks_good l k d).dev (asks_call l k d) h)
        (λ e i. calls e (erase_block l.faults k e).dev (erase_call l.faults k e) i)) (λ t. h)

    ready_keeps : (k : ℕ) (d : Dev) → P d → P (ready l k d).dev
    unfolding ready
    ready_keeps k d h =
        let e = erase_checked l k d in
        let i = checked_keeps k d h in
        cond_both (is_erased d.store.erased k) (out true d) (cond e.ok (out true (remember (Some k) e.dev)) (out false (remember None e.dev))) Of (λ t. h)
        (λ t. cond_both e.ok (out true (remember (Some k) e.dev)) (out false (remember None e.dev)) Of (λ t. notes (Some k) e.dev i) (λ t. notes None e.dev i))

    burns_keeps : (d : Dev) → P d → P (burns l d).dev
    unfolding burns
    burns_keeps d h =
        let xs = take d.store.shape.page d.buf in
        let w = program_page l.faults d.store.at xs d in
        let i = calls d w.dev (page_call l.faults d.store.at xs d) h in
        cond_both w.ok w (out false (remember None w.dev)) Of (λ t. i) (λ t. notes None w.dev i)

    attempt_keeps : (d : Dev) → P d → P (attempt l d).dev
    unfolding attempt
    attempt_keeps d h = let k = d.store.at / block_size d.store in next (ready l k d) (burns l) (ready_keeps k d h) burns_keeps

    module _ (frees : (d : Dev) → P d → P (dev (freed d.store) d.chip d.buf)) where
      pub flushes_keeps : (d : Dev) → P d → P (flushes l d).dev
      unfolding flushes
      flushes_keeps d h =
          let a = attempt l d in
          let i = attempt_keeps d h in
          let f : Dev → Out = λ w. out true (dev (freed w.store) w.chip w.buf) in
          cond_both d.store.held (and_then (or_else a (attempt l)) f) (out true d) Of
          (λ t. next (or_else a (attempt l)) f (cond_both a.ok a (attempt l a.dev) Of (λ t. i) (λ t. attempt_keeps a.dev i)) frees) (λ t. h)

      -- below the address `top`
      module _ (p top : ℕ) (starts : (a : ℕ) (d : Dev) → a < top → P d → P (begins (base p a) d)) where
        loads_keeps : (a : ℕ) (d : Dev) → a < top → P d → P (loads l p a d).dev
        unfolding loads
        loads_keeps a d t h =
            let f : Dev → Out = λ e. out true (begins (base p a) e) in
            cond_both (holds d.store (base p a)) (out true d) (and_then (flushes l d) f) Of (λ z. h) (λ z. next (flushes l d) f (flushes_keeps d h) (λ e i. starts a e t i))

        stays_keeps : (a : ℕ) (d : Dev) → P d → P (stays a d).dev
        unfolding stays
        stays_keeps a d h = h

        pub writes_keeps : ((i x : ℕ) (d : Dev) → P d → P (dev d.store d.chip (set d.buf i x))) → (xs : List ℕ) (o : Run) → o.at + length xs ≤ top → P o.dev
            → P (writes p (loads l p) stays xs o).dev
        writes_keeps sets xs o t h = writes_along p (loads l p) stays P top loads_keeps stays_keeps sets xs o t h

-- ---- the shape

pub shaped_as : {m : List ℕ} {g h : Shape} → g ≡ h → Shaped m h → Shaped m g
shaped_as q s = rw q s

pub sound_as : {m b : List ℕ} {g h : Shape} → g ≡ h → Sound m h b → Sound m g b
sound_as q s = rw q s

-- another buffer of the same length will do
pub sound_with : {m b c : List ℕ} {h : Shape} → length c ≡ length b → Sound m h b → Sound m h c
sound_with q s = record { shaped = s.shaped; room = rw q s.room }

module _ (l : Lent) (d : Dev) where
  abbrev As : Dev → Type 0
  As e = e.store.shape ≡ d.store.shape

  call_as : (e f : Dev) → Call e f → As e → As f
  call_as e f c h = ap (λ (s : Store). s.shape) c.number ∙ h

  pub ready_shape : (k : ℕ) {o : Out} → o ≡ ready l k d → o.dev.store.shape ≡ d.store.shape
  ready_shape k q = rw q (ready_keeps As call_as (λ e f h. h) l k d refl)

  pub checked_shape : (k : ℕ) {o : Out} → o ≡ erase_checked l k d → o.dev.store.shape ≡ d.store.shape
  checked_shape k q = rw q (checked_keeps As call_as (λ e f h. h) l k d refl)

  pub attempt_shape : {o : Out} → o ≡ attempt l d → o.dev.store.shape ≡ d.store.shape
  attempt_shape q = rw q (attempt_keeps As call_as (λ e f h. h) l d refl)

  pub flushes_shape : {o : Out} → o ≡ flushes l d → o.dev.store.shape ≡ d.store.shape
  flushes_shape q = rw q (flushes_keeps As call_as (λ e f h. h) l (λ f h. h) d refl)

  pub loads_shape : (p a : ℕ) → (loads l p a d).dev.store.shape ≡ d.store.shape
  unfolding begins
  loads_shape p a = loads_keeps As call_as (λ e f h. h) l (λ f h. h) p (suc a) (λ i f t h. h) a d (le_refl (suc a)) refl

  pub writes_shape : (p : ℕ) (xs : List ℕ) (a : ℕ) {o : Run} → o ≡ writes p (loads l p) stays xs (run true a d) → o.dev.store.shape ≡ d.store.shape
  unfolding begins
  writes_shape p xs a q =
      rw q (writes_keeps As call_as (λ e f h. h) l (λ f h. h) p (a + length xs) (λ i f t h. h) (λ i x f h. h) xs (run true a d) (le_refl (a + length xs)) refl)
