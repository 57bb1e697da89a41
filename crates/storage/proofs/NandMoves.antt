-- How the NAND's write, erase and read go, case by case, as the code goes.
use mathlib.Core.Path.{◌≡◌, refl, sym, ap, ◌∙◌}
use mathlib.Core.Bool.{Bool, true, false, cond}
use mathlib.Core.List.{List, ◌++◌}
use Prim.Native.Nat.{ℕ, suc, ◌+◌, ◌-◌, ◌*◌, ◌/◌, ◌%◌, ◌≤◌, ◌<◌, min}
use native.Mathlib.Nat.{div-add-mod', add-mul-div_right, add-mul-mod_self_right, mod-le}
use native.Mathlib.Omega.{arith}
use borrow.Author.Tests.{le-leb, lt-leb, eq-eqb, ne_eqb}
use lib.ListN.{length, take, drop, replicate}
use lib.Seq.{length-take-le}
use Rattle.storage.specs.World.{Lent, Dev, dev, Out, out, and_then, told, seen}
use Rattle.storage.specs.Chip.{Got, fetched}
use Rattle.storage.specs.Fold.{Run, run, base, writes, Laws}
use Rattle.storage.specs.Nor.{holding, holds, pages_of, sat_add}
use Rattle.storage.specs.Nand.{Sound, block_size, blanks, erase_checked, flushes, begins, loads, stays, written, erase_n, erase_range, read_out}
use Rattle.storage.proofs.Fold.{false_true}
use Rattle.storage.proofs.NandSteps.{page_fits}
use Rattle.storage.proofs.NandKeeps.{sound_as, sound_with, loads_shape}

-- ---- a page brought in

-- a page's front of the buffer, filled
pub begun : (n : ℕ) (buf : List ℕ) → n ≤ length buf → replicate (length (take n buf)) 255 ≡ blanks n
unfolding blanks
begun n buf h = rw (length-take-le n buf h)

pub load_held : (l : Lent) (p a : ℕ) (d : Dev) → holds d.store (base p a) ≡ true → out true d ≡ loads l p a d
unfolding loads
load_held l p a d h = rw h

module _ (l : Lent) (p a : ℕ) (d : Dev) where
  module _ (start : ℕ) {f : Out} (e : start ≡ base p a) (h : holds d.store start ≡ false) (q : f ≡ flushes l d) where
    pub load_done : {xs : List ℕ} → f.ok ≡ true → xs ≡ blanks f.dev.store.shape.page
        → out true (dev (holding start f.dev.store) f.dev.chip (xs ++ drop f.dev.store.shape.page f.dev.buf)) ≡ loads l p a d
    unfolding loads begins
    load_done t r = rw (← e, ← q, h, t, r)

  -- what is brought in is held
  pub loaded : (loads l p a d).ok ≡ true → holds (loads l p a d).dev.store (base p a) ≡ true
  unfolding loads begins holds
  loaded = go (holds d.store (base p a)) refl
    where
      H : Dev → Out
      H f = out true (begins (base p a) f)

      late : (b : Bool) (f : Out) → b ≡ f.ok → (cond b (H f.dev) f).ok ≡ true → holds (cond b (H f.dev) f).dev.store (base p a) ≡ true
      late true f q e = eq-eqb (base p a) (base p a) refl
      late false f q e = false_true (q ∙ e)

      go : (b : Bool) → holds d.store (base p a) ≡ b → (cond b (out true d) (and_then (flushes l d) H)).ok ≡ true
          → holds (cond b (out true d) (and_then (flushes l d) H)).dev.store (base p a) ≡ true
      go true h e = h
      go false h e = late (flushes l d).ok (flushes l d) refl e

-- ---- a write

-- a write's bytes are set one after the other in pages
pub laws : (l : Lent) (p : ℕ) → 0 < p → Laws p (λ d. (Sound l.marks d.store.shape d.buf) × (p ≡ d.store.shape.page)) (loads l p) stays
unfolding stays
laws l p h =
    record {
      some = h;
      room = λ d r. rw r.1 (page_fits r.0);
      loaded = λ a d b r e. let k = loads_shape l d p a in (sound_as k (sound_with e r.0), rw k r.1);
      sealed = λ a d r. r;
      stays = λ a d t e chip buf q. sym (load_held l p e (dev (loads l p a d).dev.store chip buf) (rw q (loaded l p a d t)));
      opens = λ a d n. refl;
    }

module _ (l : Lent) (off : ℕ) (xs : List ℕ) (d : Dev) where
  pub written_told : {o : Run} → off + length xs ≤ d.store.shape.capacity
      → o ≡ writes d.store.shape.page (loads l d.store.shape.page) stays xs (run true off d) → told 0 (o.at - off) o.dev ≡ written l off xs d
  unfolding written
  written_told k p = rw (← p, le-leb (off + length xs) d.store.shape.capacity k)

-- ---- an erase: the blocks from one on, up to the end of the last one

module _ (l : Lent) (k end : ℕ) (d : Dev) where
  pub erase_none : end ≤ k → out true d ≡ erase_n l (end - k) k d
  unfolding erase_n
  erase_none h = let e : end - k ≡ 0 = omega arith in rw e

  module _ {e : Out} (h : k < end) (p : e ≡ erase_checked l k d) where
    -- a turn of the loop
    erase_one : erase_n l (end - k) k d ≡ and_then e (erase_n l (end - (k + 1)) (k + 1))
    unfolding erase_n
    erase_one = let q : end - k ≡ suc (end - (k + 1)) = omega arith in rw (q, ← p)

    pub erase_failed : e.ok ≡ false → e ≡ erase_n l (end - k) k d
    erase_failed t = rw (erase_one, t)

    pub erase_went : e.ok ≡ true → erase_n l (end - (k + 1)) (k + 1) e.dev ≡ erase_n l (end - k) k d
    erase_went t = rw (erase_one, t)

-- where the page of an address starts, by its number
pub start_is : (p a : ℕ) → a / p * p ≡ base p a
start_is p a = omega (arith, div-add-mod' a p)

-- the blocks that a range touches, by the number of its first one and of the one behind its last
pages_from : (b start end : ℕ) → 0 < b → start ≤ end → pages_of b (end - base b start) ≡ pages_of b end - start / b
pages_from b start end h k =
    let m = end - base b start in
    let q : end ≡ m + start / b * b = rw (start_is b start) (omega (arith, mod-le start b)) in
    let x : end / b ≡ m / b + start / b = ap (λ (n : ℕ). n / b) q ∙ add-mul-div_right m (start / b) h in
    let y : end % b ≡ m % b = ap (λ (n : ℕ). n % b) q ∙ add-mul-mod_self_right m (start / b) b in
    rw (x, y) (omega arith)

module _ (l : Lent) (start size : ℕ) (d : Dev) where
  module _ (end : ℕ) (q : end ≡ sat_add start size) where
    pub range_past : d.store.shape.capacity < end → out false d ≡ erase_range l start size d
    unfolding erase_range
    range_past k = rw (← q, lt-leb end d.store.shape.capacity k)

    pub range_done : {o : Out} → end ≤ d.store.shape.capacity → 0 < block_size d.store → start ≤ end
        → o ≡ erase_n l (pages_of (block_size d.store) end - start / block_size d.store) (start / block_size d.store) d → o ≡ erase_range l start size d
    unfolding erase_range
    range_done i u v r = rw (← q, le-leb end d.store.shape.capacity i, pages_from (block_size d.store) start end u v, ← r)

-- ---- a read

module _ (l : Lent) (off : ℕ) (room : List ℕ) (d : Dev) {f : Out} (p : f ≡ flushes l d) where
  pub read_unflushed : f.ok ≡ false → seen (told 0 0 f.dev) room ≡ read_out l off room d
  unfolding read_out
  read_unflushed t = rw (← p, t)

  module _ (t : f.ok ≡ true) (n : ℕ) (q : n ≡ min (length room) (f.dev.store.shape.capacity - off)) where
    pub read_none : n ≡ 0 → seen (told 0 0 f.dev) room ≡ read_out l off room d
    unfolding read_out
    read_none z = rw (← p, ← q, t, eq-eqb n 0 z)

    pub read_told : {g : Got} {k : ℕ} → (n ≡ 0 → ⊥) → g ≡ fetched l.faults off f.dev.store f.dev.chip (take n room) → k ≡ cond g.ok n 0
        → seen (told 0 k (dev g.store f.dev.chip f.dev.buf)) (g.room ++ drop n room) ≡ read_out l off room d
    unfolding read_out
    read_told z r w = rw (← p, ← q, ← r, ← w, t, ne_eqb n 0 z)
