-- How the buffering of a NOR goes, case by case, as the code goes: a law for each `return`, and the fold of a write at sectors of
-- 4,096 bytes.
use mathlib.Core.Path.{◌≡◌, refl, sym}
use mathlib.Core.Bool.{Bool, true, false, cond}
use mathlib.Core.List.{List, ◌++◌}
use Prim.Native.Nat.{ℕ, suc, ◌+◌, ◌-◌, ◌*◌, ◌%◌, ◌≤◌, ◌<◌, min, zero-le}
use native.Mathlib.Omega.{arith}
use borrow.Author.Tests.{le-leb, eq-eqb, ne_eqb}
use lib.Dec.{eqb}
use lib.ListN.{length, take, drop}
use Rattle.storage.specs.declared.types.Store.{Store}
use Rattle.storage.specs.World.{Dev, dev, Out, out, and_then, told, Seen, seen}
use Rattle.storage.specs.Chip.{Got, fetched}
use Rattle.storage.specs.Fold.{Run, run, base, writes, Laws}
use Rattle.storage.specs.Nor.{erase_sector, write_bytes, freed, holding, holds, flushes, reads, loads, closes, written, erase_n, pages_of, sat_add, erased, read_out}
use Rattle.storage.proofs.Fold.{false_true}

-- ---- a flush

module _ (F : List ℕ) (d : Dev) where
  pub flush_free : d.store.held ≡ false → out true d ≡ flushes F d
  unfolding flushes
  flush_free h = rw h

  module _ {e : Out} (h : d.store.held ≡ true) (p : e ≡ erase_sector F d.store.at d) where
    pub flush_unerased : e.ok ≡ false → e ≡ flushes F d
    unfolding flushes
    flush_unerased t = rw (← p, h, t)

    module _ {w : Out} (t : e.ok ≡ true) (q : w ≡ write_bytes F d.store.at (take 4096 d.buf) e.dev) where
      pub flush_unwritten : w.ok ≡ false → w ≡ flushes F d
      unfolding flushes
      flush_unwritten u = rw (← p, ← q, h, t, u)

      pub flush_done : w.ok ≡ true → out true (dev (freed w.dev.store) w.dev.chip w.dev.buf) ≡ flushes F d
      unfolding flushes
      flush_done u = rw (← p, ← q, h, t, u)

-- ---- a load

module _ (F : List ℕ) (a : ℕ) (d : Dev) where
  pub load_held : holds d.store (base 4096 a) ≡ true → out true d ≡ loads F a d
  unfolding loads
  load_held h = rw h

  module _ {f : Out} (h : holds d.store (base 4096 a) ≡ false) (p : f ≡ flushes F d) where
    pub load_unflushed : f.ok ≡ false → f ≡ loads F a d
    unfolding loads
    load_unflushed t = rw (← p, h, t)

    module _ {g : Got} (t : f.ok ≡ true) (q : g ≡ fetched F (base 4096 a) f.dev.store f.dev.chip (take 4096 f.dev.buf)) where
      pub load_unread : g.ok ≡ false → out g.ok (dev g.store f.dev.chip (g.room ++ drop 4096 f.dev.buf)) ≡ loads F a d
      unfolding loads reads
      load_unread u = rw (← p, ← q, h, t, u)

      pub load_done : g.ok ≡ true → out true (dev (holding (base 4096 a) g.store) f.dev.chip (g.room ++ drop 4096 f.dev.buf)) ≡ loads F a d
      unfolding loads reads
      load_done u = rw (← p, ← q, h, t, u)

-- ---- what is loaded is held

after : (b : Bool) (d : Dev) (f : Dev → Out) (P : Dev → Type 0) → ((e : Dev) → (f e).ok ≡ true → P (f e).dev) → (and_then (out b d) f).ok ≡ true → P (and_then (out b d) f).dev
after true d f P k e = k d e
after false d f P k e = false_true e

holding_holds : (a : ℕ) (s : Store) → holds (holding a s) a ≡ true
unfolding holds
holding_holds a s = eq-eqb a a refl

loaded : (F : List ℕ) (a : ℕ) (d : Dev) → (loads F a d).ok ≡ true → holds (loads F a d).dev.store (base 4096 a) ≡ true
unfolding loads
loaded F a d = go (holds d.store (base 4096 a)) refl
  where
    H : Dev → Type 0
    H e = holds e.store (base 4096 a) ≡ true

    R : Dev → Out
    R r = out true (dev (holding (base 4096 a) r.store) r.chip r.buf)

    S : Dev → Out
    S f = and_then (reads F (base 4096 a) f) R

    go : (b : Bool) → holds d.store (base 4096 a) ≡ b → (cond b (out true d) (and_then (flushes F d) S)).ok ≡ true
        → holds (cond b (out true d) (and_then (flushes F d) S)).dev.store (base 4096 a) ≡ true
    go true h e = h
    go false h e =
        after (flushes F d).ok (flushes F d).dev S H (λ f t. after (reads F (base 4096 a) f).ok (reads F (base 4096 a) f).dev R H (λ r u. holding_holds (base 4096 a) r.store) t) e

-- ---- a write in sectors

stays : (F : List ℕ) (s : Store) (b : ℕ) → holds s b ≡ true → (e : ℕ) (chip buf : List ℕ) → base 4096 e ≡ b → loads F e (dev s chip buf) ≡ out true (dev s chip buf)
stays F s b h e chip buf q = sym (load_held F e (dev s chip buf) (rw q h))

opens : (F : List ℕ) (a : ℕ) (d : Dev) → (a % 4096 ≡ 0 → ⊥) → closes F a d ≡ out true d
unfolding closes
opens F a d n = rw (ne_eqb (a % 4096) 0 n)

-- a write's bytes are set one after the other in sectors
pub laws : (F : List ℕ) → Laws 4096 (λ d. (4096 ≤ length d.buf) × (◌≡◌ {A = ℕ} 4096 4096)) (loads F) (closes F)
laws F =
    record {
      some = omega arith;
      room = λ d h. h.0;
      loaded = λ a d b h e. (rw e h.0, refl);
      sealed = λ a d h. h;
      stays = λ a d t. stays F (loads F a d).dev.store (base 4096 a) (loaded F a d t);
      opens = opens F;
    }

-- ---- a write

module _ (F : List ℕ) (off : ℕ) (xs : List ℕ) (d : Dev) where
  pub written_told : {o : Run} → off + length xs ≤ d.store.shape.capacity → o ≡ writes 4096 (loads F) (closes F) xs (run true off d)
      → told 0 (o.at - off) o.dev ≡ written F off xs d
  unfolding written
  written_told k p = rw (← p, le-leb (off + length xs) d.store.shape.capacity k)

-- ---- a read

module _ (F : List ℕ) (off : ℕ) (room : List ℕ) (d : Dev) {f : Out} (p : f ≡ flushes F d) where
  pub read_unflushed : f.ok ≡ false → seen (told 0 0 f.dev) room ≡ read_out F off room d
  unfolding read_out
  read_unflushed t = rw (← p, t)

  module _ (t : f.ok ≡ true) (n : ℕ) (q : n ≡ min (length room) (f.dev.store.shape.capacity - off)) where
    pub read_none : n ≡ 0 → seen (told 0 0 f.dev) room ≡ read_out F off room d
    unfolding read_out
    read_none z = rw (← p, ← q, t, eq-eqb n 0 z)

    pub read_told : {g : Got} {k : ℕ} → (n ≡ 0 → ⊥) → g ≡ fetched F off f.dev.store f.dev.chip (take n room) → k ≡ cond g.ok n 0
        → seen (told 0 k (dev g.store f.dev.chip f.dev.buf)) (g.room ++ drop n room) ≡ read_out F off room d
    unfolding read_out
    read_told z r w = rw (← p, ← q, ← r, ← w, t, ne_eqb n 0 z)

-- what a read counts, by whether its flush, its length and its chip call went well
pub counts : (b c g : Bool) (m n : ℕ) (d e : Dev) (r s : List ℕ) → n ≤ m
    → (cond b (cond c (seen (told 0 0 d) r) (seen (told 0 (cond g n 0) e) s)) (seen (told 0 0 d) r)).told.count ≤ m
counts true true g m n d e r s h = zero-le
counts true false true m n d e r s h = h
counts true false false m n d e r s h = zero-le
counts false c g m n d e r s h = zero-le

-- a read counts no more bytes than its room has
pub read_count : (F : List ℕ) (off : ℕ) (room : List ℕ) (d : Dev) {s : Seen} → s ≡ read_out F off room d → s.told.count ≤ length room
unfolding read_out
read_count F off room d q =
    let f = flushes F d in
    let n = min (length room) (f.dev.store.shape.capacity - off) in
    let g = fetched F off f.dev.store f.dev.chip (take n room) in
    rw q (counts f.ok (eqb n 0) g.ok (length room) n f.dev (dev g.store f.dev.chip f.dev.buf) room (g.room ++ drop n room) (omega arith))

-- ---- an erase

pub erase_none : (F : List ℕ) (k i a : ℕ) (d : Dev) → k ≤ i → out true d ≡ erase_n F (k - i) a d
unfolding erase_n
erase_none F k i a d h = let e : k - i ≡ 0 = omega arith in rw e

-- a turn of the loop: the i-th of k sectors
erase_one : (F : List ℕ) (k i a : ℕ) (d : Dev) {e : Out} → i < k → e ≡ erase_sector F a d → erase_n F (k - i) a d ≡ and_then e (erase_n F (k - (i + 1)) (a + 4096))
unfolding erase_n
erase_one F k i a d h p = let q : k - i ≡ suc (k - (i + 1)) = omega arith in rw (q, ← p)

pub erase_failed : (F : List ℕ) (k i a : ℕ) (d : Dev) {e : Out} → i < k → e ≡ erase_sector F a d → e.ok ≡ false → e ≡ erase_n F (k - i) a d
erase_failed F k i a d h p t = rw (erase_one F k i a d h p, t)

pub erase_went : (F : List ℕ) (k i first : ℕ) (d : Dev) {e : Out} → i < k → e ≡ erase_sector F (first + i * 4096) d → e.ok ≡ true
    → erase_n F (k - (i + 1)) (first + (i + 1) * 4096) e.dev ≡ erase_n F (k - i) (first + i * 4096) d
erase_went F k i first d h p t =
    let q : first + (i + 1) * 4096 ≡ first + i * 4096 + 4096 = omega arith in
    rw (erase_one F k i (first + i * 4096) d h p, q, t)

module _ (F : List ℕ) (start size : ℕ) (d : Dev) {f : Out} (p : f ≡ flushes F d) where
  pub erased_unflushed : f.ok ≡ false → f ≡ erased F start size d
  unfolding erased
  erased_unflushed t = rw (← p, t)

  module _ (t : f.ok ≡ true) (end : ℕ) (q : end ≡ sat_add start size) where
    pub erased_told : {o : Out} → end ≤ f.dev.store.shape.capacity → o ≡ erase_n F (pages_of 4096 (end - base 4096 start)) (base 4096 start) f.dev → o ≡ erased F start size d
    unfolding erased
    erased_told k r = rw (← p, ← q, t, le-leb end f.dev.store.shape.capacity k, ← r)
