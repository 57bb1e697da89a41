-- A property of states that a chip call, another erased block and a freed page leave alone is left alone by every call of a NAND store,
-- whatever its chip does; for a write, so must a page begun below the capacity and a byte set. What a call keeps (Kept), how many chip
-- calls it made (Counted) and where its reasons lie (Reasons) are such properties.
use Rattle.std.specs.Prelude.{◌≡◌, Bool, cond, List, ◌++◌, leb, eqb, take, set}
use Rattle.std.proofs.Math.Path.{refl}
use Rattle.std.proofs.Math.Bool.{true, false}
use Prim.Native.Nat.{ℕ, zero, suc, ◌+◌, ◌-◌, ◌/◌, ◌<◌, min}
use Rattle.std.proofs.Common.{leb-true}
use Rattle.std.proofs.Math.ListN.{length, drop}
use Rattle.storage.specs.World.{Lent, Dev, dev, Out, out, and_then, told, seen}
use Rattle.storage.specs.Chip.{fetched}
use Rattle.storage.specs.Fold.{run, base, writes}
use Rattle.storage.specs.Nor.{freed, pages_of, sat_add}
use Rattle.storage.specs.Nand.{block_size, remember, erase_checked, flushes, flushed, begins, loads, stays, written, erase_n, erase_range, erased, read_out}
use Rattle.storage.proofs.Programs.{Call, fetched_number}
use Rattle.storage.proofs.NandKeeps.{checked_keeps, flushes_keeps, writes_keeps}
use Rattle.std.specs.Prelude.{Option, None}

-- either of two outcomes, and one after the other
module _ (P : Dev → Type 0) where
  pub either : (b : Bool) (o u : Out) → P o.dev → P u.dev → P (cond b o u).dev
  either true o u h k = h
  either false o u h k = k

  pub next : (o : Out) (f : Dev → Out) → P o.dev → ((e : Dev) → P e → P (f e).dev) → P (and_then o f).dev
  next o f h k = either o.ok (f o.dev) o (k o.dev h) h

module _ (P : Dev → Type 0) (calls : (d e : Dev) → Call d e → P d → P e) (notes : (x : Option ℕ) (d : Dev) → P d → P (remember x d)) (l : Lent)
    (frees : (d : Dev) → P d → P (dev (freed d.store) d.chip d.buf)) (d : Dev) (start : P d) where
  after_flush_lem : P (flushes l d).dev
  after_flush_lem = flushes_keeps P calls notes l frees d start

  pub flushed_keeps : P (flushed l d).dev
  unfolding flushed
  flushed_keeps = next P (flushes l d) (λ f. out true (remember None f)) after_flush_lem (notes None)

  -- ---- write

  pub written_keeps : ((a : ℕ) (e : Dev) → a < d.store.shape.capacity → P e → P (begins (base d.store.shape.page a) e))
      → ((i x : ℕ) (e : Dev) → P e → P (dev e.store e.chip (set e.buf i x))) → (off : ℕ) (xs : List ℕ) → P (written l off xs d).dev
  unfolding written
  written_keeps begun sets off xs = go (leb (off + length xs) d.store.shape.capacity) refl
    where
      p : ℕ
      p = d.store.shape.page

      go : (b : Bool) → leb (off + length xs) d.store.shape.capacity ≡ b
          → P (cond b (told 0 ((writes p (loads l p) stays xs (run true off d)).at - off) (writes p (loads l p) stays xs (run true off d)).dev) (told 0 0 d)).dev
      go true h =
          writes_keeps P calls notes l frees p d.store.shape.capacity begun sets xs (run true off d) (leb-true (off + length xs) d.store.shape.capacity h) start
      go false h = start

  -- ---- erase

  erase_n_keeps : (n k : ℕ) (e : Dev) → P e → P (erase_n l n k e).dev
  unfolding erase_n
  erase_n_keeps zero k e h = h
  erase_n_keeps (suc n) k e h = next P (erase_checked l k e) (erase_n l n (k + 1)) (checked_keeps P calls notes l k e h) (erase_n_keeps n (k + 1))

  range_keeps : (from size : ℕ) (e : Dev) → P e → P (erase_range l from size e).dev
  unfolding erase_range
  range_keeps from size e h =
      let b = block_size e.store in
      let n = pages_of b (sat_add from size - base b from) in
      either P (leb (sat_add from size) e.store.shape.capacity) (erase_n l n (from / b) e) (out false e) (erase_n_keeps n (from / b) e h) h

  pub erased_keeps : (from size : ℕ) → P (erased l from size d).dev
  unfolding erased
  erased_keeps from size =
      next P (flushes l d) (λ f. erase_range l from size (remember None f)) after_flush_lem (λ f k. range_keeps from size (remember None f) (notes None f k))

  -- ---- read

  seen_keeps : (b c : Bool) (e f : Dev) (n : ℕ) (r s : List ℕ) → P e → P f
      → P (cond b (cond c (seen (told 0 0 e) r) (seen (told 0 n f) s)) (seen (told 0 0 e) r)).told.dev
  seen_keeps true true e f n r s h k = h
  seen_keeps true false e f n r s h k = k
  seen_keeps false c e f n r s h k = h

  pub read_out_keeps : (off : ℕ) (room : List ℕ) → P (read_out l off room d).told.dev
  unfolding read_out
  read_out_keeps off room =
      let f = flushes l d in
      let n = min (length room) (f.dev.store.shape.capacity - off) in
      let g = fetched l.faults off f.dev.store f.dev.chip (take n room) in
      let e = dev g.store f.dev.chip f.dev.buf in
      seen_keeps f.ok (eqb n 0) f.dev e (cond g.ok n 0) room (g.room ++ drop n room) after_flush_lem
      (calls f.dev e (record { number = fetched_number l.faults off f.dev.store f.dev.chip (take n room); buf = refl; size = refl }) after_flush_lem)
