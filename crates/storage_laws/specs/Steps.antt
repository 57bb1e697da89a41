-- What each step of a NOR call keeps is kept by the whole call, whatever its chip does. The steps are a chip call, and between chip
-- calls: the held sector is let go, a sector is held, other bytes lie in the buffer.
use Rattle.std.specs.Prelude.{◌≡◌, Bool, cond, List, ◌++◌, eqb}
use Rattle.std.proofs.Math.Path.{refl}
use Rattle.std.proofs.Math.Bool.{true, false}
use Prim.Native.Nat.{ℕ, zero, suc, ◌+◌, ◌-◌, ◌%◌, ◌≤◌, ◌<◌, min}
use native.Mathlib.Omega.{arith}
use borrow.Author.Tests.{leb-true}
use Rattle.std.proofs.Math.Dec.{leb}
use Rattle.std.proofs.Math.ListN.{length, take, drop, length-take}
use Rattle.std.proofs.Common.{length-set}
use Rattle.std.proofs.Math.Seq.{length_front}
use Rattle.storage.specs.World.{Dev, dev, Out, out, and_then, told, seen}
use Rattle.storage.specs.Chip.{able, called, got, fetched}
use Rattle.storage.specs.Fold.{run, base, writes}
use Rattle.storage.specs.Nor.{erase_sector, write_bytes, freed, holding, holds, flushes, reads, loads, closes, written, erase_n, pages_of, sat_add, erased, read_out}
use Rattle.storage.proofs.Chips.{able_fits}
use Rattle.storage.proofs.Programs.{Call, fetched_number, fetched_length}
use Rattle.storage.proofs.Sectors.{erase_call, write_call}
use Rattle.storage.proofs.Fold.{false_true}
use Rattle.storage.proofs.Along.{writes_along}

-- P is kept by each step, where sectors are held below the address `top`, and each after it was read from within the chip
pub record Steps (P : Dev → Type 0) (top : ℕ) : Type 0 where
  pub called : (d e : Dev) → Call d e → P d → P e
  pub freed : (d : Dev) → P d → P (dev (freed d.store) d.chip d.buf)
  pub holding : (a : ℕ) (d : Dev) → a % 4096 ≡ 0 → a < top → a + min 4096 (length d.buf) ≤ length d.chip → P d → P (dev (holding a d.store) d.chip d.buf)
  pub buffer : (b : List ℕ) (d : Dev) → length b ≡ length d.buf → P d → P (dev d.store d.chip b)

-- ---- one step after another

then_went : (P : Dev → Type 0) (o : Out) (f : Dev → Out) → P o.dev → (o.ok ≡ true → P (f o.dev).dev) → P (and_then o f).dev
then_went P o f k g = go o.ok refl
  where
    go : (b : Bool) → o.ok ≡ b → P (cond b (f o.dev) o).dev
    go true t = g t
    go false t = k

then_along : (P : Dev → Type 0) (o : Out) (f : Dev → Out) → P o.dev → ((e : Dev) → P e → P (f e).dev) → P (and_then o f).dev
then_along P o f k g = then_went P o f k (λ t. g o.dev k)

either_along : (P : Dev → Type 0) (b : Bool) (o p : Out) → P o.dev → P p.dev → P (cond b o p).dev
either_along P true o p h k = h
either_along P false o p h k = k

-- a chip read is a chip call that leaves chip and buffer
fetch_call : (F : List ℕ) (a : ℕ) (room : List ℕ) (d : Dev) → Call d (dev (fetched F a d.store d.chip room).store d.chip d.buf)
fetch_call F a room d = record { number = fetched_number F a d.store d.chip room; buf = refl; size = refl }

-- one that succeeds is within the chip
fetch_fits : (F : List ℕ) (a : ℕ) (room : List ℕ) (d : Dev) → (fetched F a d.store d.chip room).ok ≡ true → a + length room ≤ length d.chip
unfolding fetched
fetch_fits F a room d = go (able F d.store d.chip a (length room)) refl
  where
    go : (b : Bool) → able F d.store d.chip a (length room) ≡ b
        → (cond b (got true (called d.store) (take (length room) (drop a d.chip))) (got false (called d.store) room)).ok ≡ true → a + length room ≤ length d.chip
    go true q t = able_fits F d.store d.chip a (length room) q
    go false q t = false_true t

module _ (F : List ℕ) (P : Dev → Type 0) (top : ℕ) (steps : Steps P top) where
  -- ---- flush

  -- a flush keeps P
  pub flushes_along : (d : Dev) → P d → P (flushes F d).dev
  unfolding flushes
  flushes_along d h =
      either_along P d.store.held (and_then (erase_sector F a d) W) (out true d)
      (then_along P (erase_sector F a d) W (steps.called d _ (erase_call F a d) h)
      (λ e k. then_along P (write_bytes F a xs e) E (steps.called e _ (write_call F a xs e) k) (λ w m. steps.freed w m)))
      h
    where
      a : ℕ
      a = d.store.at

      xs : List ℕ
      xs = take 4096 d.buf

      E : Dev → Out
      E w = out true (dev (freed w.store) w.chip w.buf)

      W : Dev → Out
      W e = and_then (write_bytes F a xs e) E

  -- ---- write

  reads_along : (a : ℕ) (d : Dev) → P d → P (reads F a d).dev
  unfolding reads
  reads_along a d h =
      let g = fetched F a d.store d.chip (take 4096 d.buf) in
      steps.buffer (g.room ++ drop 4096 d.buf) (dev g.store d.chip d.buf)
      (length_front d.buf g.room 4096 (fetched_length F a d.store d.chip (take 4096 d.buf)))
      (steps.called d _ (fetch_call F a (take 4096 d.buf) d) h)

  reads_fit : (a : ℕ) (d : Dev) → (reads F a d).ok ≡ true → (let r = (reads F a d).dev in a + min 4096 (length r.buf) ≤ length r.chip)
  unfolding reads
  reads_fit a d t =
      let room = take 4096 d.buf in
      let g = fetched F a d.store d.chip room in
      let l : length room ≡ min 4096 (length d.buf) = length-take 4096 d.buf in
      let m : length (g.room ++ drop 4096 d.buf) ≡ length d.buf = length_front d.buf g.room 4096 (fetched_length F a d.store d.chip room) in
      let h = fetch_fits F a room d t in
      omega arith

  loads_along : (a : ℕ) (d : Dev) → a < top → P d → P (loads F a d).dev
  unfolding loads
  loads_along a d l h =
      either_along P (holds d.store (base 4096 a)) (out true d) (and_then (flushes F d) S) h
      (then_along P (flushes F d) S (flushes_along d h)
      (λ f k. let m = reads_along (base 4096 a) f k in
      then_went P (reads F (base 4096 a) f) R m (λ t. steps.holding (base 4096 a) _ (omega arith) (omega arith) (reads_fit (base 4096 a) f t) m)))
    where
      R : Dev → Out
      R r = out true (dev (holding (base 4096 a) r.store) r.chip r.buf)

      S : Dev → Out
      S f = and_then (reads F (base 4096 a) f) R

  closes_along : (a : ℕ) (d : Dev) → P d → P (closes F a d).dev
  unfolding closes
  closes_along a d h = either_along P (eqb (a % 4096) 0) (flushes F d) (out true d) (flushes_along d h) h

  -- so does the fold of a write below `top`
  pub folds_along : (xs : List ℕ) (a : ℕ) (d : Dev) → a + length xs ≤ top → P d → P (writes 4096 (loads F) (closes F) xs (run true a d)).dev
  folds_along xs a d =
      writes_along 4096 (loads F) (closes F) P top loads_along closes_along (λ i x e. steps.buffer _ e (length-set e.buf i x)) xs (run true a d)

  -- so does a write
  pub written_along : (off : ℕ) (xs : List ℕ) (d : Dev) → d.store.shape.capacity ≤ top → P d → P (written F off xs d).dev
  unfolding written
  written_along off xs d t h = go (leb (off + length xs) d.store.shape.capacity) refl
    where
      go : (b : Bool) → leb (off + length xs) d.store.shape.capacity ≡ b
          → P (cond b (told 0 ((writes 4096 (loads F) (closes F) xs (run true off d)).at - off) (writes 4096 (loads F) (closes F) xs (run true off d)).dev) (told 0 0 d)).dev
      go true q = let l : off + length xs ≤ d.store.shape.capacity = leb-true (off + length xs) d.store.shape.capacity q in folds_along xs off d (omega arith) h
      go false q = h

  -- ---- erase

  erase_n_along : (k a : ℕ) (d : Dev) → P d → P (erase_n F k a d).dev
  unfolding erase_n
  erase_n_along zero a d h = h
  erase_n_along (suc k) a d h = then_along P (erase_sector F a d) (erase_n F k (a + 4096)) (steps.called d _ (erase_call F a d) h) (erase_n_along k (a + 4096))

  -- so does an erase
  pub erased_along : (start size : ℕ) (d : Dev) → P d → P (erased F start size d).dev
  unfolding erased
  erased_along start size d h =
      then_along P (flushes F d) S (flushes_along d h)
      (λ f k. either_along P (leb (sat_add start size) f.store.shape.capacity) (N f) (out false f) (erase_n_along _ (base 4096 start) f k) k)
    where
      N : Dev → Out
      N = erase_n F (pages_of 4096 (sat_add start size - base 4096 start)) (base 4096 start)

      S : Dev → Out
      S f = cond (leb (sat_add start size) f.store.shape.capacity) (N f) (out false f)

  -- ---- read

  seen_along : (b c : Bool) (e f : Dev) (n : ℕ) (r s : List ℕ) → P e → P f
      → P (cond b (cond c (seen (told 0 0 e) r) (seen (told 0 n f) s)) (seen (told 0 0 e) r)).told.dev
  seen_along true true e f n r s h k = h
  seen_along true false e f n r s h k = k
  seen_along false c e f n r s h k = h

  -- so does a read
  pub read_out_along : (off : ℕ) (room : List ℕ) (d : Dev) → P d → P (read_out F off room d).told.dev
  unfolding read_out
  read_out_along off room d h =
      let f = flushes F d in
      let n = min (length room) (f.dev.store.shape.capacity - off) in
      let g = fetched F off f.dev.store f.dev.chip (take n room) in
      let e = dev g.store f.dev.chip f.dev.buf in
      let k = flushes_along d h in
      seen_along f.ok (eqb n 0) f.dev e (cond g.ok n 0) room (g.room ++ drop n room) k (steps.called f.dev e (fetch_call F off (take n room) f.dev) k)
