-- A piece of a stream on the state's bytes, and which writes are one. What the storage is told of a piece is `stored_by` of engine_laws
-- (`stored_none`, `stored_there`), its store keeps its shape, so the numbers that were written are all that the record changes
-- (`piece_counted`), and the write of such bytes is that piece (`piece_told`, from `piece_goes`).
use mathlib.Core.Path.{◌≡◌, refl, sym, ap, ◌∙◌}
use Rattle.std.specs.Prelude.{Option, None, Some}
use mathlib.Core.Bool.{Bool, true, false, cond}
use mathlib.Core.List.{List, ◌++◌}
use Prim.Native.Nat.{ℕ, ◌+◌, ◌-◌, ◌≤◌, ◌<◌}
use native.Mathlib.Omega.{arith}
use Rattle.std.proofs.lemmas.Bool.{cond-true, and_parts}
use borrow.Author.Tests.{le-leb, ltb-true}
use lib.Dec.{ltb}
use lib.ListN.{length, get_or}
use Rattle.wire.specs.Bytes.{word_at}
use Rattle.wire.specs.Crc.{crc_update}
use Rattle.storage.specs.declared.types.Store.{Store}
use Rattle.storage.specs.World.{Lent, dev, Told, told}
use Rattle.storage.specs.Store.{good, writing}
use Rattle.engine.specs.World.{Given, World, world, out_of}
use Rattle.engine.specs.Stream.{UpFit, burn_by, fed_by}
use Rattle.engine.specs.Short.{alone_of}
use Rattle.engine.specs.Api.{fits, writes}
use Rattle.engine_laws.specs.Bounds.{in_bounds}
use Rattle.engine_laws.specs.Piece.{stored_by, fed_stored, stored_shape, piece_goes}
use Rattle.engine_laws.specs.Query as query
use Rattle.engine.specs.declared.types.Engine.{Engine}
use Rattle.lamjhotu.specs.State.{set_of, pack_over, shape_at, store_at, update_at, unpack_of, counted}
use Rattle.lamjhotu.specs.declared.quick.Way.{Way}
use Rattle.lamjhotu.specs.declared.quick.Way.TheVariants.{Query, Piece, Whole}
use Rattle.lamjhotu.specs.Calls.{kept, wrote, wrote_by, writes_in, Pieced, pieced, piece_by, piece_in, idle_of, way_by, way_of}
use Rattle.lamjhotu.proofs.Fronts.{word_front, unpack_front, kept_by}

-- ---- what the storage is told

module _ (l : Lent) (s d c b : List ℕ) {st : Store} {a : Bool} (e : st ≡ store_at s) (i : a ≡ set_of (get_or s 134 0)) where
  pub stored_none : a ≡ false → told 0 (length d) (dev st c b) ≡ stored_by l d (unpack_of s) c b
  unfolding stored_by unpack_of update_at
  stored_none h = rw (e, ← i, h)

  pub stored_there : {x y : ℕ} {t : Told} → a ≡ true → x ≡ word_at 8 s 32 → y ≡ word_at 8 s 40 → t ≡ writing l (x + y) d (dev st c b) → t ≡ stored_by l d (unpack_of s) c b
  unfolding stored_by unpack_of update_at
  stored_there h j k m = m ∙ rw (e, j, k, ← i, h)

-- ---- what is counted

module _ (l : Lent) (s d c b : List ℕ) {m k : ℕ} {st : Store} {v w : List ℕ} (h : told m k (dev st v w) ≡ stored_by l d (unpack_of s) c b) where
  pub stored_keeps : good l (dev (store_at s) c b) ≡ true → st.shape ≡ shape_at s
  unfolding unpack_of store_at
  stored_keeps g = ap (λ (t : Told). t.dev.store.shape) h ∙ stored_shape l d (unpack_of s) c b g

  counted_so : {old crc was burn y written left : ℕ} {t : List ℕ} → old ≡ word_at 4 s 112 → crc ≡ crc_update old d → was ≡ word_at 4 s 116
      → y ≡ k → burn ≡ burn_by was y (length d) → written ≡ word_at 8 s 40 → left ≡ word_at 8 s 48
      → t ≡ kept s (counted (written + length d) (left - length d) crc burn st (unpack_of s))
      → pieced t v w ≡ piece_by s d (stored_by l d (unpack_of s) c b)
  unfolding unpack_of update_at
  counted_so i j e g f n o p = rw (p, f, g, e, j, i, n, o) (ap (piece_by s d) h)

-- the same of all bytes that the record is the front of
module _ (l : Lent) (s d c b rest : List ℕ) {m k : ℕ} {st : Store} {v w : List ℕ} (h : told m k (dev st v w) ≡ stored_by l d (unpack_of s) c b) where
  pub piece_counted : {old crc was burn y written left : ℕ} {t : List ℕ} → length s ≡ 652 → length t ≡ 652 → old ≡ word_at 4 s 112 → crc ≡ crc_update old d → was ≡ word_at 4 s 116
      → y ≡ k → burn ≡ burn_by was y (length d) → written ≡ word_at 8 s 40 → left ≡ word_at 8 s 48
      → t ≡ pack_over s (counted (written + length d) (left - length d) crc burn st (unpack_of s))
      → pieced (t ++ rest) v w ≡ piece_by (s ++ rest) d (stored_by l d (unpack_of (s ++ rest)) c b)
  piece_counted {crc = crc} {burn = burn} {written = written} {left} x z i j e g f n o p =
      counted_so l (s ++ rest) d c b (h ∙ ap (λ (e : Engine). stored_by l d e c b) (sym (unpack_front s rest x)))
      (i ∙ sym (word_front s rest x 4 112 (omega arith))) j (e ∙ sym (word_front s rest x 4 116 (omega arith))) g f
      (n ∙ sym (word_front s rest x 8 40 (omega arith))) (o ∙ sym (word_front s rest x 8 48 (omega arith)))
      (kept_by s rest x (λ (e : Engine). counted (written + length d) (left - length d) crc burn st e) z p)

-- ---- which writes are pieces

module _ (s d : List ℕ) where
  -- some, and less than what is left
  pub in_says : piece_in s d ≡ true → (0 < length d) × (length d < word_at 8 s 48)
  unfolding piece_in
  in_says h =
      let k = and_parts (ltb 0 (length d)) (ltb (length d) (word_at 8 s 48)) h in
      (ltb-true 0 (length d) k.0, ltb-true (length d) (word_at 8 s 48) k.1)

  pub way_piece : {r : Bool} → r ≡ piece_in s d → r ≡ true → Piece ≡ way_of s d
  unfolding way_of
  way_piece i h = rw (← i, h)

  pub way_busy : {r t : Bool} → r ≡ piece_in s d → r ≡ false → t ≡ idle_of s → t ≡ false → Whole ≡ way_of s d
  unfolding way_of
  way_busy i h j k = rw (← i, h, ← j, k)

  pub way_alone : {r t : Bool} {x : Option ℕ} → r ≡ piece_in s d → r ≡ false → t ≡ idle_of s → t ≡ true → x ≡ alone_of d → way_by x ≡ way_of s d
  unfolding way_of
  way_alone i h j k m = rw (← i, h, ← j, k, ← m)

  -- and what it says of them
  pub is_piece : {r : Way} → r ≡ way_of s d → r ≡ Piece → piece_in s d ≡ true
  unfolding way_of
  is_piece i h = go (piece_in s d) (idle_of s) (alone_of d) (sym h ∙ i)
    where
      go : (p t : Bool) (x : Option ℕ) → Piece ≡ cond p Piece (cond t (way_by x) Whole) → p ≡ true
      go true t x e = refl
      go false true None e = absurd (let z : ◌≡◌ {A = ℕ} 0 1 = cc in omega arith)
      go false true (Some k) e = absurd (let z : ◌≡◌ {A = ℕ} 0 1 = cc in omega arith)
      go false false x e = absurd (let z : ◌≡◌ {A = ℕ} 0 1 = cc in omega arith)

  pub is_query_lem : {r : Way} {k : ℕ} → r ≡ way_of s d → r ≡ Query k → (idle_of s ≡ true) × (alone_of d ≡ Some k)
  unfolding way_of
  is_query_lem {k = k} i h = go (piece_in s d) (idle_of s) (alone_of d) (sym h ∙ i)
    where
      go : (p t : Bool) (x : Option ℕ) → Query k ≡ cond p Piece (cond t (way_by x) Whole) → (t ≡ true) × (x ≡ Some k)
      go true t x e = absurd (let z : ◌≡◌ {A = ℕ} 0 1 = cc in omega arith)
      go false true None e = absurd (let z : ◌≡◌ {A = ℕ} 0 1 = cc in omega arith)
      go false true (Some n) e = (refl, let z : n ≡ k = cc in ap Some z)
      go false false x e = absurd (let z : ◌≡◌ {A = ℕ} 0 1 = cc in omega arith)

-- a query alone is one header
pub sixteen : (d : List ℕ) (k : ℕ) → alone_of d ≡ Some k → length d ≡ 16
sixteen d k a = (query.asks k d a).sixteen

-- ---- the write

module _ (g : Given) (s q p c b x d : List ℕ) (f : fits g (world (unpack_of s) q p c b x) ≡ true) (i : piece_in s d ≡ true) where
  -- what a piece is asked for
  pub piece_fit : UpFit (update_at s) × (length d ≤ word_at 8 s 48) × (good g.lent (dev (store_at s) c b) ≡ true)
  unfolding unpack_of
  piece_fit =
      let k = in_bounds g (world (unpack_of s) q p c b x) f in
      (k.fit.mid.up, omega (arith, (in_says s d i).1), k.store)

  -- the write is the piece
  pub piece_told : {t v w z : List ℕ} → 652 ≤ length s → z ≡ s → pieced t v w ≡ piece_by z d (stored_by g.lent d (unpack_of z) c b)
      → wrote 0 t q p v w x ≡ writes_in g s q p c b x d
  unfolding writes_in unpack_of update_at
  piece_told l j r =
      let y : World = world (unpack_of s) q p c b x in
      let k = in_says s d i in
      let o : writes g y d ≡ out_of 0 (fed_by y d (stored_by g.lent d (unpack_of s) c b)) = piece_goes g y d f k.0 k.1 ∙ ap (out_of 0) (fed_stored g.lent d y) in
      ap (λ (z : Pieced). wrote 0 z.state q p z.chip z.buffer x) (r ∙ ap (λ (z : List ℕ). piece_by z d (stored_by g.lent d (unpack_of z) c b)) j)
      ∙ ap (wrote_by s) (sym o)
      ∙ sym (cond-true _ _ _ (le-leb 652 (length s) l))
