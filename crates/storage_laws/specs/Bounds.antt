-- In bounds for ever (01, row 9): a call from a record in bounds, with parts that fit it, leaves such a record and such parts, and
-- never answers 9. So after an accepted opening no storage call meets a 9, given the same lent marks.
use Rattle.std.specs.Prelude.{◌≡◌, refl, Bool, true, false, ◌&&◌, cond, List, ◌++◌, ℕ, zero, suc, ◌+◌, ◌-◌, ◌%◌, ◌≤◌, ◌<◌, min, eqb, leb, length, take, drop}
use Rattle.std.proofs.Common.{sym, ap, ◌∙◌, arith}
use Rattle.storage.specs.declared.types.Kind.{Kind}
use Rattle.storage.specs.declared.types.Kind.TheVariants.{Nor, Nand}
use Rattle.storage.specs.declared.types.Shape.{Shape}
use Rattle.storage.specs.World.{Lent, Dev, Told, told, status_of, Seen, seen}
use Rattle.storage.specs.Nor as NorOf
use Rattle.storage.specs.Nor.{pages_of, sat_add}
use Rattle.storage.specs.Nand as NandOf
use Rattle.storage.specs.Open.{by_kind, unit_of, in_bounds, parts_fit}
use Rattle.storage.specs.Store.{good, by_good, flushing, erasing, writing, reading}
use Rattle.storage.specs.Scratch.{plus, out_k, in_k, part, from_scratch, into_scratch}
use Rattle.storage.proofs.Opens.{Sound, sound, bounds_kept, parts_kept}
use Rattle.nand_laws.specs.Kept as NandKept
use Rattle.storage_laws.specs.Kept as NorKept

split : (x y : Bool) → x && y ≡ true → (x ≡ true) × (y ≡ true)
split true y e = (refl, e)
split false y e = absurd (let z : ◌≡◌ {A = ℕ} 0 1 = cc in omega arith)

module _ (l : Lent) (d : Dev) (g : good l d ≡ true) where
  facts : Sound d.store (length d.chip) (length l.marks) (length d.buf)
  unfolding good
  facts = sound d.store (length d.chip) (length l.marks) (length d.buf) g

  -- what keeps the shape, the sizes and the held place keeps the tests
  after : (e : Dev) → e.store.shape ≡ d.store.shape → length e.chip ≡ length d.chip → length e.buf ≡ length d.buf
      → (e.store.held ≡ true → (e.store.at % unit_of d.store ≡ 0) × (e.store.at < d.store.shape.capacity)) → good l e ≡ true
  unfolding good
  after e k c b f =
      let p = split (in_bounds d.store) (parts_fit d.store (length d.chip) (length l.marks) (length d.buf)) g in
      rw (c, b, parts_kept d.store e.store k (length d.chip) (length l.marks) (length d.buf), bounds_kept d.store e.store k f p.0) p.1

  nor_after : d.store.shape.kind ≡ Nor → (e : Dev) → NorKept.Kept d e → good l e ≡ true
  nor_after q e k =
      let u : unit_of d.store ≡ 4096 = ap (λ (x : Kind). by_kind x 4096 d.store.shape.page) q in
      let c : e.store.shape.capacity ≡ d.store.shape.capacity = ap (λ (x : Shape). x.capacity) k.shape in
      after e k.shape k.chip k.buf
      (λ h. let x = k.on (λ i. (ap (λ (n : ℕ). d.store.at % n) (sym u) ∙ facts.held_start i, facts.held_below i)) h in (ap (λ (n : ℕ). e.store.at % n) u ∙ x.0, omega (arith, x.1)))

  nand_after : d.store.shape.kind ≡ Nand → (e : Dev) → NandKept.Kept d e → good l e ≡ true
  nand_after q e k =
      let u : unit_of d.store ≡ d.store.shape.page = ap (λ (x : Kind). by_kind x 4096 d.store.shape.page) q in
      let c : e.store.shape.capacity ≡ d.store.shape.capacity = ap (λ (x : Shape). x.capacity) k.shape in
      let p : e.store.shape.page ≡ d.store.shape.page = ap (λ (x : Shape). x.page) k.shape in
      after e k.shape k.chip k.buf
      (λ h. let x = k.on (λ i. (ap (λ (n : ℕ). d.store.at % n) (sym u) ∙ facts.held_start i, facts.held_below i)) h in (ap (λ (n : ℕ). e.store.at % n) (u ∙ sym p) ∙ x.0, omega (arith, x.1)))

  -- a page has room in the buffer
  pub page_fits : d.store.shape.kind ≡ Nand → d.store.shape.page ≤ length d.buf
  page_fits q = omega (arith, (facts.nand q).numbers.page_high, facts.room)

  -- ---- the calls of a kind, one by one

  -- the answer of a call is that of the store's kind
  pub chosen : {A : Type 0} (P : A → Type 0) (x y z : A) → (d.store.shape.kind ≡ Nor → P x) → (d.store.shape.kind ≡ Nand → P y) → P (by_good l d x y z)
  unfolding by_good
  chosen {A} P x y z a b = rw g (go d.store.shape.kind refl)
    where
      go : (k : Kind) → d.store.shape.kind ≡ k → P (by_kind k x y)
      go Nor q = a q
      go Nand q = b q

  -- a flush leaves a record in bounds, with parts that fit it
  pub flushing_good : good l (flushing l d).dev ≡ true
  unfolding flushing
  flushing_good =
      chosen (λ (t : Told). good l t.dev ≡ true) _ _ _ (λ q. nor_after q (NorOf.flushes l.faults d).dev (NorKept.flushes_kept l.faults d))
      (λ q. nand_after q (NandOf.flushed l d).dev (NandKept.flushed_kept l d))

  -- so does an erase
  pub erasing_good : (start size : ℕ) → good l (erasing l start size d).dev ≡ true
  unfolding erasing
  erasing_good start size =
      chosen (λ (t : Told). good l t.dev ≡ true) _ _ _ (λ q. nor_after q (NorOf.erased l.faults start size d).dev (NorKept.erased_kept l.faults start size d))
      (λ q. nand_after q (NandOf.erased l start size d).dev (NandKept.erased_kept l d start size))

  -- so does a write
  pub writing_good : (off : ℕ) (xs : List ℕ) → good l (writing l off xs d).dev ≡ true
  unfolding writing
  writing_good off xs =
      chosen (λ (t : Told). good l t.dev ≡ true) _ _ _ (λ q. nor_after q (NorOf.written l.faults off xs d).dev (NorKept.written_kept l.faults off xs d))
      (λ q. nand_after q (NandOf.written l off xs d).dev (NandKept.written_kept l d (page_fits q) off xs))

  -- so does a read
  pub reading_good : (off : ℕ) (room : List ℕ) → good l (reading l off room d).told.dev ≡ true
  unfolding reading
  reading_good off room =
      chosen (λ (s : Seen). good l s.told.dev ≡ true) _ _ _ (λ q. nor_after q (NorOf.read_out l.faults off room d).told.dev (NorKept.read_out_kept l.faults off room d))
      (λ q. nand_after q (NandOf.read_out l off room d).told.dev (NandKept.read_out_kept l d off room))

  -- a write keeps what an opening fixed
  pub writing_shape : (off : ℕ) (xs : List ℕ) → (writing l off xs d).dev.store.shape ≡ d.store.shape
  unfolding writing
  writing_shape off xs =
      chosen (λ (t : Told). t.dev.store.shape ≡ d.store.shape) _ _ _ (λ q. (NorKept.written_kept l.faults off xs d).shape)
      (λ q. (NandKept.written_kept l d (page_fits q) off xs).shape)

-- ---- moves of scratch

-- what holds of either holds of the one that a test picks
pub either : {A : Type 0} (P : A → Type 0) (b : Bool) (x y : A) → P x → P y → P (cond b x y)
either P true x y p q = p
either P false x y p q = q

-- pieces out of scratch leave such a record
pub out_good : (k : ℕ) (l : Lent) (off : ℕ) (xs : List ℕ) (d : Dev) → good l d ≡ true → good l (out_k k l off xs d).dev ≡ true
unfolding out_k
out_good zero l off xs d g = g
out_good (suc k) l off xs d g =
    let t = writing l off (take 256 xs) d in
    let h = writing_good l d g off (take 256 xs) in
    either (λ (u : Told). good l u.dev ≡ true) (eqb t.count (length (take 256 xs)))
    (plus t.count (out_k k l (sat_add off t.count) (drop 256 xs) t.dev)) (told 0 t.count t.dev)
    (out_good k l (sat_add off t.count) (drop 256 xs) t.dev h) h

-- pieces into scratch do
pub in_good : (k : ℕ) (l : Lent) (off : ℕ) (room : List ℕ) (d : Dev) → good l d ≡ true → good l (in_k k l off room d).told.dev ≡ true
unfolding in_k
in_good zero l off room d g = g
in_good (suc k) l off room d g =
    let s = reading l off (take 256 room) d in
    let t = s.told in
    let h = reading_good l d g off (take 256 room) in
    let r = in_k k l (sat_add off t.count) (drop 256 room) t.dev in
    either (λ (u : Seen). good l u.told.dev ≡ true) (eqb t.count (length (take 256 room)))
    (seen (plus t.count r.told) (s.room ++ r.room)) (seen (told 0 t.count t.dev) (s.room ++ drop 256 room))
    (in_good k l (sat_add off t.count) (drop 256 room) t.dev h) h

module _ (l : Lent) (d : Dev) (g : good l d ≡ true) (off at n : ℕ) (scratch : List ℕ) where
  -- a move out of scratch leaves such a record
  pub from_good : good l (from_scratch l off at n scratch d).dev ≡ true
  unfolding from_scratch
  from_good =
      either (λ (t : Told). good l t.dev ≡ true) (good l d) (out_k (pages_of 256 (length (part scratch at n))) l off (part scratch at n) d) (told 9 0 d)
      (out_good (pages_of 256 (length (part scratch at n))) l off (part scratch at n) d g) g

  -- so does a move into scratch
  pub into_good : good l (into_scratch l off at n scratch d).told.dev ≡ true
  unfolding into_scratch
  into_good = rw g (in_good (pages_of 256 (length (part scratch at n))) l off (part scratch at n) d g)

-- ---- no call answers 9

status_small : (b : Bool) → status_of b ≡ 9 → ⊥
status_small true e = omega arith
status_small false e = omega arith

abbrev Zero : Told → Type 0
Zero t = t.status ≡ 0

nor_write_status : (F : List ℕ) (off : ℕ) (xs : List ℕ) (d : Dev) → Zero (NorOf.written F off xs d)
unfolding NorOf.written
nor_write_status F off xs d = either Zero (leb (off + length xs) d.store.shape.capacity) _ _ refl refl

nand_write_status : (l : Lent) (off : ℕ) (xs : List ℕ) (d : Dev) → Zero (NandOf.written l off xs d)
unfolding NandOf.written
nand_write_status l off xs d = either Zero (leb (off + length xs) d.store.shape.capacity) _ _ refl refl

-- what a read tells after its flush
read_status : (b c : Bool) (n : ℕ) (e f : Dev) (r s : List ℕ) → Zero (cond b (cond c (seen (told 0 0 e) r) (seen (told 0 n f) s)) (seen (told 0 0 e) r)).told
read_status true true n e f r s = refl
read_status true false n e f r s = refl
read_status false c n e f r s = refl

nor_read_status : (F : List ℕ) (off : ℕ) (room : List ℕ) (d : Dev) → Zero (NorOf.read_out F off room d).told
unfolding NorOf.read_out
nor_read_status F off room d =
    let f = NorOf.flushes F d in
    let n = min (length room) (f.dev.store.shape.capacity - off) in
    read_status f.ok (eqb n 0) _ f.dev _ room _

nand_read_status : (l : Lent) (off : ℕ) (room : List ℕ) (d : Dev) → Zero (NandOf.read_out l off room d).told
unfolding NandOf.read_out
nand_read_status l off room d =
    let f = NandOf.flushes l d in
    let n = min (length room) (f.dev.store.shape.capacity - off) in
    read_status f.ok (eqb n 0) _ f.dev _ room _

out_status : (k : ℕ) (l : Lent) (off : ℕ) (xs : List ℕ) (d : Dev) → Zero (out_k k l off xs d)
unfolding out_k
out_status zero l off xs d = refl
out_status (suc k) l off xs d = either Zero (eqb (writing l off (take 256 xs) d).count (length (take 256 xs))) _ _ refl refl

in_status : (k : ℕ) (l : Lent) (off : ℕ) (room : List ℕ) (d : Dev) → Zero (in_k k l off room d).told
unfolding in_k
in_status zero l off room d = refl
in_status (suc k) l off room d = either (λ (s : Seen). Zero s.told) (eqb (reading l off (take 256 room) d).told.count (length (take 256 room))) _ _ refl refl

module _ (l : Lent) (d : Dev) (g : good l d ≡ true) where
  -- a flush is not refused
  pub flushing_told : (flushing l d).status ≡ 9 → ⊥
  unfolding flushing
  flushing_told =
      chosen l d g (λ (t : Told). t.status ≡ 9 → ⊥) _ _ _ (λ q. status_small (NorOf.flushes l.faults d).ok) (λ q. status_small (NandOf.flushed l d).ok)

  -- nor an erase
  pub erasing_told : (start size : ℕ) → (erasing l start size d).status ≡ 9 → ⊥
  unfolding erasing
  erasing_told start size =
      chosen l d g (λ (t : Told). t.status ≡ 9 → ⊥) _ _ _ (λ q. status_small (NorOf.erased l.faults start size d).ok)
      (λ q. status_small (NandOf.erased l start size d).ok)

  -- a write answers 0, and its count says what it did
  pub writing_told : (off : ℕ) (xs : List ℕ) → (writing l off xs d).status ≡ 0
  unfolding writing
  writing_told off xs = chosen l d g Zero _ _ _ (λ q. nor_write_status l.faults off xs d) (λ q. nand_write_status l off xs d)

  -- so does a read
  pub reading_told : (off : ℕ) (room : List ℕ) → (reading l off room d).told.status ≡ 0
  unfolding reading
  reading_told off room = chosen l d g (λ (s : Seen). Zero s.told) _ _ _ (λ q. nor_read_status l.faults off room d) (λ q. nand_read_status l off room d)

  -- so does a move out of scratch
  pub from_told : (off at n : ℕ) (scratch : List ℕ) → (from_scratch l off at n scratch d).status ≡ 0
  unfolding from_scratch
  from_told off at n scratch = rw g (out_status (pages_of 256 (length (part scratch at n))) l off (part scratch at n) d)

  -- so does a move into scratch
  pub into_told : (off at n : ℕ) (scratch : List ℕ) → (into_scratch l off at n scratch d).told.status ≡ 0
  unfolding into_scratch
  into_told off at n scratch = rw g (in_status (pages_of 256 (length (part scratch at n))) l off (part scratch at n) d)
