-- A storage call of either kind fails or comes up short only for a reason of its own. From a store in order, a flush succeeds, and an
-- erase, a write and a read of a range below the capacity and below the chip's end do so in full, or
--   one of the chip calls that this very call made has a number that is told to fail, or
--   the store is a NAND's, and a block is marked bad that this very call may have to erase.
-- Each call leaves the store in order, failed or not, and an opening gives one in order: so this holds of any calls after an opening
-- whose writes stay below the capacity and the chip's end. The rest are rules: a record or a part that the tests of every call do not
-- take is answered with 9 (storage/specs/Store.antt), a range that passes the capacity is refused or cut (`written`, `erased`,
-- `read_out` of storage/specs), and one that passes the chip's end meets chip calls out of range, which err.
use Rattle.std.specs.Prelude.{◌≡◌, refl, Bool, true, false, List, [], ◌∷◌, ◌⊎◌}
use Rattle.std.proofs.Common.{sym, ◌∙◌, le_refl, arith}
use Rattle.std.proofs.Math.Path.{ap}
use Rattle.std.proofs.Math.Logic.{inl, inr, ⊎_elim}
use Prim.Native.Nat.{ℕ, ◌+◌, ◌-◌, ◌≤◌, ◌<◌, min}
use Rattle.std.proofs.Math.ListN.{length}
use Rattle.text.specs.Token.{ascii}
use Rattle.storage.specs.declared.types.Kind.{Kind}
use Rattle.storage.specs.declared.types.Kind.TheVariants.{Nor, Nand}
use Rattle.storage.specs.declared.types.Shape.{Shape}
use Rattle.storage.specs.declared.types.Store.{Store}
use Rattle.std.specs.Prelude.{Ok}
use Rattle.storage.specs.World.{Lent, lent, Dev, dev, Out, Told, status_of, Seen}
use Rattle.storage.specs.Nor.{sat_add}
use Rattle.storage.specs.Nand.{blanks}
use Rattle.storage.specs.Partition.{Lists, lists, parts_of, parts, total, all, lists_ok}
use Rattle.storage.specs.Open.{one_of, page_ok, pages_ok, geometry_ok, chip_ok, numbers_ok, scratch_ok, nor_store, nand_store, opened_nor, opened_nand}
use Rattle.storage.specs.OpenExamples.{replay_opens}
use Rattle.storage.specs.Store.{good, flushing, erasing, writing, reading}
use Rattle.storage.proofs.Fold.{false_true}
use Rattle.storage.proofs.Opens.{sound, opened_nor_lem, opened_nor_sound, opened_nand_lem, opened_nand_sound}
use Rattle.nand_laws.specs.Made.{Failed}
use Rattle.nand_laws.specs.Within.{Bytes, page_of, Within, Inside, sound_within}
use Rattle.nand_laws.specs.Reasons as OfNand
use Rattle.nand_laws.specs.Fresh.{good_blank}
use Rattle.nand_laws.specs.Reasons.{Held, HeldOrTouched, Reason, error, no_reason, reason_wide, surely}
use Rattle.storage_laws.specs.Counted.{made_on}
use Rattle.storage_laws.specs.View.{Shows, view, flush_or_failed}
use Rattle.storage_laws.specs.Shown as Shown
use Rattle.storage_laws.specs.Stream.{write_or_failed}
use Rattle.storage_laws.specs.Whole.{read_or_failed, erase_or_failed}
use Rattle.storage_laws.specs.Bounds.{chosen, flushing_good, erasing_good, writing_good, reading_good, writing_told, reading_told}
use Rattle.storage_laws.specs.Calls.{flushing_made, erasing_made, writing_made, reading_made}

-- ---- what is asked of a store, and what is told of a call

-- a held sector or page lies within the chip, and a NAND's is of bytes
pub record Rests (d : Dev) : Type 0 where
  pub below : d.store.held ≡ true → d.store.at < length d.chip
  pub bytes : d.store.shape.kind ≡ Nand → d.store.held ≡ true → Bytes (page_of d)

-- a store in order: the tests of every call take it, the number of its next chip call is at most the largest, and what it holds lies
-- within the chip
pub record InOrder (l : Lent) (d : Dev) : Type 0 where
  pub taken : good l d ≡ true
  pub calls : d.store.calls ≤ 18446744073709551615
  pub rests : Rests d

-- the answer 0, with n bytes moved
abbrev pub Done : ℕ → Told → Type 0
Done n t = (t.status ≡ 0) × (t.count ≡ n)

-- why a call that goes from d to e did not do all that it was asked: one of its chip calls was told to fail or, on a NAND, one of the
-- blocks `Asks` is marked bad
abbrev pub Met : Lent → (ℕ → Type 0) → Dev → Dev → Type 0
Met l Asks d e = Reason l (λ (k : ℕ). (d.store.shape.kind ≡ Nand) × Asks k) d e

-- ---- the two kinds

pub nor_nand : {A : Type 0} {k : Kind} → k ≡ Nor → k ≡ Nand → A
nor_nand p q = absurd (let z : ◌≡◌ {A = ℕ} 0 1 = cc in omega arith)

-- what is told of a success
did : {b : Bool} → b ≡ true → (status_of b ≡ 0) × (◌≡◌ {A = ℕ} 0 0)
did t = (ap status_of t, refl)

module _ (l : Lent) (d : Dev) (o : InOrder l d) where
  shows : d.store.shape.kind ≡ Nor → Shows (view d) d.store.shape d
  shows q = Shown.good_shows l d o.taken q o.rests.below o.calls

  pub within : d.store.shape.kind ≡ Nand → Within l d
  within q = sound_within l d o.taken q o.rests.below (o.rests.bytes q)

  -- what a NOR did or met, and what a NAND did or met
  nor_met : {A B : Type 0} {Asks : ℕ → Type 0} {e : Dev} → (A → B) → A ⊎ Failed l.faults d e → B ⊎ Met l Asks d e
  nor_met f = ⊎_elim (λ a. inl (f a)) (λ x. inr (error x))

  nand_met : {A B : Type 0} {Asks : ℕ → Type 0} {e : Dev} → d.store.shape.kind ≡ Nand → (A → B) → A ⊎ Reason l Asks d e → B ⊎ Met l Asks d e
  nand_met q f = ⊎_elim (λ a. inl (f a)) (λ x. inr (reason_wide (le_refl _) (le_refl _) (λ k a. (q, a)) x))

  -- ---- each call does all that it is asked, or it met a reason

  -- a flush succeeds, or one of its chip calls was told to fail, or the held page's block is marked bad
  pub flushing_or_met : Done 0 (flushing l d) ⊎ Met l (Held d) d (flushing l d).dev
  unfolding flushing
  flushing_or_met =
      chosen l d o.taken (λ (t : Told). Done 0 t ⊎ Met l (Held d) d t.dev) _ _ _
      (λ q. nor_met (λ w. did (ap (λ (x : Out). x.ok) w.1)) (flush_or_failed l.faults (view d) d.store.shape d (shows q)))
      (λ q. nand_met q did (OfNand.flushed_or_reason l d (within q) o.calls))

  -- an erase of a range below the capacity and below the chip's end succeeds, or one of its chip calls was told to fail, or the held
  -- page's block or one that the range touches is marked bad
  pub erasing_or_met : (start size : ℕ) → Inside d start size
      → Done 0 (erasing l start size d) ⊎ Met l (HeldOrTouched d start size) d (erasing l start size d).dev
  unfolding erasing good
  erasing_or_met start size i =
      let c = (sound d.store (length d.chip) (length l.marks) (length d.buf) o.taken).capacity_most in
      let e : sat_add start size ≡ start + size = omega (arith, i.low) in
      chosen l d o.taken (λ (t : Told). Done 0 t ⊎ Met l (HeldOrTouched d start size) d t.dev) _ _ _
      (λ q. nor_met (λ w. did (ap (λ (x : Out). x.ok) w.1))
      (erase_or_failed l.faults (view d) d.store.shape start size d (shows q) (omega arith) (omega (arith, i.low)) (omega (arith, i.short, (shows q).long))))
      (λ q. nand_met q did (OfNand.erase_or_reason l d (within q) o.calls start size i))

  -- a write of bytes below the capacity and below the chip's end takes them all, or one of its chip calls was told to fail, or the held
  -- page's block or one that the bytes touch is marked bad
  pub writing_or_met : (off : ℕ) (xs : List ℕ) → Inside d off (length xs) → Bytes xs
      → Done (length xs) (writing l off xs d) ⊎ Met l (HeldOrTouched d off (length xs)) d (writing l off xs d).dev
  unfolding writing
  writing_or_met off xs i b = ⊎_elim (λ n. inl (writing_told l d o.taken off xs, n)) inr whole
    where
      whole : ((writing l off xs d).count ≡ length xs) ⊎ Met l (HeldOrTouched d off (length xs)) d (writing l off xs d).dev
      whole =
          chosen l d o.taken (λ (t : Told). (t.count ≡ length xs) ⊎ Met l (HeldOrTouched d off (length xs)) d t.dev) _ _ _
          (λ q. nor_met (λ w. ap (λ (t : Told). t.count) w.1)
          (write_or_failed l.faults xs (view d) d.store.shape off d (shows q) (omega (arith, i.short, (shows q).long)) i.low))
          (λ q. nand_met q (λ n. n) (OfNand.write_or_reason l d (within q) o.calls off xs i b))

  -- a read below the capacity and below the chip's end fills all of its room, or one of its chip calls was told to fail, or the held
  -- page's block is marked bad
  pub reading_or_met : (off : ℕ) (room : List ℕ) → Inside d off (length room)
      → Done (length room) (reading l off room d).told ⊎ Met l (Held d) d (reading l off room d).told.dev
  unfolding reading
  reading_or_met off room i = ⊎_elim (λ n. inl (reading_told l d o.taken off room, n)) inr whole
    where
      n : min (length room) (d.store.shape.capacity - off) ≡ length room
      n = omega (arith, i.low)

      whole : ((reading l off room d).told.count ≡ length room) ⊎ Met l (Held d) d (reading l off room d).told.dev
      whole =
          chosen l d o.taken (λ (s : Seen). (s.told.count ≡ length room) ⊎ Met l (Held d) d s.told.dev) _ _ _
          (λ q. nor_met (λ w. ap (λ (s : Seen). s.told.count) w.1 ∙ n)
          (read_or_failed l.faults (view d) d.store.shape off room d (shows q) (omega (arith, i.short, (shows q).long))))
          (λ q. nand_met q (λ m. m) (OfNand.read_or_reason l d (within q) o.calls off room i))

  -- ---- each call leaves the store in order

  nor_rests : d.store.shape.kind ≡ Nor → (e : Dev) → Shows (view e) d.store.shape e → Rests e
  nor_rests q e s = record { below = λ h. omega (arith, (s.on h).1); bytes = λ k. nor_nand (ap (λ (x : Shape). x.kind) s.fixed ∙ q) k }

  nand_rests : (e : Dev) → Within l e → Rests e
  nand_rests e w = record { below = w.below; bytes = λ k. w.bytes }

  -- after a flush
  pub flushing_order : InOrder l (flushing l d).dev
  unfolding flushing
  flushing_order = record { taken = flushing_good l d o.taken; calls = (made_on o.calls (flushing_made l d).1).1; rests = after }
    where
      after : Rests (flushing l d).dev
      after =
          chosen l d o.taken (λ (t : Told). Rests t.dev) _ _ _ (λ q. nor_rests q _ (Shown.flushes_shown l.faults (view d) d.store.shape d (shows q)))
          (λ q. nand_rests _ (OfNand.flushed_within l d (within q)))

  -- after an erase
  pub erasing_order : (start size : ℕ) → InOrder l (erasing l start size d).dev
  unfolding erasing
  erasing_order start size = record { taken = erasing_good l d o.taken start size; calls = (made_on o.calls (erasing_made l d start size).1).1; rests = after }
    where
      after : Rests (erasing l start size d).dev
      after =
          chosen l d o.taken (λ (t : Told). Rests t.dev) _ _ _ (λ q. nor_rests q _ (Shown.erased_shown l.faults (view d) d.store.shape d (shows q) start size))
          (λ q. nand_rests _ (OfNand.erase_within l d (within q) start size))

  -- after a write of bytes below the capacity and below the chip's end
  pub writing_order : (off : ℕ) (xs : List ℕ) → Inside d off (length xs) → Bytes xs → InOrder l (writing l off xs d).dev
  unfolding writing
  writing_order off xs i b = record { taken = writing_good l d o.taken off xs; calls = (made_on o.calls (writing_made l d off xs).1).1; rests = after }
    where
      after : Rests (writing l off xs d).dev
      after =
          chosen l d o.taken (λ (t : Told). Rests t.dev) _ _ _ (λ q. nor_rests q _ (Shown.written_shown l.faults (view d) d.store.shape d (shows q) off xs))
          (λ q. nand_rests _ (OfNand.write_within l d (within q) off xs i b))

  -- after a read
  pub reading_order : (off : ℕ) (room : List ℕ) → InOrder l (reading l off room d).told.dev
  unfolding reading
  reading_order off room = record { taken = reading_good l d o.taken off room; calls = (made_on o.calls (reading_made l d off room).1).1; rests = after }
    where
      after : Rests (reading l off room d).told.dev
      after =
          chosen l d o.taken (λ (s : Seen). Rests s.told.dev) _ _ _ (λ q. nor_rests q _ (Shown.read_out_shown l.faults (view d) d.store.shape d (shows q) off room))
          (λ q. nand_rests _ (OfNand.read_within l d (within q) off room))

-- ---- an opening gives a store in order

-- one that the tests take, that holds nothing and has made no call
fresh_order : (l : Lent) (d : Dev) → good l d ≡ true → d.store.held ≡ false → d.store.calls ≡ 0 → InOrder l d
fresh_order l d g h n = record { taken = g; calls = omega arith; rests = record { below = λ t. false_true (sym h ∙ t); bytes = λ k t. false_true (sym h ∙ t) } }

-- a NOR that is opened over a chip and a buffer
pub nor_opening_lem : (l : Lent) (chip buf : List ℕ) (table : Lists) (base scratch stage device : ℕ) (s : Store)
    → opened_nor (length chip) (length buf) table base scratch stage device ≡ Ok s → InOrder l (dev s chip buf)
unfolding good
nor_opening_lem l chip buf table base scratch stage device s e =
    let q = (opened_nor_lem (length chip) (length buf) table base scratch stage device s e).store in
    fresh_order l (dev s chip buf) (opened_nor_sound (length chip) (length buf) table base scratch stage device s (length l.marks) e)
    (ap (λ (x : Store). x.held) q) (ap (λ (x : Store). x.calls) q)

-- a NAND that is opened over a chip and its marks, with a buffer that later calls take
pub nand_opening_lem : (l : Lent) (chip buf : List ℕ) (page pages blocks capacity : ℕ) (table : Lists) (base scratch stage device : ℕ) (s : Store) → 4096 ≤ length buf
    → opened_nand (length chip) page pages blocks (length l.marks) capacity table base scratch stage device ≡ Ok s → InOrder l (dev s chip buf)
unfolding good
nand_opening_lem l chip buf page pages blocks capacity table base scratch stage device s h e =
    let q = (opened_nand_lem (length chip) page pages blocks (length l.marks) capacity table base scratch stage device s e).store in
    fresh_order l (dev s chip buf) (opened_nand_sound (length chip) page pages blocks (length l.marks) capacity table base scratch stage device s (length buf) h e)
    (ap (λ (x : Store). x.held) q) (ap (λ (x : Store). x.calls) q)

-- the opening of 01's replay program, for one
pub example_nor : (l : Lent) (chip buf : List ℕ) → length chip ≡ 32768 → length buf ≡ 4096 → InOrder l (dev (nor_store 32768 16384 0 0) chip buf)
example_nor l chip buf c b =
    nor_opening_lem l chip buf (lists (8192 ∷ []) (8192 ∷ []) (3 ∷ []) (ascii "app")) 0x40000000 4096 0 0 (nor_store 32768 16384 0 0) (rw (c, b) replay_opens)

-- and two blocks of sixteen pages of 2,048 bytes, with no partition
pub example_nand : (l : Lent) (chip buf : List ℕ) → length l.marks ≡ 2 → length chip ≡ 65536 → 4096 ≤ length buf
    → InOrder l (dev (nand_store 2048 16 2 65536 0 0) chip buf)
unfolding opened_nand numbers_ok geometry_ok page_ok pages_ok one_of chip_ok lists_ok parts parts_of total all scratch_ok
example_nand l chip buf m c b = nand_opening_lem l chip buf 2048 16 2 65536 (lists [] [] [] []) 0 0 0 0 (nand_store 2048 16 2 65536 0 0) b (rw (m, c))

-- so on a chip where nothing is wrong, the replay program's first write into its partition takes every byte
pub example_write : (chip buf xs : List ℕ) → length chip ≡ 32768 → length buf ≡ 4096 → length xs ≤ 8192 → Bytes xs
    → Done (length xs) (writing (lent [] (blanks 0)) 8192 xs (dev (nor_store 32768 16384 0 0) chip buf))
example_write chip buf xs c b h x =
    let l = lent [] (blanks 0) in
    let d = dev (nor_store 32768 16384 0 0) chip buf in
    surely (no_reason (good_blank 0)) (writing_or_met l d (example_nor l chip buf c b) 8192 xs (record { low = omega arith; short = omega arith }) x)
