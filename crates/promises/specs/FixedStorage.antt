-- Any two outcomes that a contract of the storage admits are equal (Fixed.antt has the argument): each geometry and each partition list
-- gets a fixed answer, and so does each storage call, with the status, the count, the store's record and every byte of the chip, the buffer
-- and the room. Each statement is in the words of its function's `ensures`, in the order of src/. A slice that a call cannot change
-- stands on both sides of its equation as it was.
use Rattle.std.specs.Prelude.{◌≡◌, Bool, cond, ◌&&◌, List, ℕ, eqb, length, replicate, Option, Result, Ok, Err}
use Rattle.std.proofs.Common.{refl, sym, ap, ap₂, ◌∙◌}
use Rattle.storage.specs.World.{Lent, dev, Told, told, Seen, seen, call_number, status_in, count_in}
use Rattle.storage.specs.Open.{refusal_number, geometry_ok, shift_of, scratch_ok, opened_nor, opened_nand, in_bounds, parts_fit, nor_fits, is_nand, block_size_of}
use Rattle.storage.specs.Partition.{Lists, Part, parts, lists_ok, end_of, lookup}
use Rattle.storage.specs.Store.{flushing, erasing, writing, reading}
use Rattle.storage.specs.Scratch.{from_scratch, into_scratch}
use Rattle.storage.specs.declared.types.Refusal.{Refusal}
use Rattle.storage.specs.declared.types.CallError.{CallError}
use Rattle.storage.specs.declared.types.CallError.TheVariants.{Failed, Refused}
use Rattle.storage.specs.declared.types.Store.{Store}
use Rattle.promises.specs.Fixed.{meet, Fixes, fixed}

-- ---- chip

-- `chip::fill`: what it leaves in the slice
pub fill_fixed : (s : List ℕ) (v : ℕ) → Fixes (List ℕ) (λ left. left ≡ replicate (length s) v)
fill_fixed s v = fixed _

-- ---- open

-- `open::geometry_ok`
pub geometry_ok_fixed : (page pages blocks : ℕ) → Fixes Bool (λ r. r ≡ geometry_ok page pages blocks)
geometry_ok_fixed page pages blocks = fixed _

-- `open::page_shift`
pub page_shift_fixed : (page : ℕ) → Fixes ℕ (λ r. r ≡ shift_of page)
page_shift_fixed page = fixed _

-- `open::scratch_ok`
pub scratch_ok_fixed : (base n : ℕ) → Fixes Bool (λ r. r ≡ scratch_ok base n)
scratch_ok_fixed base n = fixed _

-- `Store::open_nor`
pub open_nor_fixed : (chip buffer : List ℕ) (l : Lists) (base : ℕ) (scratch : List ℕ) (stage device : ℕ)
    → Fixes (Result Store Refusal) (λ r. r ≡ opened_nor (length chip) (length buffer) l base (length scratch) stage device)
open_nor_fixed chip buffer l base scratch stage device = fixed _

-- `Store::open_nand`
pub open_nand_fixed : (chip : List ℕ) (page pages blocks : ℕ) (marks : List ℕ) (capacity : ℕ) (l : Lists) (base : ℕ) (scratch : List ℕ) (stage device : ℕ)
    → Fixes (Result Store Refusal) (λ r. r ≡ opened_nand (length chip) page pages blocks (length marks) capacity l base (length scratch) stage device)
open_nand_fixed chip page pages blocks marks capacity l base scratch stage device = fixed _

-- `Store::fits`
pub fits_fixed : (s : Store) (chip marks buffer : ℕ) → Fixes Bool (λ r. r ≡ (in_bounds s && parts_fit s chip marks buffer))
fits_fixed s chip marks buffer = fixed _

-- `open::nor_fits`
pub nor_fits_fixed : (capacity : ℕ) (held : Bool) (at chip buffer : ℕ) → Fixes Bool (λ r. r ≡ nor_fits capacity held at chip buffer)
nor_fits_fixed capacity held at chip buffer = fixed _

-- `Store::is_nand`
pub is_nand_fixed : (s : Store) → Fixes Bool (λ r. r ≡ is_nand s)
is_nand_fixed s = fixed _

-- `Store::block_size`
pub block_size_fixed : (s : Store) → Fixes ℕ (λ r. r ≡ block_size_of s)
block_size_fixed s = fixed _

-- `Store::capacity`
pub capacity_fixed : (s : Store) → Fixes ℕ (λ r. r ≡ s.shape.capacity)
capacity_fixed s = fixed _

-- `Store::boot_stage`
pub boot_stage_fixed : (s : Store) → Fixes ℕ (λ r. r ≡ s.shape.stage)
boot_stage_fixed s = fixed _

-- `Store::device_id`
pub device_id_fixed : (s : Store) → Fixes ℕ (λ r. r ≡ s.shape.device)
device_id_fixed s = fixed _

-- ---- partition

-- `Partitions::iter`: an iterator, by all that it yields
pub iter_fixed : (l : Lists) → Fixes (List Part) (λ left. left ≡ parts l)
iter_fixed l = fixed _

-- `Partitions::fit`
pub lists_ok_fixed : (l : Lists) → Fixes Bool (λ r. r ≡ lists_ok l)
lists_ok_fixed l = fixed _

-- `Partitions::end`
pub table_end_fixed : (l : Lists) → Fixes ℕ (λ r. r ≡ end_of l)
table_end_fixed l = fixed _

-- `Partitions::lookup`
pub lookup_fixed : (l : Lists) (name : List ℕ) → Fixes (Result (Option ℕ) CallError) (λ r. r ≡ lookup l name)
lookup_fixed l name = fixed _

-- ---- the numbers of errors

-- `CallError::number`
pub call_number_fixed : (e : CallError) → Fixes ℕ (λ r. r ≡ call_number e)
call_number_fixed e = fixed _

-- `status_number`
pub status_number_fixed : (ended : Result (Unit {0}) CallError) → Fixes ℕ (λ r. r ≡ status_in ended)
status_number_fixed ended = fixed _

-- `Refusal::number`
pub refusal_number_fixed : (e : Refusal) → Fixes ℕ (λ r. r ≡ refusal_number e)
refusal_number_fixed e = fixed _

-- ---- the calls: what is told has the whole answer in it

-- the error by its number
abbrev pub error_of : ℕ → CallError
error_of n = cond (eqb n 1) Failed Refused

-- the answer by its status, and by status and count
abbrev ended_of : ℕ → Result (Unit {0}) CallError
ended_of n = cond (eqb n 0) (Ok tt) (Err (error_of n))

abbrev moved_of : ℕ → ℕ → Result ℕ CallError
moved_of n count = cond (eqb n 0) (Ok count) (Err (error_of n))

ended_back : (r : Result (Unit {0}) CallError) → ended_of (status_in r) ≡ r
ended_back (Ok u) = refl
ended_back (Err Failed) = refl
ended_back (Err Refused) = refl

moved_back : (r : Result ℕ CallError) → moved_of (status_in r) (count_in r) ≡ r
moved_back (Ok n) = refl
moved_back (Err Failed) = refl
moved_back (Err Refused) = refl

-- so two that tell the same are the same
pub ended_same : (r r' : Result (Unit {0}) CallError) → status_in r ≡ status_in r' → r ≡ r'
ended_same r r' e = sym (ended_back r) ∙ ap ended_of e ∙ ended_back r'

moved_same : (r r' : Result ℕ CallError) → status_in r ≡ status_in r' → count_in r ≡ count_in r' → r ≡ r'
moved_same r r' e i = sym (moved_back r) ∙ ap₂ moved_of e i ∙ moved_back r'

-- an answer with the store, the chip and the buffer, as the contracts tell it: of a call that moves nothing, and of one that counts
abbrev ends : Result (Unit {0}) CallError → Store → List ℕ → List ℕ → Told
ends r t c b = told (status_in r) 0 (dev t c b)

abbrev tells : Result ℕ CallError → Store → List ℕ → List ℕ → Told
tells r t c b = told (status_in r) (count_in r) (dev t c b)

-- s, c and b are the store, the chip and the buffer that a call was lent, t, k and h those that it leaves
module _ (l : Lent) (s : Store) (c b : List ℕ) (t t' : Store) (k k' : List ℕ) where
  module _ (r r' : Result (Unit {0}) CallError) where
    -- two that tell the same have the same answer, store and chip
    ends_parts : ends r t k b ≡ ends r' t' k' b → (r ≡ r') × (t ≡ t') × (k ≡ k')
    ends_parts e = (ended_same r r' (ap (λ (x : Told). x.status) e), ap (λ (x : Told). x.dev.store) e, ap (λ (x : Told). x.dev.chip) e)

    -- `Store::flush`
    pub flush_fixed : ends r t k b ≡ flushing l (dev s c b) → ends r' t' k' b ≡ flushing l (dev s c b) → (r ≡ r') × (t ≡ t') × (k ≡ k')
    flush_fixed e e' = ends_parts (meet e e')

    -- `Store::erase`
    pub erase_fixed : (start size : ℕ) → ends r t k b ≡ erasing l start size (dev s c b) → ends r' t' k' b ≡ erasing l start size (dev s c b)
        → (r ≡ r') × (t ≡ t') × (k ≡ k')
    erase_fixed start size e e' = ends_parts (meet e e')

  module _ (r r' : Result ℕ CallError) where
    told_parts : {h h' : List ℕ} → tells r t k h ≡ tells r' t' k' h' → (r ≡ r') × (t ≡ t') × (k ≡ k') × (h ≡ h')
    told_parts e = (
      moved_same r r' (ap (λ (x : Told). x.status) e) (ap (λ (x : Told). x.count) e),
      ap (λ (x : Told). x.dev.store) e,
      ap (λ (x : Told). x.dev.chip) e,
      ap (λ (x : Told). x.dev.buf) e,
    )

    seen_parts : {m m' : List ℕ} → seen (tells r t k b) m ≡ seen (tells r' t' k' b) m' → (r ≡ r') × (t ≡ t') × (k ≡ k') × (m ≡ m')
    seen_parts e = let p = told_parts {h = b} {h' = b} (ap (λ (v : Seen). v.told) e) in (p.0, p.1, p.2, ap (λ (v : Seen). v.room) e)

    -- `Store::write`
    pub write_fixed : (offset : ℕ) (bytes h h' : List ℕ) → tells r t k h ≡ writing l offset bytes (dev s c b) → tells r' t' k' h' ≡ writing l offset bytes (dev s c b)
        → (r ≡ r') × (t ≡ t') × (k ≡ k') × (h ≡ h')
    write_fixed offset bytes h h' e e' = told_parts (meet e e')

    -- `Store::read`
    pub read_fixed : (offset : ℕ) (room m m' : List ℕ) → seen (tells r t k b) m ≡ reading l offset room (dev s c b)
        → seen (tells r' t' k' b) m' ≡ reading l offset room (dev s c b) → (r ≡ r') × (t ≡ t') × (k ≡ k') × (m ≡ m')
    read_fixed offset room m m' e e' = seen_parts (meet e e')

    -- `Store::write_from_scratch`
    pub write_from_scratch_fixed : (scratch : List ℕ) (offset place len : ℕ) (h h' : List ℕ) → tells r t k h ≡ from_scratch l offset place len scratch (dev s c b)
        → tells r' t' k' h' ≡ from_scratch l offset place len scratch (dev s c b) → (r ≡ r') × (t ≡ t') × (k ≡ k') × (h ≡ h')
    write_from_scratch_fixed scratch offset place len h h' e e' = told_parts (meet e e')

    -- `Store::read_into_scratch`: m is what it leaves of scratch
    pub read_into_scratch_fixed : (scratch : List ℕ) (offset place len : ℕ) (m m' : List ℕ)
        → seen (tells r t k b) m ≡ into_scratch l offset place len scratch (dev s c b) → seen (tells r' t' k' b) m' ≡ into_scratch l offset place len scratch (dev s c b)
        → (r ≡ r') × (t ≡ t') × (k ≡ k') × (m ≡ m')
    read_into_scratch_fixed scratch offset place len m m' e e' = seen_parts (meet e e')
