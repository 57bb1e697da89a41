-- Openings, in the words and the order of 01's refusals 10 to 14; the tests that a later call makes of a record and of what is lent
-- with it (refusal 9); and the questions of a store.
use Rattle.std.specs.Prelude.{Result, Ok, Err, Bool, true, false, ◌&&◌, ◌||◌, cond, List, [], ◌∷◌, ℕ, ◌+◌, ◌*◌, ◌%◌, ◌^◌, max, leb, ltb, eqb}
use Rattle.std.specs.Int.Count.{count_trailing_zeros}
use Rattle.storage.specs.declared.types.Kind.{Kind}
use Rattle.storage.specs.declared.types.Kind.TheVariants.{Nor, Nand}
use Rattle.storage.specs.declared.types.Store.{Store}
use Rattle.storage.specs.declared.types.Refusal.{Refusal}
use Rattle.storage.specs.declared.types.Refusal.TheVariants.{Rooms, Buffer, ChipSize, Partitions, Geometry, Scratch}
use Rattle.storage.specs.Partition.{Lists, lists_ok, end_of}
use Rattle.std.specs.Prelude.{None}

-- ---- geometry: row 13

unfoldable pub one_of : List ℕ → ℕ → Bool
one_of [] n = false
one_of (x ∷ xs) n = eqb n x || one_of xs n

-- a page: a power of two from 512 to 4,096
unfoldable pub page_ok : ℕ → Bool
page_ok n = one_of (2 ^ 9 ∷ 2 ^ 10 ∷ 2 ^ 11 ∷ 2 ^ 12 ∷ []) n

-- the pages of a block: a power of two from 1 to 256
unfoldable pub pages_ok : ℕ → Bool
pages_ok n = one_of (2 ^ 0 ∷ 2 ^ 1 ∷ 2 ^ 2 ∷ 2 ^ 3 ∷ 2 ^ 4 ∷ 2 ^ 5 ∷ 2 ^ 6 ∷ 2 ^ 7 ∷ 2 ^ 8 ∷ []) n

-- page, pages per block, blocks from 1 to 4,096
unfoldable pub geometry_ok : ℕ → ℕ → ℕ → Bool
geometry_ok page pages blocks = page_ok page && (pages_ok pages && (leb 1 blocks && leb blocks 4096))

-- the shift of a page size, of 64 bits: how many of its low bits are zero. For a power of two it is the exponent
-- (proofs/Powers.antt, `shift_page`)
abbrev pub shift_of : ℕ → ℕ
shift_of page = count_trailing_zeros 64 page

-- ---- the openings

-- row 11: a multiple of 4,096, at least 4,096 and at most 16 MiB
unfoldable pub nor_size : ℕ → Bool
nor_size n = leb 4096 n && (leb n (16 * 2 ^ 20) && eqb (n % 4096) 0)

-- row 13: the lent slice is exactly of the size that the numbers say, the marks are one byte a block
unfoldable pub chip_ok : ℕ → ℕ → ℕ → ℕ → ℕ → Bool
chip_ok page pages blocks chip marks = eqb chip (page * pages * blocks) && eqb marks blocks

-- row 13 as a whole
unfoldable pub numbers_ok : ℕ → ℕ → ℕ → ℕ → ℕ → ℕ → Bool
numbers_ok page pages blocks chip marks capacity = geometry_ok page pages blocks && (chip_ok page pages blocks chip marks && leb capacity (2 ^ 31))

-- row 14
unfoldable pub scratch_ok : ℕ → ℕ → Bool
scratch_ok base n = leb (base + n) (2 ^ 32)

-- a store as it is opened: nothing held, nothing erased, no call made
abbrev pub nor_store : ℕ → ℕ → ℕ → ℕ → Store
nor_store chip end stage device =
    record {
      shape = record { kind = Nor; page = 4096; pages = 0; blocks = 0; capacity = max chip end; stage = stage; device = device };
      held = false;
      at = 0;
      erased = None;
      calls = 0;
    }

abbrev pub nand_store : ℕ → ℕ → ℕ → ℕ → ℕ → ℕ → Store
nand_store page pages blocks capacity stage device =
    record {
      shape = record { kind = Nand; page = page; pages = pages; blocks = blocks; capacity = capacity; stage = stage; device = device };
      held = false;
      at = 0;
      erased = None;
      calls = 0;
    }

-- 01's number of a refusal
abbrev pub refusal_number : Refusal → ℕ
refusal_number Rooms = 9
refusal_number Buffer = 10
refusal_number ChipSize = 11
refusal_number Partitions = 12
refusal_number Geometry = 13
refusal_number Scratch = 14

-- refused for a reason unless the test holds
abbrev pub unless : Bool → Refusal → Result Store Refusal → Result Store Refusal
unless ok r o = cond ok o (Err r)

-- a NOR's opening from the lengths of chip and buffer, the lists, the scratch's base and length, the boot stage and the device id
unfoldable pub opened_nor : ℕ → ℕ → Lists → ℕ → ℕ → ℕ → ℕ → Result Store Refusal
opened_nor chip buffer l base scratch stage device =
    unless (leb 4096 buffer) Buffer
    (unless (nor_size chip) ChipSize
    (unless (lists_ok l) Partitions
    (unless (scratch_ok base scratch) Scratch
    (Ok (nor_store chip (end_of l) stage device)))))

-- a NAND's opening from the chip's length, its numbers, the marks' length, the capacity, and the rest as above
unfoldable pub opened_nand : ℕ → ℕ → ℕ → ℕ → ℕ → ℕ → Lists → ℕ → ℕ → ℕ → ℕ → Result Store Refusal
opened_nand chip page pages blocks marks capacity l base scratch stage device =
    unless (lists_ok l) Partitions
    (unless (numbers_ok page pages blocks chip marks capacity) Geometry
    (unless (scratch_ok base scratch) Scratch
    (Ok (nand_store page pages blocks capacity stage device))))

-- 01's number of an opening's answer
abbrev pub opened_number : Result Store Refusal → ℕ
opened_number (Ok s) = 0
opened_number (Err r) = refusal_number r

-- ---- what later calls test

abbrev pub by_kind : {A : Type 0} → Kind → A → A → A
by_kind Nor a b = a
by_kind Nand a b = b

-- the bytes of a sector or page
abbrev pub unit_of : Store → ℕ
unit_of s = by_kind s.shape.kind 4096 s.shape.page

-- a held sector or page is on its boundary and below the capacity
unfoldable pub held_ok : Bool → ℕ → ℕ → ℕ → Bool
held_ok held at unit capacity = cond held (eqb (at % unit) 0 && ltb at capacity) true

-- a record in bounds
unfoldable pub in_bounds : Store → Bool
in_bounds s =
    leb s.shape.capacity (2 ^ 31)
    && (by_kind s.shape.kind true (geometry_ok s.shape.page s.shape.pages s.shape.blocks)
    && held_ok s.held s.at (unit_of s) s.shape.capacity)

-- lengths of chip, marks and buffer that an opening takes
unfoldable pub parts_fit : Store → ℕ → ℕ → ℕ → Bool
parts_fit s chip marks buffer =
    leb 4096 buffer && by_kind s.shape.kind (nor_size chip) (chip_ok s.shape.page s.shape.pages s.shape.blocks chip marks)

-- both of a NOR, from its capacity, what it holds, and the lengths of chip and buffer
unfoldable pub nor_fits : ℕ → Bool → ℕ → ℕ → ℕ → Bool
nor_fits capacity held at chip buffer = (leb capacity (2 ^ 31) && held_ok held at 4096 capacity) && (leb 4096 buffer && nor_size chip)

-- ---- questions

abbrev pub is_nand : Store → Bool
is_nand s = by_kind s.shape.kind false true

-- a sector or page, 0 for a page that 32 bits cannot hold
unfoldable pub block_size_of : Store → ℕ
block_size_of s = by_kind s.shape.kind 4096 (cond (ltb s.shape.page (2 ^ 32)) s.shape.page 0)
