-- Laws of openings and of the tests that later calls make. Exported for callers: `Geometry`, `geometry` (what NAND's numbers have),
-- `Sound`, `sound` (what a record and the lengths lent with it have where `fits` answers true), `opened_nor_lem`, `opened_nand_lem` (what an
-- opening gives), `opened_nor_sound`, `opened_nand_sound` (it is in bounds, and its own parts fit), `bounds_kept`, `parts_kept` (so they
-- stay after a call that keeps the shape).
use mathlib.Core.Path.{◌≡◌, refl, sym, ap, ◌∙◌}
use mathlib.Core.Bool.{Bool, true, false, ◌&&◌}
use Prim.Native.Nat.{ℕ, ◌+◌, ◌*◌, ◌%◌, max, ◌≤◌, ◌<◌}
use native.Mathlib.Nat.{mul-le-mul, mul-pos}
use native.Mathlib.Omega.{arith}
use borrow.Author.Tests.{le-leb, leb-true, eq-eqb, eqb-true, lt-ltb, ltb-true}
use lib.Dec.{leb, eqb}
use Rattle.storage.specs.declared.types.Kind.{Kind}
use Rattle.storage.specs.declared.types.Kind.TheVariants.{Nor, Nand}
use Rattle.storage.specs.declared.types.Store.{Store}
use Rattle.std.specs.Prelude.{Result, Ok}
use Rattle.std.proofs.lemmas.Bool.{and_parts}
use Rattle.storage.specs.declared.types.Refusal.{Refusal}
use Rattle.storage.specs.declared.types.Refusal.TheVariants as refusal
use Rattle.storage.specs.Partition.{Lists, lists_ok, end_of}
use Rattle.storage.specs.Open.{page_ok, pages_ok, geometry_ok, nor_size, chip_ok, numbers_ok, scratch_ok, nor_store, nand_store, unless, opened_nor, opened_nand, by_kind, unit_of, held_ok, in_bounds, parts_fit}
use Rattle.storage.proofs.Partitions.{end_most}
use Rattle.storage.proofs.Powers.{page_bounds, pages_bounds}

-- ---- NAND's numbers

pub record Geometry (page pages blocks : ℕ) : Type 0 where
  pub page_ok_lem : page_ok page ≡ true
  pub page_low : 512 ≤ page
  pub page_high : page ≤ 4096
  pub pages_low : 1 ≤ pages
  pub pages_high : pages ≤ 256
  pub blocks_low : 1 ≤ blocks
  pub blocks_high : blocks ≤ 4096
  pub block_some : 0 < page * pages
  pub block_most : page * pages ≤ 1048576
  pub chip_most : page * pages * blocks ≤ 4294967296

pub geometry : (page pages blocks : ℕ) → geometry_ok page pages blocks ≡ true → Geometry page pages blocks
unfolding geometry_ok
geometry page pages blocks e =
    let p = and_parts (page_ok page) _ e in
    let q = and_parts (pages_ok pages) _ p.1 in
    let r = and_parts (leb 1 blocks) _ q.1 in
    let f = page_bounds page p.0 in
    let g = pages_bounds pages q.0 in
    let h = leb-true blocks 4096 r.1 in
    let m : page * pages ≤ 4096 * 256 = mul-le-mul f.1 g.1 in
    let n : page * pages * blocks ≤ 4096 * 256 * 4096 = mul-le-mul m h in
    record {
      page_ok_lem = p.0;
      page_low = f.0;
      page_high = f.1;
      pages_low = g.0;
      pages_high = g.1;
      blocks_low = leb-true 1 blocks r.0;
      blocks_high = h;
      block_some = mul-pos (omega arith) (omega arith);
      block_most = m;
      chip_most = n;
    }

-- ---- records in bounds

pub bounds_nand : (s : Store) → in_bounds s ≡ true → s.shape.kind ≡ Nand → geometry_ok s.shape.page s.shape.pages s.shape.blocks ≡ true
unfolding in_bounds
bounds_nand s e k =
    let p = and_parts (leb s.shape.capacity 2147483648) _ e in
    let q = and_parts (by_kind s.shape.kind true (geometry_ok s.shape.page s.shape.pages s.shape.blocks)) _ p.1 in
    ap (λ (x : Kind). by_kind x true (geometry_ok s.shape.page s.shape.pages s.shape.blocks)) (sym k) ∙ q.0

-- what is lent to a NOR, and to a NAND
pub record Sectors (chip : ℕ) : Type 0 where
  pub chip_low : 4096 ≤ chip
  pub chip_high : chip ≤ 16777216
  pub chip_whole : chip % 4096 ≡ 0

pub record Pages (s : Store) (chip marks : ℕ) : Type 0 where
  pub numbers : Geometry s.shape.page s.shape.pages s.shape.blocks
  pub chip_is : chip ≡ s.shape.page * s.shape.pages * s.shape.blocks
  pub marks_are : marks ≡ s.shape.blocks

pub record Sound (s : Store) (chip marks buffer : ℕ) : Type 0 where
  pub room : 4096 ≤ buffer
  pub capacity_most : s.shape.capacity ≤ 2147483648
  pub held_start : s.held ≡ true → s.at % unit_of s ≡ 0
  pub held_below : s.held ≡ true → s.at < s.shape.capacity
  pub nor : s.shape.kind ≡ Nor → Sectors chip
  pub nand : s.shape.kind ≡ Nand → Pages s chip marks

held_facts : (held : Bool) (at unit capacity : ℕ) → held_ok held at unit capacity ≡ true → held ≡ true → (at % unit ≡ 0) × (at < capacity)
unfolding held_ok
held_facts true at unit capacity e h =
    let p = and_parts (eqb (at % unit) 0) _ e in
    (eqb-true (at % unit) 0 p.0, ltb-true at capacity p.1)
held_facts false at unit capacity e h = absurd (let z : ◌≡◌ {A = ℕ} 0 1 = cc in omega arith)

sectors : (chip : ℕ) → nor_size chip ≡ true → Sectors chip
unfolding nor_size
sectors chip e =
    let p = and_parts (leb 4096 chip) _ e in
    let q = and_parts (leb chip 16777216) _ p.1 in
    record { chip_low = leb-true 4096 chip p.0; chip_high = leb-true chip 16777216 q.0; chip_whole = eqb-true (chip % 4096) 0 q.1 }

chip_facts : (page pages blocks chip marks : ℕ) → chip_ok page pages blocks chip marks ≡ true → (chip ≡ page * pages * blocks) × (marks ≡ blocks)
unfolding chip_ok
chip_facts page pages blocks chip marks e =
    let p = and_parts (eqb chip (page * pages * blocks)) _ e in
    (eqb-true chip (page * pages * blocks) p.0, eqb-true marks blocks p.1)

module _ (s : Store) (chip marks buffer : ℕ) where
  pub sound : in_bounds s && parts_fit s chip marks buffer ≡ true → Sound s chip marks buffer
  unfolding in_bounds parts_fit
  sound e =
      let p = and_parts (in_bounds s) (parts_fit s chip marks buffer) e in
      let b = and_parts (leb s.shape.capacity 2147483648) _ p.0 in
      let c = and_parts (by_kind s.shape.kind true (geometry_ok s.shape.page s.shape.pages s.shape.blocks)) _ b.1 in
      let f = and_parts (leb 4096 buffer) _ p.1 in
      record {
        room = leb-true 4096 buffer f.0;
        capacity_most = leb-true s.shape.capacity 2147483648 b.0;
        held_start = λ h. (held_facts s.held s.at (unit_of s) s.shape.capacity c.1 h).0;
        held_below = λ h. (held_facts s.held s.at (unit_of s) s.shape.capacity c.1 h).1;
        nor = λ k. sectors chip (ap (λ (x : Kind). by_kind x (nor_size chip) (chip_ok s.shape.page s.shape.pages s.shape.blocks chip marks)) (sym k) ∙ f.1);
        nand = λ k.
            let z = chip_facts s.shape.page s.shape.pages s.shape.blocks chip marks (ap (λ (x : Kind). by_kind x (nor_size chip) (chip_ok s.shape.page s.shape.pages s.shape.blocks chip marks)) (sym k) ∙ f.1) in
            record { numbers = geometry s.shape.page s.shape.pages s.shape.blocks (bounds_nand s p.0 k); chip_is = z.0; marks_are = z.1 };
      }

-- ---- a call that keeps the shape keeps the record in bounds, and the parts that fit it

held_made : (held : Bool) (at unit capacity : ℕ) → (held ≡ true → (at % unit ≡ 0) × (at < capacity)) → held_ok held at unit capacity ≡ true
unfolding held_ok
held_made true at unit capacity f = let p = f refl in rw (eq-eqb (at % unit) 0 p.0, lt-ltb at capacity p.1)
held_made false at unit capacity f = refl

module _ (s t : Store) (k : t.shape ≡ s.shape) where
  pub bounds_kept : (t.held ≡ true → (t.at % unit_of s ≡ 0) × (t.at < s.shape.capacity)) → in_bounds s ≡ true → in_bounds t ≡ true
  unfolding in_bounds
  bounds_kept f e =
      let b = and_parts (leb s.shape.capacity 2147483648) _ e in
      let c = and_parts (by_kind s.shape.kind true (geometry_ok s.shape.page s.shape.pages s.shape.blocks)) _ b.1 in
      rw (k, b.0, c.0) (held_made t.held t.at (unit_of s) s.shape.capacity f)

  pub parts_kept : (chip marks buffer : ℕ) → parts_fit t chip marks buffer ≡ parts_fit s chip marks buffer
  unfolding parts_fit
  parts_kept chip marks buffer = rw k

-- ---- what an opening gives

unless_ready : (t : Bool) (n : Refusal) (o : Result Store Refusal) (s : Store) → unless t n o ≡ Ok s → (t ≡ true) × (o ≡ Ok s)
unless_ready true n o s e = (refl, e)
unless_ready false n o s e = absurd (let z : ◌≡◌ {A = ℕ} 0 1 = cc in omega arith)

ready_is : (a b : Store) → ◌≡◌ {A = Result Store Refusal} (Ok a) (Ok b) → b ≡ a
ready_is a b e = cc

module _ (chip buffer : ℕ) (l : Lists) (base scratch stage device : ℕ) (s : Store) where
  -- a NOR that is opened: no refusal held, and the store is as it is opened
  pub record OpenNor : Type 0 where
    pub room : 4096 ≤ buffer
    pub size : nor_size chip ≡ true
    pub table : lists_ok l ≡ true
    pub scratch_fits : base + scratch ≤ 4294967296
    pub store : s ≡ nor_store chip (end_of l) stage device

  pub opened_nor_lem : opened_nor chip buffer l base scratch stage device ≡ Ok s → OpenNor
  unfolding opened_nor scratch_ok
  opened_nor_lem e =
      let a = unless_ready (leb 4096 buffer) refusal.Buffer _ s e in
      let b = unless_ready (nor_size chip) refusal.ChipSize _ s a.1 in
      let c = unless_ready (lists_ok l) refusal.Partitions _ s b.1 in
      let d = unless_ready (scratch_ok base scratch) refusal.Scratch _ s c.1 in
      record {
        room = leb-true 4096 buffer a.0;
        size = b.0;
        table = c.0;
        scratch_fits = leb-true (base + scratch) 4294967296 d.0;
        store = ready_is (nor_store chip (end_of l) stage device) s d.1;
      }

  nor_bounds : OpenNor → in_bounds s ≡ true
  unfolding in_bounds held_ok
  nor_bounds o =
      let z = sectors chip o.size in
      let m : max chip (end_of l) ≤ 2147483648 = omega (arith, end_most l) in
      rw (o.store, le-leb (max chip (end_of l)) 2147483648 m)

  nor_fits_lem : (marks : ℕ) → OpenNor → parts_fit s chip marks buffer ≡ true
  unfolding parts_fit
  nor_fits_lem marks o = rw (o.store, le-leb 4096 buffer o.room) o.size

  -- later calls with the same parts refuse neither the record nor the parts
  pub opened_nor_sound : (marks : ℕ) → opened_nor chip buffer l base scratch stage device ≡ Ok s → in_bounds s && parts_fit s chip marks buffer ≡ true
  opened_nor_sound marks e = let o = opened_nor_lem e in rw (nor_bounds o, nor_fits_lem marks o)

module _ (chip page pages blocks marks capacity : ℕ) (l : Lists) (base scratch stage device : ℕ) (s : Store) where
  pub record OpenNand : Type 0 where
    pub table : lists_ok l ≡ true
    pub numbers : Geometry page pages blocks
    pub chip_is : chip ≡ page * pages * blocks
    pub marks_are : marks ≡ blocks
    pub capacity_most : capacity ≤ 2147483648
    pub scratch_fits : base + scratch ≤ 4294967296
    pub store : s ≡ nand_store page pages blocks capacity stage device
    pub tested : (geometry_ok page pages blocks ≡ true) × (chip_ok page pages blocks chip marks ≡ true)

  pub opened_nand_lem : opened_nand chip page pages blocks marks capacity l base scratch stage device ≡ Ok s → OpenNand
  unfolding opened_nand numbers_ok scratch_ok
  opened_nand_lem e =
      let a = unless_ready (lists_ok l) refusal.Partitions _ s e in
      let b = unless_ready (numbers_ok page pages blocks chip marks capacity) refusal.Geometry _ s a.1 in
      let c = unless_ready (scratch_ok base scratch) refusal.Scratch _ s b.1 in
      let g = and_parts (geometry_ok page pages blocks) _ b.0 in
      let h = and_parts (chip_ok page pages blocks chip marks) _ g.1 in
      let f = chip_facts page pages blocks chip marks h.0 in
      record {
        table = a.0;
        numbers = geometry page pages blocks g.0;
        chip_is = f.0;
        marks_are = f.1;
        capacity_most = leb-true capacity 2147483648 h.1;
        scratch_fits = leb-true (base + scratch) 4294967296 c.0;
        store = ready_is (nand_store page pages blocks capacity stage device) s c.1;
        tested = (g.0, h.0);
      }

  nand_bounds : OpenNand → in_bounds s ≡ true
  unfolding in_bounds held_ok
  nand_bounds o = rw (o.store, le-leb capacity 2147483648 o.capacity_most, o.tested.0)

  nand_fits : (buffer : ℕ) → 4096 ≤ buffer → OpenNand → parts_fit s chip marks buffer ≡ true
  unfolding parts_fit
  nand_fits buffer h o = rw (o.store, le-leb 4096 buffer h) o.tested.1

  pub opened_nand_sound : (buffer : ℕ) → 4096 ≤ buffer → opened_nand chip page pages blocks marks capacity l base scratch stage device ≡ Ok s
      → in_bounds s && parts_fit s chip marks buffer ≡ true
  opened_nand_sound buffer h e = let o = opened_nand_lem e in rw (nand_bounds o, nand_fits buffer h o)
