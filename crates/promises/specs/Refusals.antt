-- Only named reasons, of openings: rows 9 to 14 of 01's table, "tested in that order; 10 and 11 are for NOR only, 13 for NAND only". An
-- opening is accepted, with number 0, or has one of these numbers and failed that row's test.
use Rattle.std.specs.Prelude.{◌≡◌, Result, false, ℕ, ◌<◌, leb, length}
use Rattle.std.proofs.Math.Path.{refl}
use Rattle.std.proofs.Common.{leb-false}
use Rattle.storage.specs.declared.types.Refusal.{Refusal}
use Rattle.storage.specs.declared.types.Store.{Store}
use Rattle.storage.specs.Open as opens
use Rattle.storage.specs.Open.{scratch_ok, nor_size, numbers_ok}
use Rattle.storage.specs.Partition.{lists_ok}
use Rattle.engine.specs.World.{Given, World}
use Rattle.engine.specs.Api.{rooms_ok, Opening, opened_by, opened_nor, opened_nand}
use Rattle.engine_laws.specs.Bounds.{nor_opening, nand_opening}
use Rattle.promises.specs.Picked.{picked}

-- what the number of a NOR's opening says
pub data NorWhy (g : Given) (w : World) (base n : ℕ) : Type 0 where
  nor_taken : n ≡ 0 → NorWhy g w base n
  -- "request room not 8,208, reply room not 4,112"
  nor_rooms : n ≡ 9 → rooms_ok (length w.request) (length w.reply) ≡ false → NorWhy g w base n
  -- "sector buffer under 4,096"
  nor_buffer : n ≡ 10 → length w.buffer < 4096 → NorWhy g w base n
  -- "NOR size not a multiple of 4,096, under 4,096 or over 16 MiB"
  nor_size_lem : n ≡ 11 → nor_size (length w.chip) ≡ false → NorWhy g w base n
  -- "over 32 partitions; lists or name bytes of unlike length; a name over 64 bytes or not UTF-8; an offset plus size above 2^31"
  nor_lists : n ≡ 12 → lists_ok g.lists ≡ false → NorWhy g w base n
  -- "scratch base plus length above 2^32"
  nor_scratch : n ≡ 14 → scratch_ok base (length w.scratch) ≡ false → NorWhy g w base n

-- and of a NAND's
pub data NandWhy (g : Given) (w : World) (base page pages blocks capacity n : ℕ) : Type 0 where
  nand_taken : n ≡ 0 → NandWhy g w base page pages blocks capacity n
  nand_rooms : n ≡ 9 → rooms_ok (length w.request) (length w.reply) ≡ false → NandWhy g w base page pages blocks capacity n
  nand_lists : n ≡ 12 → lists_ok g.lists ≡ false → NandWhy g w base page pages blocks capacity n
  -- "page outside 512..4,096 or not a power of two; pages per block not a power of two in 1..256; blocks outside 1..4,096; lent slice not
  -- exactly that size; marks not one byte a block; capacity above 2^31"
  nand_numbers : n ≡ 13 → numbers_ok page pages blocks (length w.chip) (length g.lent.marks) capacity ≡ false → NandWhy g w base page pages blocks capacity n
  nand_scratch : n ≡ 14 → scratch_ok base (length w.scratch) ≡ false → NandWhy g w base page pages blocks capacity n

module _ (g : Given) (w : World) (base stage device : ℕ) where
  -- "9 to 14 are added by the port and tested in that order": of a NOR
  pub nor_why : NorWhy g w base (nor_opening g w base stage device).number
  unfolding opened_nor opens.opened_nor
  nor_why =
      let P : Result Store Refusal → Type 0 = λ o. NorWhy g w base (opened_by base o).number in
      picked (λ (o : Opening). NorWhy g w base o.number) (rooms_ok (length w.request) (length w.reply)) _ _
      (λ _. picked P (leb 4096 (length w.buffer)) _ _
      (λ _. picked P (nor_size (length w.chip)) _ _
      (λ _. picked P (lists_ok g.lists) _ _
      (λ _. picked P (scratch_ok base (length w.scratch)) _ _ (λ _. nor_taken refl) (nor_scratch refl)) (nor_lists refl)) (nor_size_lem refl))
      (λ e. nor_buffer refl (leb-false 4096 (length w.buffer) e))) (nor_rooms refl)

  -- of a NAND
  pub nand_why : (page pages blocks capacity : ℕ) → NandWhy g w base page pages blocks capacity (nand_opening g w base stage device page pages blocks capacity).number
  unfolding opened_nand opens.opened_nand
  nand_why page pages blocks capacity =
      let P : Result Store Refusal → Type 0 = λ o. NandWhy g w base page pages blocks capacity (opened_by base o).number in
      picked (λ (o : Opening). NandWhy g w base page pages blocks capacity o.number) (rooms_ok (length w.request) (length w.reply)) _ _
      (λ _. picked P (lists_ok g.lists) _ _
      (λ _. picked P (numbers_ok page pages blocks (length w.chip) (length g.lent.marks) capacity) _ _
      (λ _. picked P (scratch_ok base (length w.scratch)) _ _ (λ _. nand_taken refl) (nand_scratch refl)) (nand_numbers refl)) (nand_lists refl)) (nand_rooms refl)
