-- Laws of the two calls that change a NOR chip, `erase_sector` and `write_bytes`: all that the buffering above needs of them. Nothing
-- but this file looks into the two.
use mathlib.Core.Path.{◌≡◌, sym, ◌∙◌}
use mathlib.Core.Bool.{true, false}
use mathlib.Core.List.{List, ◌++◌}
use Prim.Native.Nat.{ℕ, ◌+◌, ◌-◌, ◌≤◌}
use borrow.Rule.Slice.PartMut.{put_mid}
use lib.ListN.{length, take, drop, replicate, length-replicate, replicate-append-replicate}
use Rattle.wire.specs.Bytes.{laid}
use Rattle.storage.specs.declared.types.Store.{Store}
use Rattle.storage.specs.World.{Dev, dev, out}
use Rattle.storage.specs.Chip.{failing, able, next_call, called, over}
use Rattle.storage.specs.Nor.{blank, erase_sector, write_bytes}
use Rattle.storage.proofs.Chips.{able_fits, part_length}
use Rattle.storage.proofs.Programs.{programs_fails, programs_part, programs_laid, Call, programs_call, programs_well}
use Rattle.storage.proofs.Over.{length_over, over_over}

pub length_blank : length blank ≡ 4096
unfolding blank
length_blank = length-replicate {A = ℕ} 4096 255

pub blank_more : (n : ℕ) → blank ++ replicate n 255 ≡ replicate (4096 + n) 255
unfolding blank
blank_more n = replicate-append-replicate {A = ℕ} 4096 n 255

-- a part of 4,096 bytes within l, filled
blank_part : (a e : ℕ) (l : List ℕ) → e ≡ a + 4096 → a + 4096 ≤ length l → replicate (length (take (e - a) (drop a l))) 255 ≡ blank
unfolding blank
blank_part a e l q h = rw (part_length a e 4096 l q h)

-- ---- as the code makes them

module _ (F : List ℕ) (s : Store) (chip : List ℕ) (a : ℕ) (b : List ℕ) {st : Store} (q : st ≡ called s) where
  pub erase_fails : able F s chip a 4096 ≡ false → out false (dev st chip b) ≡ erase_sector F a (dev s chip b)
  unfolding erase_sector
  erase_fails e = programs_fails F s chip a blank b q (rw length_blank e)

  -- the part `&mut chip[a..e]` was filled
  pub erase_filled : (e : ℕ) {ys : List ℕ} → able F s chip a 4096 ≡ true → e ≡ a + 4096 → ys ≡ replicate (length (take (e - a) (drop a chip))) 255
      → out true (dev st (put_mid a (e - a) chip ys) b) ≡ erase_sector F a (dev s chip b)
  unfolding erase_sector
  erase_filled e t p r =
      programs_part F s chip a blank b q e (rw length_blank t) (rw length_blank p) (r ∙ blank_part a e chip p (able_fits F s chip a 4096 t))

  module _ (xs : List ℕ) where
    pub write_fails : able F s chip a (length xs) ≡ false → out false (dev st chip b) ≡ write_bytes F a xs (dev s chip b)
    unfolding write_bytes
    write_fails e = programs_fails F s chip a xs b q e

    -- the bytes were laid over the chip
    pub write_laid : {c : List ℕ} → able F s chip a (length xs) ≡ true → c ≡ laid chip a xs → out true (dev st c b) ≡ write_bytes F a xs (dev s chip b)
    unfolding write_bytes
    write_laid t r = programs_laid F s chip a xs b q t r

-- ---- as callers see them

-- whatever they do, each takes its number, and leaves the buffer and the size of the chip
pub erase_call : (F : List ℕ) (a : ℕ) (d : Dev) → Call d (erase_sector F a d).dev
unfolding erase_sector
erase_call F a d = programs_call F a blank d

pub write_call : (F : List ℕ) (a : ℕ) (xs : List ℕ) (d : Dev) → Call d (write_bytes F a xs d).dev
unfolding write_bytes
write_call F a xs d = programs_call F a xs d

module _ (F : List ℕ) (a : ℕ) (s : Store) (chip b : List ℕ) (fits : a + 4096 ≤ length chip) (well : failing F s.calls ≡ false) where
  -- an erase that is not told to fail leaves the sector blank
  pub erase_well : erase_sector F a (dev s chip b) ≡ out true (dev (called s) (over a blank chip) b)
  unfolding erase_sector
  erase_well = programs_well F s chip well a blank b (rw length_blank fits)

  -- an erase and then a write of the whole sector, neither told to fail: the chip has the bytes there
  pub rewritten : (xs : List ℕ) → failing F (next_call s.calls) ≡ false → length xs ≡ 4096
      → (e : Dev) × (erase_sector F a (dev s chip b) ≡ out true e) × (write_bytes F a xs e ≡ out true (dev (called (called s)) (over a xs chip) b))
  unfolding write_bytes
  rewritten xs w q =
      let k : a + length blank ≤ length chip = rw length_blank fits in
      let l : length (over a blank chip) ≡ length chip = length_over a blank chip k in (
        dev (called s) (over a blank chip) b,
        erase_well,
        rw (programs_well F (called s) (over a blank chip) w a xs b (rw (q, l) fits), over_over a blank xs chip (length_blank ∙ sym q) (rw q fits)),
      )
