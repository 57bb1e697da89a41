-- Laws of a chip call that puts bytes at a place. As the code goes: it fails, or a part of the chip is filled, or bytes are laid over
-- it. As callers see it: what every call keeps, and what one leaves that is in range and not told to fail.
use mathlib.Core.Path.{◌≡◌, refl}
use mathlib.Core.Bool.{Bool, true, false, cond}
use mathlib.Core.List.{List}
use Prim.Native.Nat.{ℕ, ◌+◌, ◌-◌, ◌≤◌}
use native.Mathlib.Omega.{arith}
use borrow.Author.Tests.{le-leb}
use borrow.Rule.Slice.PartMut.{put_mid}
use lib.ListN.{length, take, drop, length-drop}
use lib.Seq.{length-take-le}
use Rattle.wire.specs.Bytes.{laid}
use Rattle.wire.proofs.Copies.{laid_fits}
use Rattle.storage.specs.declared.types.Store.{Store}
use Rattle.storage.specs.World.{Dev, dev, out}
use Rattle.storage.specs.Chip.{failing, able, called, over, programs, got, fetched}
use Rattle.storage.proofs.Chips.{able_fits}
use Rattle.storage.proofs.Over.{length_over}

module _ (F : List ℕ) (s : Store) (chip : List ℕ) (a : ℕ) (xs b : List ℕ) {st : Store} (q : st ≡ called s) where
  pub programs_fails : able F s chip a (length xs) ≡ false → out false (dev st chip b) ≡ programs F a xs (dev s chip b)
  unfolding programs
  programs_fails e = rw (q, e)

  -- the part `&mut chip[a..e]` comes back as the bytes
  pub programs_part : (e : ℕ) {ys : List ℕ} → able F s chip a (length xs) ≡ true → e ≡ a + length xs → ys ≡ xs
      → out true (dev st (put_mid a (e - a) chip ys) b) ≡ programs F a xs (dev s chip b)
  unfolding programs over
  programs_part e t p r = let k : e - a ≡ length xs = omega arith in rw (q, t, k, r)

  -- the bytes were laid over the chip
  pub programs_laid : {c : List ℕ} → able F s chip a (length xs) ≡ true → c ≡ laid chip a xs → out true (dev st c b) ≡ programs F a xs (dev s chip b)
  unfolding programs over
  programs_laid t r = rw (q, t, r, laid_fits chip a xs (able_fits F s chip a (length xs) t))

-- ---- what every chip call keeps, whether it succeeds or not: the record but for its number, the buffer, the size of the chip

pub record Call (d e : Dev) : Type 0 where
  pub number : e.store ≡ called d.store
  pub buf : e.buf ≡ d.buf
  pub size : length e.chip ≡ length d.chip

pub programs_call : (F : List ℕ) (a : ℕ) (xs : List ℕ) (d : Dev) → Call d (programs F a xs d).dev
unfolding programs
programs_call F a xs d = go (able F d.store d.chip a (length xs)) refl
  where
    go : (b : Bool) → able F d.store d.chip a (length xs) ≡ b
        → Call d (cond b (out true (dev (called d.store) (over a xs d.chip) d.buf)) (out false (dev (called d.store) d.chip d.buf))).dev
    go true t = record { number = refl; buf = refl; size = length_over a xs d.chip (able_fits F d.store d.chip a (length xs) t) }
    go false t = record { number = refl; buf = refl; size = refl }

module _ (F : List ℕ) (a : ℕ) (s : Store) (chip room : List ℕ) where
  pub fetched_number : (fetched F a s chip room).store ≡ called s
  unfolding fetched
  fetched_number = go (able F s chip a (length room))
    where
      go : (b : Bool) → (cond b (got true (called s) (take (length room) (drop a chip))) (got false (called s) room)).store ≡ called s
      go true = refl
      go false = refl

  pub fetched_length : length (fetched F a s chip room).room ≡ length room
  unfolding fetched
  fetched_length = go (able F s chip a (length room)) refl
    where
      go : (b : Bool) → able F s chip a (length room) ≡ b
          → length (cond b (got true (called s) (take (length room) (drop a chip))) (got false (called s) room)).room ≡ length room
      go true t =
          let h = able_fits F s chip a (length room) t in
          length-take-le (length room) (drop a chip) (simp length-drop (omega arith))
      go false t = refl

-- ---- a call in range that is not told to fail

module _ (F : List ℕ) (s : Store) (chip : List ℕ) (well : failing F s.calls ≡ false) where
  able_well : (a n : ℕ) → a + n ≤ length chip → able F s chip a n ≡ true
  unfolding able
  able_well a n h = rw (le-leb (a + n) (length chip) h, well)

  pub programs_well : (a : ℕ) (xs b : List ℕ) → a + length xs ≤ length chip → programs F a xs (dev s chip b) ≡ out true (dev (called s) (over a xs chip) b)
  unfolding programs
  programs_well a xs b h = rw (able_well a (length xs) h)

  pub fetched_well : (a : ℕ) (room : List ℕ) → a + length room ≤ length chip → fetched F a s chip room ≡ got true (called s) (take (length room) (drop a chip))
  unfolding fetched
  fetched_well a room h = rw (able_well a (length room) h)
