-- The call counter of a NOR store grows by the chip calls that are made and by nothing else: every call of the store, whatever its chip
-- does, is a number of chip calls between which no byte of the chip changes and no number is taken. So the counter never falls.
use Rattle.std.specs.Prelude.{refl, true, List, ℕ, suc, ◌+◌, ◌≤◌, length}
use Rattle.std.proofs.Common.{le_refl, arith}
use Rattle.storage.specs.World.{Dev}
use Rattle.storage.specs.Fold.{run, writes}
use Rattle.storage.specs.Nor.{flushes, loads, closes, written, erased, read_out}
use Rattle.nand_laws.specs.Made.{Made, none, call, aside, made_count}
use Rattle.storage_laws.specs.Steps.{Steps, flushes_along, folds_along, written_along, erased_along, read_out_along}

-- the counter has not fallen, and is within its largest number
pub made_on : {d e : Dev} {n : ℕ} → d.store.calls ≤ 18446744073709551615 → Made d n e → (d.store.calls ≤ e.store.calls) × (e.store.calls ≤ 18446744073709551615)
made_on h m = let q = made_count h m in (omega arith, omega arith)

-- every step is a chip call or takes no number
made_steps : (d : Dev) (top : ℕ) → Steps (λ (e : Dev). (n : ℕ) × Made d n e) top
made_steps d top =
    record {
      called = λ e f c m. (suc m.0, call m.1 c);
      freed = λ e m. (m.0, aside m.1 refl refl);
      holding = λ a e z l i m. (m.0, aside m.1 refl refl);
      buffer = λ b e q m. (m.0, aside m.1 refl refl);
    }

module _ (F : List ℕ) where
  -- a flush is so many chip calls
  pub flushes_made : (d : Dev) → (n : ℕ) × Made d n (flushes F d).dev
  flushes_made d = flushes_along F _ 0 (made_steps d 0) d (0, none)

  -- so is the fold of a write
  pub writes_made : (xs : List ℕ) (a : ℕ) (d : Dev) → (n : ℕ) × Made d n (writes 4096 (loads F) (closes F) xs (run true a d)).dev
  writes_made xs a d = folds_along F _ (a + length xs) (made_steps d (a + length xs)) xs a d (le_refl _) (0, none)

  -- so is a write
  pub written_made : (off : ℕ) (xs : List ℕ) (d : Dev) → (n : ℕ) × Made d n (written F off xs d).dev
  written_made off xs d = written_along F _ _ (made_steps d d.store.shape.capacity) off xs d (le_refl _) (0, none)

  -- so is an erase
  pub erased_made : (start size : ℕ) (d : Dev) → (n : ℕ) × Made d n (erased F start size d).dev
  erased_made start size d = erased_along F _ 0 (made_steps d 0) start size d (0, none)

  -- so is a read
  pub read_out_made : (off : ℕ) (room : List ℕ) (d : Dev) → (n : ℕ) × Made d n (read_out F off room d).told.dev
  read_out_made off room d = read_out_along F _ 0 (made_steps d 0) off room d (0, none)
