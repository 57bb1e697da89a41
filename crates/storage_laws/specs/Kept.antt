-- What every call of a NOR store keeps, whatever its chip does: the shape, the erased block, the sizes of chip and buffer; the number
-- of the next call never falls; and a held sector stays on its boundary below the capacity.
use Rattle.std.specs.Prelude.{◌≡◌, refl, true, List, ℕ, ◌+◌, ◌%◌, ◌≤◌, ◌<◌, length}
use Rattle.std.proofs.Common.{sym, ap, subst, ◌∙◌, le_refl, arith}
use Rattle.storage.specs.declared.types.Shape.{Shape}
use Rattle.storage.specs.declared.types.Store.{Store}
use Rattle.storage.specs.World.{Dev}
use Rattle.storage.specs.Chip.{next_call}
use Rattle.storage.specs.Fold.{run, writes}
use Rattle.storage.specs.Nor.{flushes, loads, closes, written, erased, read_out}
use Rattle.storage.proofs.Fold.{false_true}
use Rattle.storage.proofs.Programs.{Call}
use Rattle.storage_laws.specs.Steps.{Steps, flushes_along, folds_along, written_along, erased_along, read_out_along}

-- a held sector starts on its boundary, below the capacity
abbrev pub OnSector : Store → Type 0
OnSector s = s.held ≡ true → (s.at % 4096 ≡ 0) × (s.at < s.shape.capacity)

-- what a call that goes from d to e keeps
pub record Kept (d e : Dev) : Type 0 where
  pub shape : e.store.shape ≡ d.store.shape
  pub erased : e.store.erased ≡ d.store.erased
  pub chip : length e.chip ≡ length d.chip
  pub buf : length e.buf ≡ length d.buf
  pub calls : d.store.calls ≤ 18446744073709551615 → (d.store.calls ≤ e.store.calls) × (e.store.calls ≤ 18446744073709551615)
  pub on : OnSector d.store → OnSector e.store

module _ (d : Dev) where
  -- nothing done keeps them
  kept_refl : Kept d d
  kept_refl = record { shape = refl; erased = refl; chip = refl; buf = refl; calls = λ h. (omega arith, h); on = λ h. h }

  -- one more chip call keeps them
  called_kept : (e f : Dev) → Call e f → Kept d e → Kept d f
  called_kept e f c k =
      let n : f.store.calls ≡ next_call e.store.calls = ap (λ (s : Store). s.calls) c.number in
      record {
        shape = ap (λ (s : Store). s.shape) c.number ∙ k.shape;
        erased = ap (λ (s : Store). s.erased) c.number ∙ k.erased;
        chip = c.size ∙ k.chip;
        buf = ap length c.buf ∙ k.buf;
        calls = λ h. (omega (arith, k.calls h), omega (arith, k.calls h));
        on = λ h. subst (λ (s : Store). OnSector s) (sym c.number) (k.on h);
      }

  -- and so does every step
  kept_steps : Steps (λ (e : Dev). Kept d e) d.store.shape.capacity
  kept_steps =
      record {
        called = called_kept;
        freed = λ e k. record { shape = k.shape; erased = k.erased; chip = k.chip; buf = k.buf; calls = k.calls; on = λ h t. false_true t };
        holding = λ a e z l i k.
            let q : e.store.shape.capacity ≡ d.store.shape.capacity = ap (λ (s : Shape). s.capacity) k.shape in
            record { shape = k.shape; erased = k.erased; chip = k.chip; buf = k.buf; calls = k.calls; on = λ h t. (z, omega arith) };
        buffer = λ b e q k. record { shape = k.shape; erased = k.erased; chip = k.chip; buf = q ∙ k.buf; calls = k.calls; on = k.on };
      }

module _ (F : List ℕ) where
  -- a flush keeps them
  pub flushes_kept : (d : Dev) → Kept d (flushes F d).dev
  flushes_kept d = flushes_along F _ _ (kept_steps d) d (kept_refl d)

  -- so does the fold of a write below the capacity
  pub writes_kept : (xs : List ℕ) (a : ℕ) (d : Dev) → a + length xs ≤ d.store.shape.capacity → Kept d (writes 4096 (loads F) (closes F) xs (run true a d)).dev
  writes_kept xs a d h = folds_along F _ _ (kept_steps d) xs a d h (kept_refl d)

  -- so does a write
  pub written_kept : (off : ℕ) (xs : List ℕ) (d : Dev) → Kept d (written F off xs d).dev
  written_kept off xs d = written_along F _ _ (kept_steps d) off xs d (le_refl _) (kept_refl d)

  -- so does an erase
  pub erased_kept : (start size : ℕ) (d : Dev) → Kept d (erased F start size d).dev
  erased_kept start size d = erased_along F _ _ (kept_steps d) start size d (kept_refl d)

  -- so does a read
  pub read_out_kept : (off : ℕ) (room : List ℕ) (d : Dev) → Kept d (read_out F off room d).told.dev
  read_out_kept off room d = read_out_along F _ _ (kept_steps d) off room d (kept_refl d)
