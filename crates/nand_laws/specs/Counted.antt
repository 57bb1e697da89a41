-- The call counter of a NAND store only grows by the chip calls made: each call of the store, whatever its chip does, is some number of
-- chip calls, and by `made_count` the counter has grown by as many, up to its largest number.
use Rattle.std.proofs.Math.Path.{refl}
use Rattle.std.specs.Prelude.{List, ℕ, suc, ◌<◌, set}
use Rattle.storage.specs.World.{Lent, Dev, dev}
use Rattle.storage.specs.Fold.{base}
use Rattle.storage.specs.Nor.{freed}
use Rattle.storage.specs.Nand.{remember, flushes, flushed, begins, written, erased, read_out}
use Rattle.storage.proofs.Programs.{Call}
use Rattle.storage.proofs.NandKeeps.{flushes_keeps}
use Rattle.nand_laws.specs.Made.{Made, none, call, aside}
use Rattle.nand_laws.specs.Keeps.{flushed_keeps, written_keeps, erased_keeps, read_out_keeps}
use Rattle.std.specs.Prelude.{Option}

module _ (d : Dev) where
  -- some number of chip calls lead from d to e
  abbrev From : Dev → Type 0
  From e = (n : ℕ) × Made d n e

  nothing : From d
  nothing = (0, none)

  one_more : (e f : Dev) → Call e f → From e → From f
  one_more e f c m = (suc m.0, call m.1 c)

  noted : (x : Option ℕ) (e : Dev) → From e → From (remember x e)
  noted x e m = (m.0, aside m.1 refl refl)

  let_go : (e : Dev) → From e → From (dev (freed e.store) e.chip e.buf)
  let_go e m = (m.0, aside m.1 refl refl)

  begun : (a : ℕ) (e : Dev) → a < d.store.shape.capacity → From e → From (begins (base d.store.shape.page a) e)
  unfolding begins
  begun a e t m = (m.0, aside m.1 refl refl)

  with_byte : (i x : ℕ) (e : Dev) → From e → From (dev e.store e.chip (set e.buf i x))
  with_byte i x e m = (m.0, aside m.1 refl refl)

module _ (l : Lent) (d : Dev) where
  -- the flush inside every call is a number of chip calls
  pub flushes_made : (n : ℕ) × Made d n (flushes l d).dev
  flushes_made = flushes_keeps (From d) (one_more d) (noted d) l (let_go d) d (nothing d)

  -- the flush that a caller asks for is
  pub flushed_made : (n : ℕ) × Made d n (flushed l d).dev
  flushed_made = flushed_keeps (From d) (one_more d) (noted d) l (let_go d) d (nothing d)

  -- a write is
  pub written_made : (off : ℕ) (xs : List ℕ) → (n : ℕ) × Made d n (written l off xs d).dev
  written_made = written_keeps (From d) (one_more d) (noted d) l (let_go d) d (nothing d) (begun d) (with_byte d)

  -- an erase is
  pub erased_made : (start size : ℕ) → (n : ℕ) × Made d n (erased l start size d).dev
  erased_made = erased_keeps (From d) (one_more d) (noted d) l (let_go d) d (nothing d)

  -- a read is
  pub read_out_made : (off : ℕ) (room : List ℕ) → (n : ℕ) × Made d n (read_out l off room d).told.dev
  read_out_made = read_out_keeps (From d) (one_more d) (noted d) l (let_go d) d (nothing d)
