-- What a caller of the storage is told, for whichever kind of device: flush, erase, write and read. Each call first tests the
-- record and the lent parts and refuses with 9, changing nothing (01, row 9).
use Rattle.std.specs.Prelude.{Bool, ◌&&◌, cond, List, ℕ, length}
use Rattle.storage.specs.World.{Lent, Dev, Told, told, report, Seen, seen}
use Rattle.storage.specs.Nor as NorOf
use Rattle.storage.specs.Nand as NandOf
use Rattle.storage.specs.Open.{by_kind, in_bounds, parts_fit}

-- the record is in bounds, and the lent parts are those that an opening would take
unfoldable pub good : Lent → Dev → Bool
good l d = in_bounds d.store && parts_fit d.store (length d.chip) (length l.marks) (length d.buf)

-- one answer for each kind of device, and one for a call that is refused
unfoldable pub by_good : {A : Type 0} → Lent → Dev → A → A → A → A
by_good l d nor nand refused = cond (good l d) (by_kind d.store.shape.kind nor nand) refused

unfoldable pub flushing : Lent → Dev → Told
flushing l d = by_good l d (report (NorOf.flushes l.faults d)) (report (NandOf.flushed l d)) (told 9 0 d)

unfoldable pub erasing : Lent → ℕ → ℕ → Dev → Told
erasing l start size d = by_good l d (report (NorOf.erased l.faults start size d)) (report (NandOf.erased l start size d)) (told 9 0 d)

unfoldable pub writing : Lent → ℕ → List ℕ → Dev → Told
writing l off xs d = by_good l d (NorOf.written l.faults off xs d) (NandOf.written l off xs d) (told 9 0 d)

unfoldable pub reading : Lent → ℕ → List ℕ → Dev → Seen
reading l off room d = by_good l d (NorOf.read_out l.faults off room d) (NandOf.read_out l off room d) (seen (told 9 0 d) room)
