-- What the update asks of a NOR that makes no error: a flush makes the flash what the store shows and holds nothing; a write of bytes
-- within chip and capacity takes them all, and what is shown then is what was shown with these bytes at their place; and where nothing
-- is held, a flush changes nothing, and a read no byte of the flash.
use Rattle.std.specs.Prelude.{◌≡◌, refl, true, false, cond, List, ◌++◌, eqb, length, take}
use Rattle.std.proofs.Common.{sym, ap, ◌∙◌}
use Rattle.std.proofs.Math.Path.{subst}
use Prim.Native.Nat.{ℕ, ◌+◌, ◌-◌, ◌≤◌, min}
use Rattle.std.proofs.Math.ListN.{drop}
use Rattle.storage.specs.World.{Lent, Dev, dev, Out, out, Told, told, report, Seen, seen}
use Rattle.storage.specs.Chip.{able, Got, fetched}
use Rattle.storage.specs.Nor.{flushes, written, read_out}
use Rattle.storage.specs.Store.{by_good, flushing, writing, reading}
use Rattle.storage.proofs.Nors.{flush_free}
use Rattle.storage_laws.specs.Bounds.{either}
use Rattle.storage_laws.specs.View.{view}
use Rattle.engine_laws.specs.Split.{Still}
use Rattle.storage_laws.specs.Stream.{view_flush, view_write, write_shows}

module _ (l : Lent) (d : Dev) (q : Still l d) where
  flushing_nor : flushing l d ≡ report (flushes l.faults d)
  unfolding flushing by_good
  flushing_nor = rw (q.taken, q.kind)

  writing_nor : (off : ℕ) (xs : List ℕ) → writing l off xs d ≡ written l.faults off xs d
  unfolding writing by_good
  writing_nor off xs = rw (q.taken, q.kind)

  reading_nor : (off : ℕ) (room : List ℕ) → reading l off room d ≡ read_out l.faults off room d
  unfolding reading by_good
  reading_nor off room = rw (q.taken, q.kind)

  -- a flush succeeds, makes the flash what is shown, and holds nothing
  pub flush_still : (e : Dev) × (flushing l d ≡ told 0 0 e) × (e.chip ≡ view d) × (e.store.held ≡ false)
  flush_still =
      let f = view_flush l.faults d q.quiet q.shows in
      (f.0, flushing_nor ∙ ap report f.1, f.2, f.3)

  -- a write takes every byte, and what is shown has them at their place
  pub write_still : (off : ℕ) (xs : List ℕ) → off + length xs ≤ length d.chip → off + length xs ≤ d.store.shape.capacity
      → ((writing l off xs d).count ≡ length xs) × (view (writing l off xs d).dev ≡ take off (view d) ++ xs ++ drop (off + length xs) (view d))
  write_still off xs h c =
      let k = writing_nor off xs in
      let w = write_shows l.faults xs (view d) d.store.shape off d q.quiet q.shows (rw (sym q.shows.long) h) c in
      (ap (λ (t : Told). t.count) (k ∙ w.1), ap (λ (t : Told). view t.dev) k ∙ view_write l.faults xs off d q.quiet q.shows h c)

  module _ (f : d.store.held ≡ false) where
    -- with nothing held the flash is what is shown
    pub free_view : view d ≡ d.chip
    unfolding view
    free_view = rw f

    free_flush : flushes l.faults d ≡ out true d
    free_flush = sym (flush_free l.faults d f)

    -- a flush changes nothing
    pub flush_free_still : flushing l d ≡ told 0 0 d
    flush_free_still = flushing_nor ∙ ap report free_flush

    -- the flash is as it was, and nothing is held
    abbrev Left : Seen → Type 0
    Left s = (s.told.dev.chip ≡ d.chip) × (s.told.dev.store.held ≡ false)

    fetched_held : (off : ℕ) (room : List ℕ) → (fetched l.faults off d.store d.chip room).store.held ≡ false
    unfolding fetched
    fetched_held off room = either (λ (g : Got). g.store.held ≡ false) (able l.faults d.store d.chip off (length room)) _ _ f f

    read_left : (off : ℕ) (room : List ℕ) → Left (read_out l.faults off room d)
    unfolding read_out
    read_left off room =
        let F = l.faults in
        subst (λ (o : Out).
        let n = min (length room) (o.dev.store.shape.capacity - off) in
        let g = fetched F off o.dev.store o.dev.chip (take n room) in
        let e = dev g.store o.dev.chip o.dev.buf in
        Left (cond o.ok (cond (eqb n 0) (seen (told 0 0 o.dev) room) (seen (told 0 (cond g.ok n 0) e) (g.room ++ drop n room))) (seen (told 0 0 o.dev) room)))
        (sym free_flush)
        (either Left (eqb (min (length room) (d.store.shape.capacity - off)) 0) _ _ (refl, f) (refl, fetched_held off (take (min (length room) (d.store.shape.capacity - off)) room)))

    -- and a read leaves the flash and holds nothing
    pub read_free_still : (off : ℕ) (room : List ℕ) → (let e = (reading l off room d).told.dev in (e.chip ≡ d.chip) × (e.store.held ≡ false))
    read_free_still off room = subst Left (sym (reading_nor off room)) (read_left off room)
