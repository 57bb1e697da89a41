-- RUN_SHELL_STR over the storage: shell.rs `run` behind its parsing (01, 'Shell').
use Rattle.std.specs.Prelude.{ℕ, ◌+◌, ◌≤◌, cond, ◌||◌, List, [], length, take, drop, ◌==◌, Option, None, Some}
use Rattle.std.proofs.lemmas.List.Edits.{sets}
use Rattle.storage.specs.World.{Lent}
use Rattle.storage.specs.Store.{flushing, erasing}
use Rattle.storage.specs.Scratch.{from_scratch, into_scratch}
use Rattle.storage.specs.Open.{block_size_of}
use Rattle.engine.specs.Shell.{line_of, window_of, boot_table, text_of, is_reset}
use Rattle.engine.specs.declared.shell.Line.{Line}
use Rattle.engine.specs.declared.shell.Line.TheVariants.{Done, Erase, Write, Read, Boot}
use Rattle.engine.specs.declared.shell.Window.{Window}
use Rattle.engine.specs.World.{World, with_flags, at_e, at_scratch, dev_of, at_dev}
use Rattle.engine.specs.Reply.{ok, fail, whether, Ran, ran}

unfoldable pub run_erase : Lent → ℕ → ℕ → World → Ran
run_erase l start size w = let t = erasing l start size (dev_of w) in ran (whether (t.status == 0)) (at_dev t.dev w)

-- bytes of scratch go to the device; if all went, a flush
abbrev pub run_write_by : Lent → ℕ → World → Option Window → Ran
run_write_by l offset w None = ran fail w
run_write_by l offset w (Some at) =
    let t = from_scratch l offset at.place at.len w.scratch (dev_of w) in
    let v = at_dev t.dev w in
    let f = flushing l (dev_of v) in
    cond (t.count == at.len) (ran (whether (f.status == 0)) (at_dev f.dev v)) (ran fail v)

unfoldable pub run_write : Lent → ℕ → Option Window → World → Ran
run_write l offset win w = run_write_by l offset w win

-- bytes of the device come into scratch; a failure leaves what was copied
abbrev pub run_read_by : Lent → ℕ → World → Option Window → Ran
run_read_by l offset w None = ran fail w
run_read_by l offset w (Some at) =
    let s = into_scratch l offset at.place at.len w.scratch (dev_of w) in
    ran (whether (s.told.count == at.len)) (at_scratch s.room (at_dev s.told.dev w))

unfoldable pub run_read : Lent → ℕ → Option Window → World → Ran
run_read l offset win w = run_read_by l offset w win

-- a window within so many bytes
abbrev pub Held : Option Window → ℕ → Type 0
Held None size = Unit {0}
Held (Some at) size = at.place + at.len ≤ size

-- the device table is laid into the window
abbrev pub run_boot_by : World → Option Window → Ran
run_boot_by w None = ran fail w
run_boot_by w (Some at) =
    let t = boot_table w.e.base at.place (block_size_of w.e.store) w.e.store.shape.capacity (take at.len (drop at.place w.scratch)) in
    ran (ok []) (at_scratch (sets w.scratch at.place t) w)

unfoldable pub run_boot : Option Window → World → Ran
run_boot win w = run_boot_by w win

abbrev pub run_by : Lent → World → Option Line → Ran
run_by l w None = ran fail w
run_by l w (Some Done) = ran (ok []) w
run_by l w (Some (Erase start size)) = run_erase l start size w
run_by l w (Some (Write offset len addr)) = run_write l offset (window_of w.e.base (length w.scratch) addr len) w
run_by l w (Some (Read offset len addr)) = run_read l offset (window_of w.e.base (length w.scratch) addr len) w
run_by l w (Some (Boot addr len)) = run_boot (window_of w.e.base (length w.scratch) addr len) w

-- a line is run, and one whose first word is `reset` raises reset_requested
unfoldable pub run_line : Lent → List ℕ → World → Ran
run_line l line w = run_by l (at_e (with_flags w.e.upgrading (w.e.asked || is_reset line) w.e) w) (line_of line)

abbrev pub shell_by : Lent → List ℕ → World → Option ℕ → Ran
shell_by l bytes w None = ran fail w
shell_by l bytes w (Some n) = run_line l (take n (drop 4 bytes)) w

unfoldable pub shell : Lent → List ℕ → World → Ran
shell l bytes w = shell_by l bytes w (text_of bytes)
