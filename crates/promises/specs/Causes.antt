-- Only named reasons, of the storage: "a storage call fails or comes up short only by a chip's error, a bad block, the capacity or a rule
-- written here" (01, 'What the contracts have to settle'). From a store in order (storage_laws, `InOrder`), a flush that failed met a chip
-- call that is told to fail or a bad block; an erase, a write, a read or a move of scratch that failed or came up short did, or its
-- range passes the capacity or the chip's end (`Cause`). So each row of Why.antt that says what a storage call told has a cause:
-- `traced`. A NOR is in order from its opening on, whatever is called and whatever its chip does (`nor_traced`); a NAND is while its
-- writes stay below the capacity and the chip's end.
use Rattle.std.specs.Prelude.{◌≡◌, refl, Option, None, Some, Bool, true, false, ◌⊎◌, ℕ, ◌+◌, ◌-◌, ◌<◌, leb, ltb, length, drop}
use Rattle.std.proofs.Common.{sym, ap, subst, ◌∙◌, inl, inr, ⊎_elim, arith, leb-true, leb-false, ltb-true, ltb-false, length-take, length-drop, get_or-drop}
use mathlib.Core.List.{List, [], ◌∷◌}
use Rattle.wire.specs.Bytes.{word_at}
use Rattle.storage.specs.declared.types.Kind.TheVariants.{Nor}
use Rattle.storage.specs.declared.types.Shape.{Shape}
use Rattle.storage.specs.World.{Lent, Dev}
use Rattle.storage.specs.Open.{nor_store}
use Rattle.storage.specs.Partition.{end_of}
use Rattle.storage.specs.Store.{flushing, erasing, writing, reading}
use Rattle.storage.specs.Scratch.{part, from_scratch, into_scratch}
use Rattle.nand_laws.specs.Within.{Bytes, Inside, bytes_take}
use Rattle.nand_laws.specs.Reasons.{Held, HeldOrTouched}
use Rattle.storage_laws.specs.Reasons.{InOrder, Met, nor_nand, nor_opening_lem, flushing_or_met, erasing_or_met, writing_or_met, reading_or_met, flushing_order}
use Rattle.storage_laws.specs.Moves.{from_or_met, from_order, into_or_met}
use Rattle.engine.specs.declared.shell.Line.{Line}
use Rattle.engine.specs.declared.shell.Line.TheVariants as line
use Rattle.engine.specs.World.{Given, World, at_e, dev_of, Out, out_of}
use Rattle.engine.specs.Shell.{line_of}
use Rattle.engine.specs.Feed.{feeds}
use Rattle.engine.specs.Api.{fits, Opening, writes, Read, reads}
use Rattle.engine_laws.specs.Carry.{feeds_left}
use Rattle.engine_laws.specs.Bounds.{Call, write, read, reset, after, after_all, nor_opening, nor_opening_is}
use Rattle.engine_laws.specs.Split.{On, on_start, on_closed, order_steady}
use Rattle.promises.specs.Picked.{picked}
use Rattle.promises.specs.Turns.{finds}
use Rattle.promises.specs.Why.{line_in, Off, cut_to, out_told, in_told, Unflushed, Unerased, OutWhy, InWhy, RunWhy, Why, out_window, out_short, out_flush, in_window, in_short, write_cut, write_less, write_beyond, read_cut, read_beyond, shell_cut, shell_less, shell_text, shell_line_lem, shell_run, end_flush, meta_cut, meta_magic, meta_flush, meta_unknown, crc_flush, table_none, fwc_cut, erase_cut, erase_flush, erase_failed}

-- ---- storage calls

-- why a call over n bytes from off on, which goes from d to e and may ask about the blocks `Asks`, did not do all that it was asked
pub data Cause (l : Lent) (Asks : ℕ → Type 0) (off n : ℕ) (d e : Dev) : Type 0 where
  -- the capacity
  past_capacity : d.store.shape.capacity < off + n → Cause l Asks off n d e
  -- the chip's end: "Calls out of range take a number too, err and do nothing"
  past_chip : length d.chip < off + n → Cause l Asks off n d e
  -- a chip's error or a bad block
  chip_met : Met l Asks d e → Cause l Asks off n d e

-- a range is inside, or passes one of the two
by_inside : (P : Type 0) (d : Dev) (off n : ℕ) → (d.store.shape.capacity < off + n → P) → (length d.chip < off + n → P) → (Inside d off n → P) → P
by_inside P d off n h k m = go (leb (off + n) d.store.shape.capacity) refl (leb (off + n) (length d.chip)) refl
  where
    go : (a : Bool) → leb (off + n) d.store.shape.capacity ≡ a → (b : Bool) → leb (off + n) (length d.chip) ≡ b → P
    go false p b q = h (leb-false (off + n) d.store.shape.capacity p)
    go true p false q = k (leb-false (off + n) (length d.chip) q)
    go true p true q = m (record { low = leb-true (off + n) d.store.shape.capacity p; short = leb-true (off + n) (length d.chip) q })

by_range : {l : Lent} {Asks : ℕ → Type 0} {off n : ℕ} {d e : Dev} → (Inside d off n → Met l Asks d e) → Cause l Asks off n d e
by_range {l} {Asks} {off} {n} {d} {e} h = by_inside (Cause l Asks off n d e) d off n past_capacity past_chip (λ i. chip_met (h i))

-- what was not done met a reason
undone : {A B : Type 0} → (A → ⊥) → A ⊎ B → B
undone n = ⊎_elim (λ a. absurd (n a)) (λ b. b)

-- why a flush failed
abbrev pub FlushCause : Lent → Dev → Type 0
FlushCause l d = Met l (Held d) d (flushing l d).dev

module _ (l : Lent) (d : Dev) (o : InOrder l d) where
  -- "a failed flush keeps the buffer": it failed by a chip's error or a bad block
  pub flush_cause : Unflushed l d → FlushCause l d
  flush_cause n = undone (λ w. n w.0) (flushing_or_met l d o)

  -- "a storage call fails or comes up short only by a chip's error, a bad block, the capacity or a rule written here": an erase
  pub erase_cause : (start size : ℕ) → Unerased l start size d → Cause l (HeldOrTouched d start size) start size d (erasing l start size d).dev
  erase_cause start size n = by_range (λ i. undone (λ w. n w.0) (erasing_or_met l d o start size i))

  -- a write of bytes
  pub write_cause : (off : ℕ) (xs : List ℕ) → Bytes xs → ((writing l off xs d).count ≡ length xs → ⊥)
      → Cause l (HeldOrTouched d off (length xs)) off (length xs) d (writing l off xs d).dev
  write_cause off xs b n = by_range (λ i. undone (λ w. n w.1) (writing_or_met l d o off xs i b))

  -- a read
  pub read_cause : (off : ℕ) (room : List ℕ) → ((reading l off room d).told.count ≡ length room → ⊥)
      → Cause l (Held d) off (length room) d (reading l off room d).told.dev
  read_cause off room n = by_range (λ i. undone (λ w. n w.1) (reading_or_met l d o off room i))

  module _ (off at n : ℕ) (scratch : List ℕ) where
    -- a move out of scratch
    pub from_cause : Bytes (part scratch at n) → ((from_scratch l off at n scratch d).count ≡ length (part scratch at n) → ⊥)
        → Cause l (HeldOrTouched d off (length (part scratch at n))) off (length (part scratch at n)) d (from_scratch l off at n scratch d).dev
    from_cause b m = by_range (λ i. undone (λ w. m w.1) (from_or_met l d o off at n scratch i b))

    -- a move into scratch
    pub into_cause : ((into_scratch l off at n scratch d).told.count ≡ length (part scratch at n) → ⊥)
        → Cause l (Held d) off (length (part scratch at n)) d (into_scratch l off at n scratch d).told.dev
    into_cause m = by_range (λ i. undone (λ w. m w.1) (into_or_met l d o off at n scratch i))

-- ---- the shell's moves

-- why a write out of scratch fails: its window, the bytes' way to the storage, or the flush behind them
pub data OutCause (l : Lent) (w : World) (off len addr : ℕ) : Type 0 where
  out_refused : Off w addr → OutCause l w off len addr
  out_moved : Cause l (HeldOrTouched (dev_of w) off (cut_to w addr len)) off (cut_to w addr len) (dev_of w) (out_told l w off len addr).dev → OutCause l w off len addr
  out_flushed : FlushCause l (out_told l w off len addr).dev → OutCause l w off len addr

-- why a read into scratch fails: its window, or the storage
pub data InCause (l : Lent) (w : World) (off len addr : ℕ) : Type 0 where
  in_refused : Off w addr → InCause l w off len addr
  in_moved : Cause l (Held (dev_of w)) off (cut_to w addr len) (dev_of w) (in_told l w off len addr).dev → InCause l w off len addr

bytes_part : (s : List ℕ) (at n : ℕ) → Bytes s → Bytes (part s at n)
bytes_part s at n h = bytes_take n (drop at s) (λ i. rw (get_or-drop at s i 0) (h (at + i)))

module _ (l : Lent) (w : World) (off len addr : ℕ) where
  -- a window is refused, or all of it lies in scratch
  by_window : (P : Type 0) → (Off w addr → P) → (length (part w.scratch (addr - w.e.base) (cut_to w addr len)) ≡ cut_to w addr len → P) → P
  by_window P h k = go (ltb addr w.e.base) refl (ltb addr (w.e.base + length w.scratch)) refl
    where
      go : (a : Bool) → ltb addr w.e.base ≡ a → (b : Bool) → ltb addr (w.e.base + length w.scratch) ≡ b → P
      go true p b q = h (inl (ltb-true addr w.e.base p))
      go false p false q = h (inr (ltb-false addr (w.e.base + length w.scratch) q))
      go false p true q =
          let i = ltb-false addr w.e.base p in
          let j = ltb-true addr (w.e.base + length w.scratch) q in
          let m = length-take (cut_to w addr len) (drop (addr - w.e.base) w.scratch) in
          let n = length-drop (addr - w.e.base) w.scratch in
          k (omega arith)

  module _ (o : InOrder l (dev_of w)) where
    abbrev place : ℕ
    place = addr - w.e.base

    out_cause : Bytes w.scratch → OutWhy l w off len addr → OutCause l w off len addr
    out_cause b (out_window h) = out_refused h
    out_cause b (out_short h) =
        by_window (OutCause l w off len addr) out_refused
        (λ e. out_moved (rw e at (from_cause l (dev_of w) o off place (cut_to w addr len) w.scratch (bytes_part w.scratch place (cut_to w addr len) b) (rw e h))))
    out_cause b (out_flush h) =
        let m = cut_to w addr len in
        by_window (OutCause l w off len addr) out_refused
        (λ e. by_inside (OutCause l w off len addr) (dev_of w) off m (λ i. out_moved (past_capacity i)) (λ i. out_moved (past_chip i))
        (λ i. out_flushed (flush_cause l (out_told l w off len addr).dev (from_order l (dev_of w) o off place m w.scratch (rw e i) (bytes_part w.scratch place m b)) h)))

    in_cause : InWhy l w off len addr → InCause l w off len addr
    in_cause (in_window h) = in_refused h
    in_cause (in_short h) =
        by_window (InCause l w off len addr) in_refused (λ e. in_moved (rw e at (into_cause l (dev_of w) o off place (cut_to w addr len) w.scratch (rw e h))))

-- ---- the rows of Why.antt

-- the cause of a line that failed
abbrev pub RunCause : Lent → World → Option Line → Type 0
RunCause l w None = Unit {0}
RunCause l w (Some line.Done) = Unit {0}
RunCause l w (Some (line.Erase start size)) = Cause l (HeldOrTouched (dev_of w) start size) start size (dev_of w) (erasing l start size (dev_of w)).dev
RunCause l w (Some (line.Write off len addr)) = OutCause l w off len addr
RunCause l w (Some (line.Read off len addr)) = InCause l w off len addr
RunCause l w (Some (line.Boot addr len)) = Unit {0}

-- the cause of a row that says what a storage call told; the other rows are causes themselves
abbrev pub Traced : (g : Given) (c : ℕ) (bytes : List ℕ) (w : World) → Why g c bytes w → Type 0
Traced g c bytes w (write_cut n h) = Unit {0}
Traced g c bytes w (write_less n h) = Unit {0}
Traced g c bytes w (write_beyond n h) = Unit {0}
Traced g c bytes w (read_cut n h) = Unit {0}
Traced g c bytes w (read_beyond n h) = Unit {0}
Traced g c bytes w (shell_cut n h) = Unit {0}
Traced g c bytes w (shell_less n h) = Unit {0}
Traced g c bytes w (shell_text n h) = Unit {0}
Traced g c bytes w (shell_line_lem n h) = Unit {0}
Traced g c bytes w (shell_run n h) = RunCause g.lent w (line_of (line_in bytes))
Traced g c bytes w (end_flush n h) = FlushCause g.lent (dev_of w)
Traced g c bytes w (meta_cut n h) = Unit {0}
Traced g c bytes w (meta_magic n h) = Unit {0}
Traced g c bytes w (meta_flush n h) = FlushCause g.lent (dev_of w)
Traced g c bytes w (meta_unknown n h k) = Unit {0}
Traced g c bytes w (crc_flush n h) = FlushCause g.lent (dev_of w)
Traced g c bytes w (table_none n h) = Unit {0}
Traced g c bytes w (fwc_cut n h) = Unit {0}
Traced g c bytes w (erase_cut n h) = Unit {0}
Traced g c bytes w (erase_flush n h) = FlushCause g.lent (dev_of w)
Traced g c bytes w (erase_failed n h) =
    let d = (flushing g.lent (dev_of w)).dev in
    Cause g.lent (HeldOrTouched d (word_at 8 bytes 0) (word_at 8 bytes 8)) (word_at 8 bytes 0) (word_at 8 bytes 8) d
    (erasing g.lent (word_at 8 bytes 0) (word_at 8 bytes 8) d).dev

run_traced : (l : Lent) (w : World) → InOrder l (dev_of w) → Bytes w.scratch → (x : Option Line) → RunWhy l w x → RunCause l w x
run_traced l w o b None h = tt
run_traced l w o b (Some line.Done) h = tt
run_traced l w o b (Some (line.Erase start size)) h = erase_cause l (dev_of w) o start size h
run_traced l w o b (Some (line.Write off len addr)) h = out_cause l w off len addr o b h
run_traced l w o b (Some (line.Read off len addr)) h = in_cause l w off len addr o h
run_traced l w o b (Some (line.Boot addr len)) h = tt

-- every row that a storage call gave has its cause
pub traced : (g : Given) (c : ℕ) (bytes : List ℕ) (w : World) → InOrder g.lent (dev_of w) → Bytes w.scratch → (y : Why g c bytes w) → Traced g c bytes w y
traced g c bytes w o b (write_cut n h) = tt
traced g c bytes w o b (write_less n h) = tt
traced g c bytes w o b (write_beyond n h) = tt
traced g c bytes w o b (read_cut n h) = tt
traced g c bytes w o b (read_beyond n h) = tt
traced g c bytes w o b (shell_cut n h) = tt
traced g c bytes w o b (shell_less n h) = tt
traced g c bytes w o b (shell_text n h) = tt
traced g c bytes w o b (shell_line_lem n h) = tt
traced g c bytes w o b (shell_run n h) = run_traced g.lent w o b (line_of (line_in bytes)) h
traced g c bytes w o b (end_flush n h) = flush_cause g.lent (dev_of w) o h
traced g c bytes w o b (meta_cut n h) = tt
traced g c bytes w o b (meta_magic n h) = tt
traced g c bytes w o b (meta_flush n h) = flush_cause g.lent (dev_of w) o h
traced g c bytes w o b (meta_unknown n h k) = tt
traced g c bytes w o b (crc_flush n h) = flush_cause g.lent (dev_of w) o h
traced g c bytes w o b (table_none n h) = tt
traced g c bytes w o b (fwc_cut n h) = tt
traced g c bytes w o b (erase_cut n h) = tt
traced g c bytes w o b (erase_flush n h) = flush_cause g.lent (dev_of w) o h
traced g c bytes w o b (erase_failed n h) =
    erase_cause g.lent (flushing g.lent (dev_of w)).dev (flushing_order g.lent (dev_of w) o) (word_at 8 bytes 0) (word_at 8 bytes 8) h

-- ---- a NOR from its opening on

-- a NOR in order
abbrev pub NorOrder : Lent → Dev → Type 0
NorOrder l d = InOrder l d × (d.store.shape.kind ≡ Nor)

-- whatever calls have led to from one is one
nor_on : (l : Lent) (d e : Dev) → d.store.shape.kind ≡ Nor → On l d e → NorOrder l e
nor_on l d e q o =
    let k = ap (λ (x : Shape). x.kind) o.shape ∙ q in
    let s = o.shows q in
    (record { taken = o.taken; calls = s.calls; rests = record { below = λ h. omega (arith, (s.on h).1); bytes = λ n. nor_nand k n } }, k)

module _ (g : Given) where
  nor_feeds : (w : World) (a : List ℕ) → NorOrder g.lent (dev_of w) → NorOrder g.lent (dev_of (feeds g w a).w)
  nor_feeds w a o =
      let d = dev_of w in
      nor_on g.lent d (dev_of (feeds g w a).w) o.1
      ((feeds_left g (On g.lent d) (on_closed g.lent d) w a).stays.store (on_start g.lent d (order_steady g.lent d o.0)))

  nor_after : (w : World) (c : Call) → NorOrder g.lent (dev_of w) → NorOrder g.lent (dev_of (after g w c))
  unfolding writes reads
  nor_after w (write d) o = picked (λ (x : Out). NorOrder g.lent (dev_of x.w)) (fits g w) (feeds g w d) (out_of 9 w) (λ _. nor_feeds w d o) (λ _. o)
  nor_after w (read room) o = picked (λ (r : Read). NorOrder g.lent (dev_of (at_e r.e w))) (fits g w) _ _ (λ _. o) (λ _. o)
  nor_after w reset o = o

  -- any calls of a NOR in order leave it in order
  pub nor_run_order : (cs : List Call) (w : World) → NorOrder g.lent (dev_of w) → NorOrder g.lent (dev_of (after_all g w cs))
  unfolding after_all
  nor_run_order [] w o = o
  nor_run_order (c ∷ cs) w o = nor_run_order cs (after g w c) (nor_after w c o)

  module _ (w : World) (base stage device : ℕ) (e : (nor_opening g w base stage device).number ≡ 0) where
    abbrev opened : World
    opened = at_e (nor_opening g w base stage device).e w

    opened_order : NorOrder g.lent (dev_of opened)
    opened_order =
        let s = nor_store (length w.chip) (end_of g.lists) stage device in
        let i = nor_opening_is g w base stage device e in
        let o = nor_opening_lem g.lent w.chip w.buffer g.lists base (length w.scratch) stage device s i.1 in
        subst (λ (x : Opening). NorOrder g.lent (dev_of (at_e x.e w))) (sym i.0) (o, refl)

    -- so after an accepted opening, any calls, and any bytes of a write, what the storage told a command that failed has a cause
    pub nor_traced : (cs : List Call) (b p : List ℕ) (c : ℕ) (bytes : List ℕ)
        → (let v = (feeds g (after_all g (at_e (nor_opening g w base stage device).e w) cs) b).w in
        Bytes v.scratch → (y : Why g c bytes (finds p v c)) → Traced g c bytes (finds p v c) y)
    nor_traced cs b p c bytes h y =
        let u = after_all g opened cs in
        traced g c bytes (finds p (feeds g u b).w c) (nor_feeds u b (nor_run_order cs opened opened_order)).0 h y
