-- Between frames (demand 3, and rows 1a and 1b of 01). A write has status 1 only where a frame ends: its header was refused, its stream
-- was refused for want of metadata (1c), or its command was executed and answered so. Each of these empties the request, and each
-- comes where no stream is open: a stream's bytes have status 0 whatever the storage does, and no command opens a stream. So a write
-- that returns 1 leaves an engine between frames, from whatever state it began; a reset and an opening leave one too. From there
-- the first sixteen bytes written are the header that is judged: they are laid at the front of the request room, and a header says
-- what its sixteen bytes say (Front.antt). One that is refused ends the write at once, with the request emptied and nothing else done.
--   `one_between`, `reset_between`, `nor_between`, `nand_between`   what puts the engine between frames; `read_between`, a read leaves it there
--   `header_judged`, `header_gathers`   from there sixteen bytes are judged, whatever is in the request room, and fewer are gathered
--   `one_judged`, `reset_judged`        so of the write behind one that returned 1, and behind a reset
--   `refused_means`, `means_refused`    the headers that are refused: those of 1a and 1b, and no others
--   `refused_keeps`, `refused_spelled`  a refused header, some of it gathered before: only the request changes
--   `refused_behind`, `behind_spelled`  the same with whole frames before it in the call
--   `refused_cut`    the same with the header cut across writes anyhow and reads between: nothing changed since its first byte
-- `one_between`, `header_judged`, `header_gathers`, `one_judged`, `reset_judged`, `behind_spelled` and `refused_cut` stand in
-- proofs/Frames.antt.
use Rattle.std.specs.Prelude.{◌≡◌, Option, Some, Result, Ok, Err, Bool, ◌⊎◌, leb, length, get_or, replicate}
use Rattle.std.proofs.Math.Path.{refl, sym, ap, subst}
use Rattle.std.proofs.Common.{None, ◌∙◌, inl, inr, add-zero, arith, drop_of_length-le, length-take-le, take_all, take_at}
use Rattle.std.proofs.Math.Bool.{true, false, cond}
use mathlib.Core.List.{List, [], ◌∷◌, ◌++◌, append-nil, append_assoc}
use Prim.Native.Nat.{ℕ, ◌+◌, ◌-◌, ◌%◌, ◌≤◌, ◌<◌, ◌^◌, min}
use borrow.Author.Tests.{eq-eqb, ne_eqb, eqb-false, lt-leb, leb-false}
use Rattle.std.proofs.Math.Dec.{eqb}
use Rattle.std.proofs.Math.ListN.{take, drop, length-append}
use Rattle.std.proofs.lemmas.List.Edits.{sets, sets-eq}
use Rattle.std.proofs.Math.Seq.{take-append-add}
use Rattle.wire.specs.Bytes.{bytes_of, word_at}
use Rattle.wire.specs.Header.{accepted, request_of, parsed}
use Rattle.storage.specs.declared.types.Store.{Store}
use Rattle.storage.specs.declared.types.Refusal.{Refusal}
use Rattle.storage.specs.World.{Lent, Dev, Told}
use Rattle.storage.specs.Store.{flushing, erasing, reading}
use Rattle.storage.specs.Scratch.{from_scratch}
use Rattle.storage.specs.Open as opens
use Rattle.storage.specs.Partition.{Lists}
use Rattle.storage_laws.specs.Bounds.{either}
use Rattle.engine.specs.declared.types.Engine.{Engine}
use Rattle.engine.specs.declared.types.Frame.{Frame}
use Rattle.engine.specs.declared.types.Said.{Said}
use Rattle.engine.specs.declared.exec.Group.{Group}
use Rattle.engine.specs.declared.exec.Group.TheVariants as group
use Rattle.engine.specs.declared.frame.Next.{Next}
use Rattle.engine.specs.declared.frame.Next.TheVariants.{Refused, Send, Total}
use Rattle.engine.specs.declared.types.Failure.{Failure}
use Rattle.engine.specs.declared.shell.Line.{Line}
use Rattle.engine.specs.declared.shell.Line.TheVariants as line
use Rattle.engine.specs.declared.shell.Window.{Window}
use Rattle.engine.specs.World.{Given, World, world, with_frame, with_said, emptied, at_e, dev_of, at_dev, Out, out_of}
use Rattle.engine.specs.Reply.{ok, fail, whether, Ran, ran}
use Rattle.engine.specs.Command.{write_of, read_of, pair_of}
use Rattle.engine.specs.Storing.{after_flush, end_upgrade, probed, crc_query, read_fwc_by, read_fwc, erased_by, erase_storage, target_of, aimed_at, aims, is_meta, set_meta}
use Rattle.engine.specs.Shell.{line_of, window_of, text_of}
use Rattle.engine.specs.Running.{run_erase, run_write, run_read, run_boot, run_by, run_line, shell_by, shell}
use Rattle.engine.specs.Exec.{group_of, wrote_by, memory, storing, runs_by, runs}
use Rattle.engine.specs.Frame.{next_by, next_of, refuses, headed_by, heads, grown, fills, gathers}
use Rattle.engine.specs.Feed.{turns, cut_of, then_by, feeds}
use Rattle.engine.specs.Api.{rooms_ok, fits, fresh, no_store, Opening, refused, opened_by, opened_nor, opened_nand, writes, reads, read_by, Read, cleared}
use Rattle.engine.proofs.Frames.{fills_more, fills_head}
use Rattle.engine.proofs.Feeds.{feed_step, feed_nil, then_go, then_stop, turn_frame}
use Rattle.engine_laws.specs.Bounds.{in_bounds, write_feeds, write_fits, read_fits, Call, write, read, reset, after_all}
use Rattle.engine_laws.specs.Cut.{write_cut_unaimed}
use Rattle.engine_laws.specs.Front.{gathered_header}

-- ---- between frames

-- no byte of a frame is gathered, and no stream is open
pub record Between (e : Engine) : Type 0 where
  pub len : e.frame.len ≡ 0
  pub total : e.frame.total ≡ 0
  pub left : e.up.left ≡ 0

-- an opened engine is between frames
pub opening_between : (base : ℕ) (s : Store) → Between (fresh base s)
opening_between base s = record { len = refl; total = refl; left = refl }

-- so is what every opening gives, accepted or refused
opened_between : (base : ℕ) (o : Result Store Refusal) → Between (opened_by base o).e
opened_between base (Ok s) = opening_between base s
opened_between base (Err n) = opening_between 0 no_store

module _ (request reply chip : ℕ) (l : Lists) (base scratch stage device : ℕ) where
  pub nor_between : (buffer : ℕ) → Between (opened_nor request reply chip buffer l base scratch stage device).e
  unfolding opened_nor
  nor_between buffer =
      either (λ (o : Opening). Between o.e) (rooms_ok request reply) (opened_by base (opens.opened_nor chip buffer l base scratch stage device)) (refused 9)
      (opened_between base (opens.opened_nor chip buffer l base scratch stage device)) (opening_between 0 no_store)

  pub nand_between : (page pages blocks marks capacity : ℕ)
      → Between (opened_nand request reply chip page pages blocks marks capacity l base scratch stage device).e
  unfolding opened_nand
  nand_between page pages blocks marks capacity =
      let o = opens.opened_nand chip page pages blocks marks capacity l base scratch stage device in
      either (λ (o : Opening). Between o.e) (rooms_ok request reply) (opened_by base o) (refused 9) (opened_between base o) (opening_between 0 no_store)

-- demand 3: 'a reset puts the engine between frames'
pub reset_between : (e : Engine) → Between (cleared e)
reset_between e = record { len = refl; total = refl; left = refl }

-- a read leaves it there
pub read_between : (g : Given) (w : World) (room : List ℕ) → Between w.e → Between (reads g w room).e
unfolding reads
read_between g w room b =
    either (λ (r : Read). Between r.e) (fits g w) _ _ (record { len = b.len; total = b.total; left = b.left }) b

-- ---- no command opens a stream, or takes from one

abbrev Same : World → Ran → Type 0
Same w r = r.w.e.up.left ≡ w.e.up.left

module _ (l : Lent) (w : World) where
  flush_same : (next : World → Ran) → ((d : Dev) → Same w (next (at_dev d w))) → Same w (after_flush w next (flushing l (dev_of w)))
  flush_same next h =
      let t = flushing l (dev_of w) in
      either (Same w) (eqb t.status 0) (next (at_dev t.dev w)) (ran fail (at_dev t.dev w)) (h t.dev) refl

  end_same : Same w (end_upgrade l w)
  unfolding end_upgrade
  end_same = flush_same (ran (ok [])) (λ d. refl)

  probed_same : (v : World) → (probed l v).e.up.left ≡ v.e.up.left
  unfolding probed
  probed_same v =
      either (λ (u : World). u.e.up.left ≡ v.e.up.left) v.e.up.aimed
      (at_dev (reading l v.e.up.target (replicate 16 0) (dev_of v)).told.dev v) v refl refl

  crc_same : Same w (crc_query l w)
  unfolding crc_query
  crc_same = flush_same (λ v. ran (ok (bytes_of 4 v.e.up.crc)) (probed l v)) (λ d. probed_same (at_dev d w))

  fwc_same : (d : List ℕ) → Same w (read_fwc l d w)
  unfolding read_fwc
  fwc_same d = go (pair_of d)
    where
      go : (p : Option (ℕ × ℕ)) → Same w (read_fwc_by l w p)
      go None = refl
      go (Some (off, len)) = refl

  erased_same : (d : List ℕ) → Same w (erase_storage l d w)
  unfolding erase_storage
  erased_same d =
      let e : World → Told = λ v. erasing l (word_at 8 d 0) (word_at 8 d 8) (dev_of v) in
      either (Same w) (leb 24 (length d)) (after_flush w (λ v. erased_by v (e v)) (flushing l (dev_of w))) (ran fail w)
      (flush_same (λ v. erased_by v (e v)) (λ d. refl)) refl

  aims_same : (s : Lists) (meta : List ℕ) (v : World) → (aims s meta v).w.e.up.left ≡ v.e.up.left
  unfolding aims
  aims_same s meta v = go (target_of s meta)
    where
      go : (t : Result (Option ℕ) Failure) → (aimed_at meta v.e.up t).left ≡ v.e.up.left
      go (Ok None) = refl
      go (Ok (Some o)) = refl
      go (Err x) = refl

  meta_same : (s : Lists) (d : List ℕ) → Same w (set_meta l s d w)
  unfolding set_meta
  meta_same s d =
      let m = drop (length d - 512) d in
      let f = after_flush w (aims s m) (flushing l (dev_of w)) in
      either (Same w) (leb 512 (length d)) (cond (is_meta m) f (ran fail w)) (ran fail w)
      (either (Same w) (is_meta m) f (ran fail w) (flush_same (aims s m) (λ d. aims_same s m (at_dev d w))) refl) refl

  write_same : (off : ℕ) (x : Option Window) → Same w (run_write l off x w)
  unfolding run_write
  write_same off None = refl
  write_same off (Some x) =
      let t = from_scratch l off x.place x.len w.scratch (dev_of w) in
      let u = at_dev t.dev w in
      let f = flushing l (dev_of u) in
      either (Same w) (eqb t.count x.len) (ran (whether (eqb f.status 0)) (at_dev f.dev u)) (ran fail u) refl refl

  take_same : (off : ℕ) (x : Option Window) → Same w (run_read l off x w)
  unfolding run_read
  take_same off None = refl
  take_same off (Some x) = refl

  boot_same : (x : Option Window) → Same w (run_boot x w)
  unfolding run_boot
  boot_same None = refl
  boot_same (Some x) = refl

  line_same : (x : Option Line) → Same w (run_by l w x)
  unfolding run_erase
  line_same None = refl
  line_same (Some line.Done) = refl
  line_same (Some (line.Erase start size)) = refl
  line_same (Some (line.Write off len addr)) = write_same off (window_of w.e.base (length w.scratch) addr len)
  line_same (Some (line.Read off len addr)) = take_same off (window_of w.e.base (length w.scratch) addr len)
  line_same (Some (line.Boot addr len)) = boot_same (window_of w.e.base (length w.scratch) addr len)

shell_same : (l : Lent) (d : List ℕ) (w : World) → Same w (shell l d w)
unfolding shell run_line
shell_same l d w = go (text_of d)
  where
    go : (x : Option ℕ) → Same w (shell_by l d w x)
    go None = refl
    go (Some n) = line_same l _ (line_of (take n (drop 4 d)))

module _ (g : Given) where
  memory_same : (c : ℕ) (d : List ℕ) (w : World) → Same w (memory c d w)
  unfolding memory
  memory_same c d w =
      either (Same w) (eqb c 0x02) (wrote_by w (write_of w.e.base w.scratch d)) (ran (read_of w.e.base w.scratch d) w) refl refl

  storing_same : (c : ℕ) (d : List ℕ) (w : World) → Same w (storing g c d w)
  unfolding storing
  storing_same c d w =
      let l = g.lent in
      let e = erase_storage l d w in
      let r = cond (eqb c 0x18) (read_fwc l d w) e in
      let q = cond (eqb c 0x13) (crc_query l w) r in
      let m = cond (eqb c 0x10) (set_meta l g.lists d w) q in
      either (Same w) (eqb c 0x0B) (end_upgrade l w) m (end_same l w)
      (either (Same w) (eqb c 0x10) (set_meta l g.lists d w) q (meta_same l w g.lists d)
      (either (Same w) (eqb c 0x13) (crc_query l w) r (crc_same l w) (either (Same w) (eqb c 0x18) (read_fwc l d w) e (fwc_same l w d) (erased_same l w d))))

  -- a command leaves as much of a stream to come as there was
  pub runs_same : (c : ℕ) (d : List ℕ) (w : World) → (runs g c d w).w.e.up.left ≡ w.e.up.left
  unfolding runs
  runs_same c d w = go (group_of c)
    where
      go : (x : Group) → Same w (runs_by g c d w x)
      go group.Memory = memory_same c d w
      go group.Shell = shell_same g.lent d w
      go group.Storage = storing_same c d w
      go group.Plain = refl

  -- such a write was not refused, so the engine fits its parts
  pub one_fits : (w : World) (d : List ℕ) → (writes g w d).status ≡ 1 → fits g w ≡ true
  unfolding writes
  one_fits w d = go (fits g w)
    where
      go : (b : Bool) → (cond b (feeds g w d) (out_of 9 w)).status ≡ 1 → b ≡ true
      go true z = refl
      go false z = absurd (omega arith)

  -- ---- a header

  -- no stream is open, and a header is not complete: k of its bytes are gathered
  pub record Heading (w : World) : Type 0 where
    pub fit : fits g w ≡ true
    pub total : w.e.frame.total ≡ 0
    pub left : w.e.up.left ≡ 0

  module _ (w : World) (h : Heading w) where
    abbrev k : ℕ
    k = w.e.frame.len

    pub head_few : k < 16
    head_few = (in_bounds g w h.fit).fit.frame.0 h.total

    head_cut : cut_of w ≡ 16 - k
    head_cut = let i = head_few in rw (eq-eqb w.e.up.left 0 h.left, eq-eqb w.e.frame.total 0 h.total) (omega arith)

    head_turn : (p : List ℕ) → turns g p w ≡ fills g (grown w p)
    unfolding gathers
    head_turn p = sym (turn_frame g p w h.left refl)

    -- the piece that completes the header
    head_whole : (p : List ℕ) → k + length p ≡ 16 → turns g p w ≡ headed_by g (grown w p) (next_of (take k w.request ++ p))
    unfolding heads
    head_whole p e =
        let r = (in_bounds g w h.fit).fit.mid.request in
        head_turn p ∙ sym (fills_head g (grown w p) h.total (omega arith) {o = heads g (grown w p)} refl)
        ∙ ap (headed_by g (grown w p)) (gathered_header w.request k p head_few e (omega arith))

    -- sixteen bytes are judged once they are there, the gathered ones and those of this write
    pub heading_judged : (d : List ℕ) → 16 ≤ k + length d
        → writes g w d ≡ then_by (headed_by g (grown w (take (16 - k) d)) (next_of (take k w.request ++ take (16 - k) d))) (λ v. feeds g v (drop (16 - k) d))
    heading_judged d n =
        let i = head_few in
        let t = length-take-le (16 - k) d (omega arith) in
        write_feeds g w h.fit d ∙ feed_step g w d (omega arith)
        ∙ ap (λ (m : ℕ). then_by (turns g (take m d) w) (λ v. feeds g v (drop m d))) head_cut
        ∙ ap (λ (o : Out). then_by o (λ v. feeds g v (drop (16 - k) d))) (head_whole (take (16 - k) d) (omega arith))

    -- fewer are gathered
    pub heading_gathers : (d : List ℕ) → k + length d < 16 → writes g w d ≡ out_of 0 (grown w d)
    heading_gathers d n = write_feeds g w h.fit d ∙ go d n
      where
        go : (d : List ℕ) → k + length d < 16 → feeds g w d ≡ out_of 0 (grown w d)
        go [] n = feed_nil g w ∙ rw add-zero
        go (b ∷ bs) n =
            let d = b ∷ bs in
            let c = head_cut in
            let t : turns g d w ≡ out_of 0 (grown w d) = head_turn d ∙ sym (fills_more g (grown w d) h.total n) in
            feed_step g w d (omega arith)
            ∙ rw (take_all (cut_of w) d (omega arith), drop_of_length-le d {i = cut_of w} (omega arith), t) (then_go g (out_of 0 (grown w d)) _ refl)
            ∙ feed_nil g (grown w d)

-- ---- which headers are refused

-- 1a: 'header not UPGC or wrong checksum'
abbrev pub Wrong : List ℕ → Type 0
Wrong h = accepted h ≡ false

-- 1b: 'frame over 8,208 bytes', header and data, where the data is no stream
abbrev pub Over : List ℕ → Type 0
Over h = (accepted h ≡ true) × (get_or h 6 0 ≡ 0x12 → ⊥) × (8192 < word_at 4 h 8)

-- demand 3: 'refused for a wrong header or its size (1a, 1b)'
pub refused_means : (h : List ℕ) → next_of h ≡ Refused → Wrong h ⊎ Over h
unfolding parsed
refused_means h = go (accepted h) refl
  where
    by : (c n : ℕ) (a b : Bool) → eqb c 0x12 ≡ a → leb n 8192 ≡ b → cond a (Send (n % 2 ^ 32)) (cond b (Total (16 + n)) Refused) ≡ Refused → (c ≡ 0x12 → ⊥) × (8192 < n)
    by c n true b p q e = let z : ◌≡◌ {A = ℕ} 0 1 = cc in absurd (omega arith)
    by c n false true p q e = let z : ◌≡◌ {A = ℕ} 0 1 = cc in absurd (omega arith)
    by c n false false p q e = (eqb-false c 0x12 p, leb-false n 8192 q)

    go : (a : Bool) → accepted h ≡ a → next_by (cond a (request_of (get_or h 6 0) (get_or h 7 0) (word_at 4 h 8)) None) ≡ Refused → Wrong h ⊎ Over h
    go true p e = let r = by (get_or h 6 0) (word_at 4 h 8) (eqb (get_or h 6 0) 0x12) (leb (word_at 4 h 8) 8192) refl refl e in inr (p, r.0, r.1)
    go false p e = inl p

-- and these are
pub means_refused : (h : List ℕ) → Wrong h ⊎ Over h → next_of h ≡ Refused
unfolding parsed
means_refused h (inl p) = rw p
means_refused h (inr r) = rw (r.0, ne_eqb (get_or h 6 0) 0x12 r.1, lt-leb (word_at 4 h 8) 8192 r.2)

-- ---- a refused header changes nothing but the request

-- update record, flash, the buffer before it, scratch, the reply room's bytes and both flags are as they were
pub record Alike (w v : World) : Type 0 where
  pub up : v.e.up ≡ w.e.up
  pub reply : v.reply ≡ w.reply
  pub store : v.e.store ≡ w.e.store
  pub chip : v.chip ≡ w.chip
  pub buffer : v.buffer ≡ w.buffer
  pub scratch : v.scratch ≡ w.scratch
  pub upgrading : v.e.upgrading ≡ w.e.upgrading
  pub asked : v.e.asked ≡ w.e.asked
  pub base : v.e.base ≡ w.e.base

pub alike_refl : (w : World) → Alike w w
alike_refl w =
    record { up = refl; reply = refl; store = refl; chip = refl; buffer = refl; scratch = refl; upgrading = refl; asked = refl; base = refl }

-- from v on only frame, request and said differ
pub alike_on : (w v : World) (f : Frame) (s : Said) (q : List ℕ) → Alike w v
    → Alike w (world (with_said s (with_frame f v.e)) q v.reply v.chip v.buffer v.scratch)
alike_on w v f s q a =
    record {
      up = a.up;
      reply = a.reply;
      store = a.store;
      chip = a.chip;
      buffer = a.buffer;
      scratch = a.scratch;
      upgrading = a.upgrading;
      asked = a.asked;
      base = a.base;
    }

-- status 1, all this and what waits of the reply as it was, and the engine between frames
pub record Untouched (w : World) (o : Out) : Type 0 where
  pub status : o.status ≡ 1
  pub alike : Alike w o.w
  pub said : o.w.e.said ≡ w.e.said
  pub between : Between o.w.e

-- the sixteen bytes that are judged, some of them gathered before
abbrev pub header_at : World → List ℕ → List ℕ
header_at w d = take w.e.frame.len w.request ++ take (16 - w.e.frame.len) d

-- what a refused header leaves, of which p are the bytes that completed it
abbrev pub turned_away : World → List ℕ → Out
turned_away w p =
    out_of 1 (at_e (emptied w.e) (world w.e (sets w.request w.e.frame.len p) w.reply w.chip w.buffer w.scratch))

-- the bytes that a run of calls wrote
abbrev pub sent_by : List Call → List ℕ
sent_by [] = []
sent_by (write d ∷ cs) = d ++ sent_by cs
sent_by (read room ∷ cs) = sent_by cs
sent_by (reset ∷ cs) = sent_by cs

-- writes and reads
abbrev pub NoReset : List Call → Type 0
NoReset [] = Unit {0}
NoReset (write d ∷ cs) = NoReset cs
NoReset (read room ∷ cs) = NoReset cs
NoReset (reset ∷ cs) = ⊥

module _ (g : Given) where
  module _ (w : World) (h : Heading g w) (d : List ℕ) (n : 16 ≤ w.e.frame.len + length d) (r : next_of (header_at w d) ≡ Refused) where
    -- 1a, 1b: 'write returns 1; rest of this call dropped; request emptied; all else kept', whatever was gathered before
    pub refused_keeps : writes g w d ≡ turned_away w (take (16 - w.e.frame.len) d)
    refused_keeps =
        let p = take (16 - w.e.frame.len) d in
        heading_judged g w h d n ∙ ap (λ (x : Next). then_by (headed_by g (grown w p) x) (λ v. feeds g v (drop (16 - w.e.frame.len) d))) r
        ∙ then_stop g (refuses (grown w p)) _ (λ z. omega arith)

    -- demand 3: 'A frame refused for a wrong header or its size (1a, 1b) changes no update record, waiting reply or flash'
    pub refused_spelled : Untouched w (writes g w d)
    refused_spelled =
        rw refused_keeps
        (record {
          status = refl;
          alike = alike_on w w (record { len = 0; total = 0 }) w.e.said (sets w.request w.e.frame.len (take (16 - w.e.frame.len) d)) (alike_refl w);
          said = refl;
          between = record { len = refl; total = refl; left = h.left };
        })

  -- the same with frames before it in the call: they are done as if they came alone, and the refused one changes nothing of what they left
  module _ (w : World) (f : fits g w ≡ true) (a d : List ℕ) (z : (writes g w a).status ≡ 0) where
    abbrev v : World
    v = (writes g w a).w

    module _ (t : v.e.frame.total ≡ 0) (l : v.e.up.left ≡ 0) (n : 16 ≤ v.e.frame.len + length d) (r : next_of (header_at v d) ≡ Refused) where
      pub behind_heading : Heading g v
      behind_heading = record { fit = write_fits g w f a; total = t; left = l }

      pub behind_cut : writes g w (a ++ d) ≡ writes g v d
      behind_cut = write_cut_unaimed g w f a d z (λ o. absurd (o l))

      pub refused_behind : writes g w (a ++ d) ≡ turned_away v (take (16 - v.e.frame.len) d)
      refused_behind = behind_cut ∙ refused_keeps v behind_heading d n r

  -- ---- a header cut across writes, with reads between

  -- since w the bytes h of a header came, and no more: they are what is gathered in v, and all else is as it was but what a read took
  pub record Begun (w : World) (h : List ℕ) (v : World) : Type 0 where
    pub heading : Heading g v
    pub bytes : take v.e.frame.len v.request ≡ h
    pub len : v.e.frame.len ≡ length h
    pub alike : Alike w v
    pub told : v.e.said.len ≡ w.e.said.len

  module _ (w : World) (h : List ℕ) (v : World) (b : Begun w h v) where
    abbrev at : ℕ
    at = v.e.frame.len

    -- a piece that does not complete it
    begun_write : (d : List ℕ) → length h + length d < 16 → Begun w (h ++ d) (writes g v d).w
    begun_write d n =
        let f = b.heading.fit in
        let l = b.len in
        let r = (in_bounds g v f).fit.mid.request in
        let e = heading_gathers g v b.heading d (omega arith) in
        let t = length-take-le at v.request (omega arith) in
        let m : length (take at v.request ++ d) ≡ at + length d = length-append (take at v.request) d ∙ ap (λ (k : ℕ). k + length d) t in
        let fit : fits g (grown v d) ≡ true = subst (λ (o : Out). fits g o.w ≡ true) e (write_fits g v f d) in
        subst (λ (o : Out). Begun w (h ++ d) o.w) (sym e)
        (record {
          heading = record { fit = fit; total = b.heading.total; left = b.heading.left };
          bytes =
              ap (take (at + length d)) (sets-eq d v.request at (omega arith))
              ∙ take_at (take at v.request ++ d) (drop (at + length d) v.request) (at + length d) m ∙ ap (λ (x : List ℕ). x ++ d) b.bytes;
          len = ap (λ (k : ℕ). k + length d) l ∙ sym (length-append h d);
          alike = alike_on w v (record { len = at + length d; total = v.e.frame.total }) v.e.said (sets v.request at d) b.alike;
          told = b.told;
        })

    -- a read
    begun_read : (room : List ℕ) → Begun w h (at_e (reads g v room).e v)
    begun_read room =
        let f = b.heading.fit in
        let n = min (v.e.said.len - v.e.said.pos) (length room) in
        let e : reads g v room ≡ read_by v room n = unfold reads in rw f in
        let fit : fits g (at_e (read_by v room n).e v) ≡ true = subst (λ (r : Read). fits g (at_e r.e v) ≡ true) e (read_fits g v f room) in
        subst (λ (r : Read). Begun w h (at_e r.e v)) (sym e)
        (record {
          heading = record { fit = fit; total = b.heading.total; left = b.heading.left };
          bytes = b.bytes;
          len = b.len;
          alike = alike_on w v v.e.frame (record { len = v.e.said.len; pos = v.e.said.pos + n }) v.request b.alike;
          told = b.told;
        })

    -- with the piece that completes it, the first sixteen bytes of all that came are judged
    pub header_is : (d : List ℕ) → length h < 16 → header_at v d ≡ take 16 (h ++ d)
    header_is d n =
        let k : length h + (16 - length h) ≡ 16 = omega arith in
        rw (b.bytes, b.len) (sym (take-append-add h d (16 - length h))) ∙ ap (λ (m : ℕ). take m (h ++ d)) k

    pub begun_judged : (d : List ℕ) → 16 ≤ length h + length d
        → writes g v d ≡ then_by (headed_by g (grown v (take (16 - length h) d)) (next_of (take 16 (h ++ d)))) (λ u. feeds g u (drop (16 - length h) d))
    begun_judged d n =
        let i = head_few g v b.heading in
        let l = b.len in
        heading_judged g v b.heading d (omega arith)
        ∙ ap (λ (x : List ℕ). then_by (headed_by g (grown v (take (16 - at) d)) (next_of x)) (λ u. feeds g u (drop (16 - at) d))) (header_is d (omega arith))
        ∙ ap (λ (k : ℕ). then_by (headed_by g (grown v (take (16 - k) d)) (next_of (take 16 (h ++ d)))) (λ u. feeds g u (drop (16 - k) d))) l

  pub begun_run : (cs : List Call) (w : World) (h : List ℕ) (v : World) → Begun w h v → NoReset cs → length h + length (sent_by cs) < 16
      → Begun w (h ++ sent_by cs) (after_all g v cs)
  unfolding after_all
  begun_run [] w h v b o n = rw (append-nil h) b
  begun_run (write d ∷ cs) w h v b o n =
      let m = length-append d (sent_by cs) in
      let i = length-append h d in
      subst (λ (x : List ℕ). Begun w x (after_all g (writes g v d).w cs)) (append_assoc h d (sent_by cs))
      (begun_run cs w (h ++ d) (writes g v d).w (begun_write w h v b d (omega arith)) o (omega arith))
  begun_run (read room ∷ cs) w h v b o n = begun_run cs w h (at_e (reads g v room).e v) (begun_read w h v b room) o n
  begun_run (reset ∷ cs) w h v b o n = absurd o
