-- A read of a reply between writes changes nothing but the place in the reply: no turn of a write looks at `said`.
--   The numbers of the waiting reply stand in a group of their own, `said`. No test of a turn, no storage call and no answer is made
-- from it. So from two worlds that differ in `said` alone a command answers the same, and leaves worlds that differ in `said` alone
-- (`runs_aside`). A turn that answers a command or ends a stream lays its reply over `said` wholly, and then both worlds are one; any
-- other turn passes `said` on as it was, and the reply room too (`turns_aside`). Turn after turn the same holds of a write
-- (`feeds_aside`, `writes_aside`): either it lays a reply, and then it gives the same thing whatever `said` was, or it lays none, and
-- then what it leaves differs in `said` alone.
--   A read is such a change of `said` (`read_at_said`). So before a write that lays a reply it may be left out, and before any other it
-- may as well come behind it (`read_aside`); and in any run of calls all reads may be left out (`reads_unread`).
use Rattle.std.specs.Prelude.{◌≡◌, Option, None, Some, Result, Ok, Bool, true, false, ◌||◌, ◌⊎◌, leb, ltb, eqb, length, replicate}
use Rattle.std.proofs.Math.Path.{refl, ap, subst}
use Rattle.std.proofs.Common.{sym, ◌∙◌}
use Rattle.std.proofs.Math.Bool.{cond}
use mathlib.Core.List.{List, [], ◌∷◌}
use Rattle.std.proofs.Math.Logic.{inl, inr}
use Prim.Native.Nat.{ℕ, zero, suc, ◌+◌, ◌-◌, min}
use native.Mathlib.Omega.{arith}
use Rattle.std.proofs.Math.ListN.{take, drop}
use Rattle.std.proofs.lemmas.List.Edits.{sets}
use Rattle.wire.specs.Bytes.{bytes_of, word_at}
use Rattle.storage.specs.World.{Lent, Told}
use Rattle.storage.specs.Store.{flushing, erasing, writing, reading}
use Rattle.storage.specs.Scratch.{from_scratch}
use Rattle.storage.specs.Partition.{Lists}
use Rattle.storage_laws.specs.Bounds.{either}
use Rattle.engine.specs.declared.types.Said.{Said}
use Rattle.storage.specs.declared.types.CallError.{CallError}
use Rattle.engine.specs.declared.exec.Group.{Group}
use Rattle.engine.specs.declared.exec.Group.TheVariants as group
use Rattle.engine.specs.declared.frame.Next.{Next}
use Rattle.engine.specs.declared.frame.Next.TheVariants.{Refused, Send, Total}
use Rattle.engine.specs.declared.command.Short.{Short}
use Rattle.engine.specs.declared.command.Short.TheVariants.{Other, Empty, Word}
use Rattle.engine.specs.declared.shell.Line.{Line}
use Rattle.engine.specs.declared.shell.Line.TheVariants as line
use Rattle.engine.specs.declared.shell.Window.{Window}
use Rattle.engine.specs.World.{Given, World, with_said, with_up, with_flags, emptied, at_e, dev_of, at_dev, Out, out_of}
use Rattle.engine.specs.Reply.{Answer, ok, fail, whether, Ran, ran, status_by, replied, ends}
use Rattle.engine.specs.Command.{short_of, long_by, long_of, plain_by, plain, pair_of, read_of, write_of}
use Rattle.engine.specs.Storing.{after_flush, end_upgrade, probed, crc_query, read_fwc_by, read_fwc, erased_by, erase_storage, aims, is_meta, set_meta}
use Rattle.engine.specs.Shell.{line_of, window_of, text_of, is_reset}
use Rattle.engine.specs.Running.{run_erase, run_write, run_read, run_boot, run_by, run_line, shell_by, shell}
use Rattle.engine.specs.Exec.{group_of, wrote_by, memory, storing, runs_by, runs, order_of, begun, answered, performs, exec_by, execs}
use Rattle.engine.specs.Stream.{fed_by, fed, taken, settled_by, settled, said_of, finishes, streamed_by, streams, started, begins}
use Rattle.engine.specs.Frame.{next_of, framed, ripens, headed_by, heads, grown, fills, gathers}
use Rattle.engine.specs.Feed.{SaidFit, turns, cut_of, then_by, goes, feeds}
use Rattle.engine.specs.Api.{fits, writes, Read, reads, cleared}
use Rattle.engine_laws.specs.Bounds.{in_bounds, bounds_fit, write_feeds, write_fits, reset_fits, Call, write, read, reset, after, after_all}
use Rattle.engine_laws.specs.Whole.{at_said}

-- what a step from w gives, and what it gives with s for `said`: the same thing, with the place at the front, where a reply was laid; else
-- the same with s, and then both the waiting reply and the place in it are those of w
abbrev pub Aside : Said → World → Out → Out → Type 0
Aside s w o p = ((p ≡ o) × (o.w.e.said.pos ≡ 0)) ⊎ ((p ≡ out_of o.status (at_said s o.w)) × (o.w.e.said ≡ w.e.said) × (o.w.reply ≡ w.reply))

module _ (s : Said) where
  -- ---- one step in two worlds

  -- what a command answers, and the same with s
  abbrev Beside : Ran → Ran → Type 0
  Beside r q = q ≡ ran r.answer (at_said s r.w)

  -- what a step leaves, and the same with s
  abbrev Beyond : World → World → Type 0
  Beyond v u = u ≡ at_said s v

  -- what holds of both halves holds of the one that a test picks, where the test is the same
  pick : {A : Type 0} (R : A → A → Type 0) (b : Bool) (w : World) (f h : World → A) → R (f w) (f (at_said s w)) → R (h w) (h (at_said s w))
      → R (cond b (f w) (h w)) (cond b (f (at_said s w)) (h (at_said s w)))
  pick R true w f h p q = p
  pick R false w f h p q = q

  -- a flush, and then more
  flush_aside : (w : World) (t : Told) (next : World → Ran) → ((v : World) → Beside (next v) (next (at_said s v))) → Beside (after_flush w next t) (after_flush (at_said s w) next t)
  flush_aside w t next h =
      pick Beside (eqb t.status 0) w (λ v. next (at_dev t.dev v)) (λ v. ran fail (at_dev t.dev v)) (h (at_dev t.dev w)) refl

  -- ---- the commands of scratch

  memory_aside : (n : ℕ) (d : List ℕ) (w : World) → Beside (memory n d w) (memory n d (at_said s w))
  unfolding memory
  memory_aside n d w =
      pick Beside (eqb n 0x02) w (λ v. wrote_by v (write_of v.e.base v.scratch d)) (λ v. ran (read_of v.e.base v.scratch d) v) refl refl

  module _ (l : Lent) where
    -- ---- the commands over the storage

    end_aside : (w : World) → Beside (end_upgrade l w) (end_upgrade l (at_said s w))
    unfolding end_upgrade
    end_aside w = flush_aside w (flushing l (dev_of w)) (ran (ok [])) (λ v. refl)

    probed_aside : (w : World) → Beyond (probed l w) (probed l (at_said s w))
    unfolding probed
    probed_aside w =
        pick Beyond w.e.up.aimed w (λ v. at_dev (reading l v.e.up.target (replicate 16 0) (dev_of v)).told.dev v) (λ v. v) refl refl

    crc_aside : (w : World) → Beside (crc_query l w) (crc_query l (at_said s w))
    unfolding crc_query
    crc_aside w =
        flush_aside w (flushing l (dev_of w)) (λ v. ran (ok (bytes_of 4 v.e.up.crc)) (probed l v)) (λ v. ap (ran (ok (bytes_of 4 v.e.up.crc))) (probed_aside v))

    fwc_aside : (d : List ℕ) (w : World) → Beside (read_fwc l d w) (read_fwc l d (at_said s w))
    unfolding read_fwc
    fwc_aside d w = go (pair_of d)
      where
        go : (p : Option (ℕ × ℕ)) → Beside (read_fwc_by l w p) (read_fwc_by l (at_said s w) p)
        go None = refl
        go (Some (off, len)) = refl

    erased_aside : (d : List ℕ) (w : World) → Beside (erase_storage l d w) (erase_storage l d (at_said s w))
    unfolding erase_storage
    erased_aside d w =
        let e : World → Ran = λ v. erased_by v (erasing l (word_at 8 d 0) (word_at 8 d 8) (dev_of v)) in
        pick Beside (leb 24 (length d)) w (λ v. after_flush v e (flushing l (dev_of v))) (λ v. ran fail v) (flush_aside w (flushing l (dev_of w)) e (λ v. refl)) refl

    aims_aside : (t : Lists) (m : List ℕ) (w : World) → Beside (aims t m w) (aims t m (at_said s w))
    unfolding aims
    aims_aside t m w = refl

    meta_aside : (t : Lists) (d : List ℕ) (w : World) → Beside (set_meta l t d w) (set_meta l t d (at_said s w))
    unfolding set_meta
    meta_aside t d w =
        let m = drop (length d - 512) d in
        let f : World → Ran = λ v. after_flush v (aims t m) (flushing l (dev_of v)) in
        let no : World → Ran = λ v. ran fail v in
        pick Beside (leb 512 (length d)) w (λ v. cond (is_meta m) (f v) (no v)) no
        (pick Beside (is_meta m) w f no (flush_aside w (flushing l (dev_of w)) (aims t m) (aims_aside t m)) refl) refl

    -- ---- the shell

    erase_aside : (start size : ℕ) (w : World) → Beside (run_erase l start size w) (run_erase l start size (at_said s w))
    unfolding run_erase
    erase_aside start size w = refl

    write_aside : (off : ℕ) (x : Option Window) (w : World) → Beside (run_write l off x w) (run_write l off x (at_said s w))
    unfolding run_write
    write_aside off None w = refl
    write_aside off (Some x) w =
        let t = from_scratch l off x.place x.len w.scratch (dev_of w) in
        let f = flushing l t.dev in
        pick Beside (eqb t.count x.len) w (λ v. ran (whether (eqb f.status 0)) (at_dev f.dev v)) (λ v. ran fail (at_dev t.dev v)) refl refl

    take_aside : (off : ℕ) (x : Option Window) (w : World) → Beside (run_read l off x w) (run_read l off x (at_said s w))
    unfolding run_read
    take_aside off None w = refl
    take_aside off (Some x) w = refl

    boot_aside : (x : Option Window) (w : World) → Beside (run_boot x w) (run_boot x (at_said s w))
    unfolding run_boot
    boot_aside None w = refl
    boot_aside (Some x) w = refl

    line_aside : (w : World) (x : Option Line) → Beside (run_by l w x) (run_by l (at_said s w) x)
    line_aside w None = refl
    line_aside w (Some line.Done) = refl
    line_aside w (Some (line.Erase start size)) = erase_aside start size w
    line_aside w (Some (line.Write off len addr)) = write_aside off (window_of w.e.base (length w.scratch) addr len) w
    line_aside w (Some (line.Read off len addr)) = take_aside off (window_of w.e.base (length w.scratch) addr len) w
    line_aside w (Some (line.Boot addr len)) = boot_aside (window_of w.e.base (length w.scratch) addr len) w

    text_aside : (d : List ℕ) (w : World) (x : Option ℕ) → Beside (shell_by l d w x) (shell_by l d (at_said s w) x)
    unfolding run_line
    text_aside d w None = refl
    text_aside d w (Some n) =
        let x = take n (drop 4 d) in
        line_aside (at_e (with_flags w.e.upgrading (w.e.asked || is_reset x) w.e) w) (line_of x)

    shell_aside : (d : List ℕ) (w : World) → Beside (shell l d w) (shell l d (at_said s w))
    unfolding shell
    shell_aside d w = text_aside d w (text_of d)

    -- ---- a stream

    pub fed_aside : (p : List ℕ) (w : World) → Beyond (fed l p w) (fed l p (at_said s w))
    unfolding fed
    fed_aside p w =
        pick Beyond w.e.up.aimed w (λ v. fed_by v p (writing l (v.e.up.target + v.e.up.written) p (dev_of v)))
        (λ v. at_e (with_up (taken p (length p) v.e.up) v.e) v) refl refl

    -- a piece lays no reply
    fed_kept : (p : List ℕ) (w : World) → ((fed l p w).e.said ≡ w.e.said) × ((fed l p w).reply ≡ w.reply)
    unfolding fed
    fed_kept p w =
        either (λ (v : World). (v.e.said ≡ w.e.said) × (v.reply ≡ w.reply)) w.e.up.aimed
        (fed_by w p (writing l (w.e.up.target + w.e.up.written) p (dev_of w))) (at_e (with_up (taken p (length p) w.e.up) w.e) w)
        (refl, refl) (refl, refl)

    settled_aside : (w : World) → Beyond (settled l w) (settled l (at_said s w))
    unfolding settled
    settled_aside w = pick Beyond (eqb w.e.up.burn 0) w (λ v. settled_by v (flushing l (dev_of v))) (λ v. v) refl refl

  -- ---- replies

  -- a reply is laid over whatever `said` was
  replied_over : (n : ℕ) (a : Answer) (w : World) → replied n a (at_said s w) ≡ replied n a w
  unfolding replied
  replied_over n a w = refl

  -- and none of it was read
  replied_front : (n : ℕ) (a : Answer) (w : World) → (replied n a w).e.said.pos ≡ 0
  unfolding replied
  replied_front n a w = refl

  ends_aside : (n : ℕ) (a : Answer) (w : World) → Aside s w (ends n a w) (ends n a (at_said s w))
  unfolding ends
  ends_aside n a w = inl (ap (out_of (status_by a)) (replied_over n a w), replied_front n a w)

  module _ (l : Lent) where
    -- the end of a stream lays a reply
    pub finishes_over : (w : World) → finishes l (at_said s w) ≡ finishes l w
    unfolding finishes
    finishes_over w = let v = settled l w in ap said_of (settled_aside l w) ∙ ap (out_of 0) (replied_over 0x12 (whether (eqb v.e.up.burn 0)) v)

    finishes_aside : (w : World) → Aside s w (finishes l w) (finishes l (at_said s w))
    unfolding finishes
    finishes_aside w = let v = settled l w in inl (finishes_over w, replied_front 0x12 (whether (eqb v.e.up.burn 0)) v)

    streamed_aside : (w : World) → Aside s w (streamed_by l w) (streamed_by l (at_said s w))
    streamed_aside w = pick (Aside s w) (eqb w.e.up.left 0) w (finishes l) (out_of 0) (finishes_aside w) (inr (refl, refl, refl))

    begins_aside : (n : ℕ) (w : World) → Aside s w (begins l n w) (begins l n (at_said s w))
    unfolding begins
    begins_aside n w =
        let f : World → World = λ v. at_e (with_up (started n v.e.up) v.e) v in
        pick (Aside s w) w.e.up.valid w (λ v. streamed_by l (f v)) (ends 0x12 fail) (streamed_aside (f w)) (ends_aside 0x12 fail w)

  -- from a world with the same reply and the same place
  from : (w v : World) (o p : Out) → v.e.said ≡ w.e.said → v.reply ≡ w.reply → Aside s v o p → Aside s w o p
  from w v o p a b (inl e) = inl e
  from w v o p a b (inr h) = inr (h.0, h.1 ∙ a, h.2 ∙ b)

  streams_aside : (l : Lent) (p : List ℕ) (w : World) → Aside s w (streams l p w) (streams l p (at_said s w))
  unfolding streams
  streams_aside l p w =
      let v = fed l p w in
      let k = fed_kept l p w in
      subst (λ (u : World). Aside s w (streamed_by l v) (streamed_by l u)) (sym (fed_aside l p w))
      (from w v (streamed_by l v) (streamed_by l (at_said s v)) k.0 k.1 (streamed_aside l v))

module _ (g : Given) (s : Said) where
  -- ---- a frame

  storing_aside : (n : ℕ) (d : List ℕ) (w : World) → Beside s (storing g n d w) (storing g n d (at_said s w))
  unfolding storing
  storing_aside n d w =
      let l = g.lent in
      let B = Beside s in
      let e = erase_storage l d in
      let r : World → Ran = λ v. cond (eqb n 0x18) (read_fwc l d v) (e v) in
      let q : World → Ran = λ v. cond (eqb n 0x13) (crc_query l v) (r v) in
      let m : World → Ran = λ v. cond (eqb n 0x10) (set_meta l g.lists d v) (q v) in
      pick s B (eqb n 0x0B) w (end_upgrade l) m (end_aside s l w)
      (pick s B (eqb n 0x10) w (set_meta l g.lists d) q (meta_aside s l g.lists d w)
      (pick s B (eqb n 0x13) w (crc_query l) r (crc_aside s l w) (pick s B (eqb n 0x18) w (read_fwc l d) e (fwc_aside s l d w) (erased_aside s l d w))))

  plain_aside : (n : ℕ) (w : World) → plain n (at_said s w).e g.table ≡ plain n w.e g.table
  unfolding plain long_by long_of
  plain_aside n w = go (short_of n w.e)
    where
      go : (x : Short) → plain_by n (at_said s w).e g.table x ≡ plain_by n w.e g.table x
      go Empty = refl
      go (Word x) = refl
      go Other = refl

  -- every command answers the same whatever `said` is, and passes it on
  pub runs_aside : (n : ℕ) (d : List ℕ) (w : World) → (let r = runs g n d w in runs g n d (at_said s w) ≡ ran r.answer (at_said s r.w))
  unfolding runs
  runs_aside n d w = go (group_of n)
    where
      go : (x : Group) → Beside s (runs_by g n d w x) (runs_by g n d (at_said s w) x)
      go group.Memory = memory_aside s n d w
      go group.Shell = shell_aside s g.lent d w
      go group.Storage = storing_aside n d w
      go group.Plain = ap (λ (a : Answer). ran a (at_said s w)) (plain_aside n w)

  performs_aside : (n m : ℕ) (w : World) → Aside s w (performs g n m w) (performs g n m (at_said s w))
  unfolding performs ends
  performs_aside n m w =
      let d = take m (drop 16 w.request) in
      let v = at_e (begun n w.e) w in
      let r = runs g n d v in
      inl (ap (answered n) (runs_aside n d v) ∙ ap (out_of (status_by r.answer)) (replied_over s n r.answer r.w), replied_front s n r.answer r.w)

  execs_aside : (w : World) → Aside s w (execs g w) (execs g (at_said s w))
  unfolding execs
  execs_aside w = go (order_of (take w.e.frame.total w.request))
    where
      go : (x : Option (ℕ × ℕ)) → Aside s w (exec_by g w x) (exec_by g (at_said s w) x)
      go None = inr (refl, refl, refl)
      go (Some (n, m)) = performs_aside n m w

  ripens_aside : (w : World) → Aside s w (ripens g w) (ripens g (at_said s w))
  unfolding ripens
  ripens_aside w = pick s (Aside s w) (ltb w.e.frame.len w.e.frame.total) w (out_of 0) (execs g) (inr (refl, refl, refl)) (execs_aside w)

  heads_aside : (w : World) → Aside s w (heads g w) (heads g (at_said s w))
  unfolding heads
  heads_aside w = go (next_of w.request)
    where
      go : (x : Next) → Aside s w (headed_by g w x) (headed_by g (at_said s w) x)
      go Refused = inr (refl, refl, refl)
      go (Send n) = begins_aside s g.lent n (at_e (emptied w.e) w)
      go (Total n) = ripens_aside (framed 16 n w)

  fills_aside : (w : World) → Aside s w (fills g w) (fills g (at_said s w))
  unfolding fills
  fills_aside w =
      let f = w.e.frame in
      let h : World → Out = λ v. cond (ltb f.len 16) (out_of 0 v) (heads g v) in
      pick s (Aside s w) (eqb f.total 0) w h (ripens g)
      (pick s (Aside s w) (ltb f.len 16) w (out_of 0) (heads g) (inr (refl, refl, refl)) (heads_aside w)) (ripens_aside w)

  -- ---- turns

  -- no turn looks at `said`: it lays a reply over it, or passes it on
  pub turns_aside : (p : List ℕ) (w : World) → Aside s w (turns g p w) (turns g p (at_said s w))
  unfolding turns gathers
  turns_aside p w =
      pick s (Aside s w) (eqb w.e.up.left 0) w (gathers g p) (streams g.lent p) (fills_aside (grown w p)) (streams_aside s g.lent p w)

  -- a turn and then more
  then_aside : (w : World) (o p : Out) (k : World → Out) → Aside s w o p → ((v : World) → Aside s v (k v) (k (at_said s v))) → Aside s w (then_by o k) (then_by p k)
  unfolding then_by
  then_aside w o p k (inl e) h = inl (ap (λ (x : Out). then_by x k) e.0, either (λ (x : Out). x.w.e.said.pos ≡ 0) (eqb o.status 0) (k o.w) o (front (h o.w)) e.1)
    where
      front : {x y : Out} → Aside s o.w x y → x.w.e.said.pos ≡ 0
      front (inl a) = a.1
      front (inr a) = ap (λ (y : Said). y.pos) a.1 ∙ e.1
  then_aside w o p k (inr a) h =
      let f : World → Out = λ v. out_of o.status v in
      subst (λ (x : Out). Aside s w (then_by o k) (then_by x k)) (sym a.0)
      (pick s (Aside s w) (eqb o.status 0) o.w k f (from s w o.w (k o.w) (k (at_said s o.w)) a.1 a.2 (h o.w)) (inr (refl, a.1, a.2)))

  goes_aside : (k : ℕ) (w : World) (d : List ℕ) → Aside s w (goes g k w d) (goes g k (at_said s w) d)
  unfolding goes
  goes_aside zero w d = inr (refl, refl, refl)
  goes_aside (suc k) w [] = inr (refl, refl, refl)
  goes_aside (suc k) w (b ∷ bs) =
      let d : List ℕ = b ∷ bs in
      let p = take (cut_of w) d in
      then_aside w (turns g p w) (turns g p (at_said s w)) (λ v. goes g k v (drop (cut_of w) d)) (turns_aside p w) (λ v. goes_aside k v (drop (cut_of w) d))

  -- and so no write of any bytes does
  pub feeds_aside : (w : World) (d : List ℕ) → Aside s w (feeds g w d) (feeds g (at_said s w) d)
  unfolding feeds
  feeds_aside w d = goes_aside (length d) w d

-- ---- reads

-- how many bytes a read takes: as many as wait and the room takes
abbrev pub many_of : Said → List ℕ → ℕ
many_of s room = min (s.len - s.pos) (length room)

-- the place behind them
abbrev pub behind : Said → List ℕ → Said
behind s room = record { len = s.len; pos = s.pos + many_of s room }

-- the room with them
abbrev pub shown : Said → List ℕ → List ℕ → List ℕ
shown s reply room = sets room 0 (take (many_of s room) (drop s.pos reply))

-- a place behind a read is in bounds if the place before it is
behind_fit : (s : Said) (room : List ℕ) → SaidFit s → SaidFit (behind s room)
behind_fit s room h = (omega (arith, h.0), h.1)

module _ (g : Given) (w : World) (f : fits g w ≡ true) where
  -- what a read gives from an engine in bounds hangs on `said` and the reply room alone
  read_is : (room : List ℕ) → reads g w room ≡ record { got = Ok (many_of w.e.said room); e = with_said (behind w.e.said room) w.e; room = shown w.e.said w.reply room }
  unfolding reads
  read_is room = rw f

  -- a read from an engine in bounds changes the place in the reply, and nothing else
  pub read_at_said : (room : List ℕ) → at_e (reads g w room).e w ≡ at_said (behind w.e.said room) w
  read_at_said room = ap (λ (r : Read). at_e r.e w) (read_is room)

  -- with any place in bounds the engine is in bounds
  pub fits_aside : (s : Said) → SaidFit s → fits g (at_said s w) ≡ true
  fits_aside s h =
      let b = in_bounds g w f in
      let m = b.fit.mid in
      bounds_fit g (at_said s w)
      (record {
        fit = record { mid = record { request = m.request; reply = m.reply; said = h; up = m.up }; frame = b.fit.frame };
        store = b.store;
        table = b.table;
        scratch = b.scratch;
      })

  -- the public call looks at the place no more than its pieces do
  pub writes_aside : (s : Said) → SaidFit s → (d : List ℕ) → Aside s w (writes g w d) (writes g (at_said s w) d)
  writes_aside s h d = rw (write_feeds g w f d, write_feeds g (at_said s w) (fits_aside s h) d) (feeds_aside g s w d)

-- a read into a room before a write, by what the write gives without the read and with it: the same thing, with the place at the front, where a
-- reply was laid; else what the read leaves that comes behind the write, and that read answers the same count and the same bytes
abbrev pub Passes : Given → List ℕ → World → Out → Out → Type 0
Passes g room w o p =
    ((p ≡ o) × (o.w.e.said.pos ≡ 0))
    ⊎ ((p ≡ out_of o.status (at_e (reads g o.w room).e o.w)) × ((reads g o.w room).got ≡ (reads g w room).got) × ((reads g o.w room).room ≡ (reads g w room).room))

passes : (g : Given) (room : List ℕ) (w : World) (o p : Out) → fits g w ≡ true → fits g o.w ≡ true → Aside (behind w.e.said room) w o p → Passes g room w o p
passes g room w o p f k (inl e) = inl e
passes g room w o p f k (inr h) =
    let v = o.w in
    let a = read_is g w f room in
    let b = read_is g v k room in
    let l = read_at_said g v k room ∙ ap (λ (s : Said). at_said (behind s room) v) h.1 in
    let count : Said → Result ℕ CallError = λ s. Ok (many_of s room) in
    let c = ap count h.1 in
    let d = ap (λ (s : Said). shown s v.reply room) h.1 ∙ ap (λ (x : List ℕ). shown w.e.said x room) h.2 in
    inr (
      h.0 ∙ ap (out_of o.status) (sym l),
      ap (λ (r : Read). r.got) b ∙ c ∙ ap (λ (r : Read). r.got) (sym a),
      ap (λ (r : Read). r.room) b ∙ d ∙ ap (λ (r : Read). r.room) (sym a),
    )

-- a read before a write may be left out, where the write lays a reply; else it may as well come behind it
pub read_aside : (g : Given) (w : World) → fits g w ≡ true → (room d : List ℕ) → Passes g room w (writes g w d) (writes g (at_e (reads g w room).e w) d)
read_aside g w f room d =
    let s = behind w.e.said room in
    let h = writes_aside g w f s (behind_fit w.e.said room (in_bounds g w f).fit.mid.said) d in
    subst (λ (v : World). Passes g room w (writes g w d) (writes g v d)) (sym (read_at_said g w f room))
    (passes g room w (writes g w d) (writes g (at_said s w) d) f (write_fits g w f d) h)

-- ---- any run of calls

-- a run of calls with its reads left out
abbrev pub unread : List Call → List Call
unread [] = []
unread (write d ∷ cs) = write d ∷ unread cs
unread (read room ∷ cs) = unread cs
unread (reset ∷ cs) = reset ∷ unread cs

-- what its writes answer
unfoldable pub statuses : Given → World → List Call → List ℕ
statuses g w [] = []
statuses g w (write d ∷ cs) = (writes g w d).status ∷ statuses g (writes g w d).w cs
statuses g w (read room ∷ cs) = statuses g (after g w (read room)) cs
statuses g w (reset ∷ cs) = statuses g (after g w reset) cs

-- a run from v, and the run from w without its reads: the writes answer the same, and what is left differs in the place in the reply
pub record Unread (g : Given) (v w : World) (cs : List Call) : Type 0 where
  pub said : Said
  pub left : after_all g v cs ≡ at_said said (after_all g w (unread cs))
  pub told : statuses g v cs ≡ statuses g w (unread cs)

module _ (g : Given) where
  -- a write from w with some place in bounds is one from w, with some place in bounds behind it
  abbrev Near : Out → Out → Type 0
  Near o p = (s : Said) × SaidFit s × (p ≡ out_of o.status (at_said s o.w))

  near : (s : Said) (w : World) (o p : Out) → SaidFit s → SaidFit o.w.e.said → Aside s w o p → Near o p
  near s w o p h k (inl e) = (o.w.e.said, k, e.0)
  near s w o p h k (inr a) = (s, h, a.0)

  -- from any place in bounds
  unread_at : (cs : List Call) (w : World) (s : Said) → fits g w ≡ true → SaidFit s → Unread g (at_said s w) w cs
  unfolding after_all statuses
  unread_at [] w s f h = record { said = s; left = refl; told = refl }
  unread_at (write d ∷ cs) w s f h =
      let o = writes g w d in
      let k = write_fits g w f d in
      let n = near s w o (writes g (at_said s w) d) h (in_bounds g o.w k).fit.mid.said (writes_aside g w f s h d) in
      let u = unread_at cs o.w n.0 k n.1 in
      record {
        said = u.said;
        left = ap (λ (x : Out). after_all g x.w cs) n.2 ∙ u.left;
        told = ap (λ (x : Out). x.status ∷ statuses g x.w cs) n.2 ∙ ap (λ (x : List ℕ). o.status ∷ x) u.told;
      }
  unread_at (read room ∷ cs) w s f h =
      let e = read_at_said g (at_said s w) (fits_aside g w f s h) room in
      let u = unread_at cs w (behind s room) f (behind_fit s room h) in
      record {
        said = u.said;
        left = ap (λ (x : World). after_all g x cs) e ∙ u.left;
        told = ap (λ (x : World). statuses g x cs) e ∙ u.told;
      }
  unread_at (reset ∷ cs) w s f h =
      let u = unread_at cs (at_e (cleared w.e) w) (record { len = 0; pos = 0 }) (reset_fits g w f) (omega arith, omega arith) in
      record { said = u.said; left = u.left; told = u.told }

  -- in any run of calls from an engine in bounds the reads may be left out: every write answers the same, and at the end nothing differs
  -- but the place in the reply
  pub reads_unread : (w : World) → fits g w ≡ true → (cs : List Call) → Unread g w w cs
  reads_unread w f cs = unread_at cs w w.e.said f (in_bounds g w f).fit.mid.said
