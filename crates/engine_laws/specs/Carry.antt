-- What a write keeps turn after turn, whatever its bytes are and whatever the chip does: scratch's base, scratch's length, and of the
-- storage all that the storage's own calls keep (`Closed`). And the status of a turn is 0 or 1.
use Rattle.std.specs.Prelude.{◌≡◌, Option, None, Some, ◌&&◌, leb, ltb, eqb, take}
use Rattle.std.proofs.Math.Path.{refl}
use Rattle.std.proofs.Common.{◌∙◌}
use Rattle.std.proofs.Math.Bool.{cond}
use mathlib.Core.List.{List, [], ◌∷◌, ◌++◌}
use Prim.Native.Nat.{ℕ, zero, suc, ◌+◌, ◌-◌, ◌≤◌, min}
use native.Mathlib.Omega.{arith}
use Rattle.std.proofs.Math.ListN.{length, drop, replicate, length-take}
use Rattle.std.proofs.lemmas.List.Edits.{sets}
use Rattle.std.proofs.Math.Seq.{length-sets}
use Rattle.wire.specs.Bytes.{bytes_of, word_at}
use Rattle.storage.specs.World.{Lent, Dev, Told, told, Seen, seen}
use Rattle.storage.specs.Nor.{pages_of, sat_add}
use Rattle.storage.specs.Open.{block_size_of}
use Rattle.storage.specs.Store.{good, flushing, erasing, writing, reading}
use Rattle.storage.specs.Scratch.{plus, out_k, in_k, part, from_scratch, into_scratch}
use Rattle.storage.specs.Partition.{Lists}
use Rattle.storage_laws.specs.Bounds.{either}
use Rattle.engine.specs.declared.exec.Group.{Group}
use Rattle.engine.specs.declared.exec.Group.TheVariants as group
use Rattle.engine.specs.declared.frame.Next.{Next}
use Rattle.engine.specs.declared.frame.Next.TheVariants.{Refused, Send, Total}
use Rattle.engine.specs.declared.shell.Line.{Line}
use Rattle.engine.specs.declared.shell.Line.TheVariants as line
use Rattle.engine.specs.declared.shell.Window.{Window}
use Rattle.engine.specs.World.{Given, World, with_up, emptied, at_e, at_scratch, dev_of, at_dev, Out, out_of}
use Rattle.engine.specs.Reply.{Answer, ok, fail, unsupported, odd, whether, Ran, ran, status_by, replied, ends}
use Rattle.engine.specs.Command.{pair_of, inside, wrote, Wrote, write_by, write_of, read_of}
use Rattle.engine.specs.Storing.{after_flush, end_upgrade, probed, crc_query, read_fwc_by, read_fwc, erased_by, erase_storage, aims, is_meta, set_meta}
use Rattle.engine.specs.Shell.{line_of, window_of, boot_table, text_of}
use Rattle.engine.specs.Running.{run_erase, run_write, run_read, run_boot, run_by, run_line, shell_by, shell}
use Rattle.engine.specs.Exec.{group_of, wrote_by, memory, storing, runs_by, runs, order_of, begun, performs, exec_by, execs}
use Rattle.engine.specs.Stream.{fed_by, fed, taken, settled_by, settled, finishes, streamed_by, streams, started, begins}
use Rattle.engine.specs.Frame.{next_of, framed, ripens, headed_by, heads, grown, fills, gathers}
use Rattle.engine.specs.Feed.{Fit, turns, cut_of, then_by, goes, feeds}
use Rattle.engine.proofs.Fits.{want_some, turn_fit}
use Rattle.engine_laws.specs.Rooms.{into_length}

-- ---- what is kept

-- what every call of the storage keeps
pub record Closed (l : Lent) (P : Dev → Type 0) : Type 0 where
  pub flush : (d : Dev) → P d → P (flushing l d).dev
  pub erase : (start size : ℕ) (d : Dev) → P d → P (erasing l start size d).dev
  pub write : (off : ℕ) (xs : List ℕ) (d : Dev) → P d → P (writing l off xs d).dev
  pub read : (off : ℕ) (room : List ℕ) (d : Dev) → P d → P (reading l off room d).told.dev

-- what a step from w to v keeps
pub record Stays (P : Dev → Type 0) (w v : World) : Type 0 where
  pub base : v.e.base ≡ w.e.base
  pub scratch : length v.scratch ≡ length w.scratch
  pub store : P (dev_of w) → P (dev_of v)

-- and what is told of it
pub record Left (P : Dev → Type 0) (w : World) (o : Out) : Type 0 where
  pub stays : Stays P w o.w
  pub small : o.status ≤ 1

module _ (l : Lent) (P : Dev → Type 0) (c : Closed l P) where
  -- ---- moves between scratch and the storage

  out_keeps : (k : ℕ) (off : ℕ) (xs : List ℕ) (d : Dev) → P d → P (out_k k l off xs d).dev
  unfolding out_k
  out_keeps zero off xs d p = p
  out_keeps (suc k) off xs d p =
      let t = writing l off (take 256 xs) d in
      let h = c.write off (take 256 xs) d p in
      either (λ (u : Told). P u.dev) (eqb t.count (length (take 256 xs)))
      (plus t.count (out_k k l (sat_add off t.count) (drop 256 xs) t.dev)) (told 0 t.count t.dev)
      (out_keeps k (sat_add off t.count) (drop 256 xs) t.dev h) h

  in_keeps : (k : ℕ) (off : ℕ) (room : List ℕ) (d : Dev) → P d → P (in_k k l off room d).told.dev
  unfolding in_k
  in_keeps zero off room d p = p
  in_keeps (suc k) off room d p =
      let s = reading l off (take 256 room) d in
      let t = s.told in
      let h = c.read off (take 256 room) d p in
      let r = in_k k l (sat_add off t.count) (drop 256 room) t.dev in
      either (λ (u : Seen). P u.told.dev) (eqb t.count (length (take 256 room)))
      (seen (plus t.count r.told) (s.room ++ r.room)) (seen (told 0 t.count t.dev) (s.room ++ drop 256 room))
      (in_keeps k (sat_add off t.count) (drop 256 room) t.dev h) h

  from_keeps : (off at n : ℕ) (scratch : List ℕ) (d : Dev) → P d → P (from_scratch l off at n scratch d).dev
  unfolding from_scratch
  from_keeps off at n scratch d p =
      either (λ (t : Told). P t.dev) (good l d) (out_k (pages_of 256 (length (part scratch at n))) l off (part scratch at n) d) (told 9 0 d)
      (out_keeps (pages_of 256 (length (part scratch at n))) off (part scratch at n) d p) p

  into_keeps : (off at n : ℕ) (scratch : List ℕ) (d : Dev) → P d → P (into_scratch l off at n scratch d).told.dev
  unfolding into_scratch
  into_keeps off at n scratch d p =
      either (λ (s : Seen). P s.told.dev) (good l d) _ (seen (told 9 0 d) scratch)
      (in_keeps (pages_of 256 (length (part scratch at n))) off (part scratch at n) d p) p

  -- ---- the steps that commands are made of

  same : (w : World) → Stays P w w
  same w = record { base = refl; scratch = refl; store = λ h. h }

  -- another storage
  to_dev : (w v : World) → Stays P w v → (d : Dev) → (P (dev_of v) → P d) → Stays P w (at_dev d v)
  to_dev w v k d f = record { base = k.base; scratch = k.scratch; store = λ h. f (k.store h) }

  -- another scratch of the same length
  to_scratch : (w v : World) → Stays P w v → (x : List ℕ) → length x ≡ length v.scratch → Stays P w (at_scratch x v)
  to_scratch w v k x e = record { base = k.base; scratch = e ∙ k.scratch; store = k.store }

  abbrev Ends : World → Ran → Type 0
  Ends w r = Stays P w r.w

  -- a flush, and then more
  flush_stays : (w : World) (next : World → Ran) → ((v : World) → Stays P w v → Ends w (next v)) → Ends w (after_flush w next (flushing l (dev_of w)))
  flush_stays w next h =
      let t = flushing l (dev_of w) in
      let k = to_dev w w (same w) t.dev (c.flush (dev_of w)) in
      either (Ends w) (eqb t.status 0) (next (at_dev t.dev w)) (ran fail (at_dev t.dev w)) (h (at_dev t.dev w) k) k

  -- ---- the commands of scratch

  write_length : (base : ℕ) (x d : List ℕ) → length (write_of base x d).scratch ≡ length x
  unfolding write_of
  write_length base x d = go (pair_of d)
    where
      go : (p : Option (ℕ × ℕ)) → length (write_by base x d p).scratch ≡ length x
      go None = refl
      go (Some (addr, len)) =
          either (λ (r : Wrote). length r.scratch ≡ length x) (leb len (length d - 8) && inside base (length x) addr len) _ (wrote fail x)
          (length-sets x (addr - base) (take len (drop 8 d))) refl

  memory_stays : (n : ℕ) (d : List ℕ) (w : World) → Ends w (memory n d w)
  unfolding memory
  memory_stays n d w =
      either (Ends w) (eqb n 0x02) (wrote_by w (write_of w.e.base w.scratch d)) (ran (read_of w.e.base w.scratch d) w)
      (to_scratch w w (same w) _ (write_length w.e.base w.scratch d)) (same w)

  -- ---- the commands over the storage

  probed_stays : (w v : World) → Stays P w v → Stays P w (probed l v)
  unfolding probed
  probed_stays w v k =
      let s = reading l v.e.up.target (replicate 16 0) (dev_of v) in
      either (Stays P w) v.e.up.aimed (at_dev s.told.dev v) v (to_dev w v k s.told.dev (c.read v.e.up.target (replicate 16 0) (dev_of v))) k

  aims_stays : (s : Lists) (meta : List ℕ) (w v : World) → Stays P w v → Ends w (aims s meta v)
  unfolding aims
  aims_stays s meta w v k = record { base = k.base; scratch = k.scratch; store = k.store }

  module _ (w : World) where
    end_stays : Ends w (end_upgrade l w)
    unfolding end_upgrade
    end_stays = flush_stays w (ran (ok [])) (λ v k. k)

    crc_stays : Ends w (crc_query l w)
    unfolding crc_query
    crc_stays = flush_stays w (λ v. ran (ok (bytes_of 4 v.e.up.crc)) (probed l v)) (λ v k. probed_stays w v k)

    fwc_stays : (d : List ℕ) → Ends w (read_fwc l d w)
    unfolding read_fwc
    fwc_stays d = go (pair_of d)
      where
        go : (p : Option (ℕ × ℕ)) → Ends w (read_fwc_by l w p)
        go None = same w
        go (Some (off, len)) =
            let r : List ℕ = replicate (min len 512) 0 in
            to_dev w w (same w) (reading l off r (dev_of w)).told.dev (c.read off r (dev_of w))

    erased_stays : (d : List ℕ) → Ends w (erase_storage l d w)
    unfolding erase_storage
    erased_stays d =
        let e : World → Told = λ v. erasing l (word_at 8 d 0) (word_at 8 d 8) (dev_of v) in
        either (Ends w) (leb 24 (length d)) (after_flush w (λ v. erased_by v (e v)) (flushing l (dev_of w))) (ran fail w)
        (flush_stays w (λ v. erased_by v (e v)) (λ v k. to_dev w v k (e v).dev (c.erase (word_at 8 d 0) (word_at 8 d 8) (dev_of v)))) (same w)

    meta_stays : (s : Lists) (d : List ℕ) → Ends w (set_meta l s d w)
    unfolding set_meta
    meta_stays s d =
        let m = drop (length d - 512) d in
        let f = after_flush w (aims s m) (flushing l (dev_of w)) in
        either (Ends w) (leb 512 (length d)) (cond (is_meta m) f (ran fail w)) (ran fail w)
        (either (Ends w) (is_meta m) f (ran fail w) (flush_stays w (aims s m) (aims_stays s m w)) (same w)) (same w)

  -- ---- the shell

  module _ (w v : World) (k : Stays P w v) where
    erase_stays : (start size : ℕ) → Ends w (run_erase l start size v)
    unfolding run_erase
    erase_stays start size = to_dev w v k (erasing l start size (dev_of v)).dev (c.erase start size (dev_of v))

    write_stays : (off : ℕ) (x : Option Window) → Ends w (run_write l off x v)
    unfolding run_write
    write_stays off None = k
    write_stays off (Some x) =
        let t = from_scratch l off x.place x.len v.scratch (dev_of v) in
        let u = at_dev t.dev v in
        let f = flushing l (dev_of u) in
        let m = to_dev w v k t.dev (from_keeps off x.place x.len v.scratch (dev_of v)) in
        either (Ends w) (eqb t.count x.len) (ran (whether (eqb f.status 0)) (at_dev f.dev u)) (ran fail u)
        (to_dev w u m f.dev (c.flush (dev_of u))) m

    take_stays : (off : ℕ) (x : Option Window) → Ends w (run_read l off x v)
    unfolding run_read
    take_stays off None = k
    take_stays off (Some x) =
        let s = into_scratch l off x.place x.len v.scratch (dev_of v) in
        to_scratch w (at_dev s.told.dev v) (to_dev w v k s.told.dev (into_keeps off x.place x.len v.scratch (dev_of v))) s.room
        (into_length l off x.place x.len v.scratch (dev_of v))

    boot_stays : (x : Option Window) → Ends w (run_boot x v)
    unfolding run_boot
    boot_stays None = k
    boot_stays (Some x) =
        let t = boot_table v.e.base x.place (block_size_of v.e.store) v.e.store.shape.capacity (take x.len (drop x.place v.scratch)) in
        to_scratch w v k (sets v.scratch x.place t) (length-sets v.scratch x.place t)

    line_stays : (x : Option Line) → Ends w (run_by l v x)
    line_stays None = k
    line_stays (Some line.Done) = k
    line_stays (Some (line.Erase start size)) = erase_stays start size
    line_stays (Some (line.Write off len addr)) = write_stays off (window_of v.e.base (length v.scratch) addr len)
    line_stays (Some (line.Read off len addr)) = take_stays off (window_of v.e.base (length v.scratch) addr len)
    line_stays (Some (line.Boot addr len)) = boot_stays (window_of v.e.base (length v.scratch) addr len)

  text_stays : (d : List ℕ) (w : World) (x : Option ℕ) → Ends w (shell_by l d w x)
  unfolding run_line
  text_stays d w None = same w
  text_stays d w (Some n) = line_stays w _ (record { base = refl; scratch = refl; store = λ h. h }) (line_of (take n (drop 4 d)))

  shell_stays : (d : List ℕ) (w : World) → Ends w (shell l d w)
  unfolding shell
  shell_stays d w = text_stays d w (text_of d)

  -- ---- replies

  -- a reply changes neither scratch nor the storage
  replied_stays : (n : ℕ) (a : Answer) (w v : World) → Stays P w v → Stays P w (replied n a v)
  unfolding replied
  replied_stays n a w v k = record { base = k.base; scratch = k.scratch; store = k.store }

  status_small : (a : Answer) → status_by a ≤ 1
  unfolding status_by
  status_small (ok bytes) = omega arith
  status_small fail = omega arith
  status_small unsupported = omega arith
  status_small odd = omega arith

  ends_left : (n : ℕ) (a : Answer) (w v : World) → Stays P w v → Left P w (ends n a v)
  unfolding ends
  ends_left n a w v k = record { stays = replied_stays n a w v k; small = status_small a }

  -- ---- a stream

  settled_stays : (w v : World) → Stays P w v → Stays P w (settled l v)
  unfolding settled
  settled_stays w v k =
      let t = flushing l (dev_of v) in
      either (Stays P w) (eqb v.e.up.burn 0) (settled_by v t) v
      (record { base = k.base; scratch = k.scratch; store = λ h. c.flush (dev_of v) (k.store h) }) k

  finishes_left : (w v : World) → Stays P w v → Left P w (finishes l v)
  unfolding finishes
  finishes_left w v k =
      let s = settled l v in
      record { stays = replied_stays 0x12 (whether (eqb s.e.up.burn 0)) w s (settled_stays w v k); small = omega arith }

  zero_left : (w v : World) → Stays P w v → Left P w (out_of 0 v)
  zero_left w v k = record { stays = k; small = omega arith }

  streamed_left : (w v : World) → Stays P w v → Left P w (streamed_by l v)
  streamed_left w v k = either (Left P w) (eqb v.e.up.left 0) (finishes l v) (out_of 0 v) (finishes_left w v k) (zero_left w v k)

  -- a piece of a stream keeps them
  pub fed_stays : (p : List ℕ) (w : World) → Stays P w (fed l p w)
  unfolding fed
  fed_stays p w =
      let t = writing l (w.e.up.target + w.e.up.written) p (dev_of w) in
      either (Stays P w) w.e.up.aimed (fed_by w p t) (at_e (with_up (taken p (length p) w.e.up) w.e) w)
      (record { base = refl; scratch = refl; store = c.write (w.e.up.target + w.e.up.written) p (dev_of w) })
      (record { base = refl; scratch = refl; store = λ h. h })

  streams_left : (p : List ℕ) (w : World) → Left P w (streams l p w)
  unfolding streams
  streams_left p w = streamed_left w (fed l p w) (fed_stays p w)

  begins_left : (n : ℕ) (w v : World) → Stays P w v → Left P w (begins l n v)
  unfolding begins
  begins_left n w v k =
      let u = at_e (with_up (started n v.e.up) v.e) v in
      either (Left P w) v.e.up.valid (streamed_by l u) (ends 0x12 fail v)
      (streamed_left w u (record { base = k.base; scratch = k.scratch; store = k.store })) (ends_left 0x12 fail w v k)

module _ (g : Given) (P : Dev → Type 0) (c : Closed g.lent P) where
  -- ---- a frame

  storing_stays : (n : ℕ) (d : List ℕ) (w : World) → Stays P w (storing g n d w).w
  unfolding storing
  storing_stays n d w =
      let l = g.lent in
      let e = erase_storage l d w in
      let r = cond (eqb n 0x18) (read_fwc l d w) e in
      let q = cond (eqb n 0x13) (crc_query l w) r in
      let m = cond (eqb n 0x10) (set_meta l g.lists d w) q in
      let E : Ran → Type 0 = λ x. Stays P w x.w in
      either E (eqb n 0x0B) (end_upgrade l w) m (end_stays l P c w)
      (either E (eqb n 0x10) (set_meta l g.lists d w) q (meta_stays l P c w g.lists d)
      (either E (eqb n 0x13) (crc_query l w) r (crc_stays l P c w) (either E (eqb n 0x18) (read_fwc l d w) e (fwc_stays l P c w d) (erased_stays l P c w d))))

  -- every command keeps them
  pub runs_stays : (n : ℕ) (d : List ℕ) (w : World) → Stays P w (runs g n d w).w
  unfolding runs
  runs_stays n d w = go (group_of n)
    where
      go : (x : Group) → Stays P w (runs_by g n d w x).w
      go group.Memory = memory_stays g.lent P c n d w
      go group.Shell = shell_stays g.lent P c d w
      go group.Storage = storing_stays n d w
      go group.Plain = same g.lent P c w

  performs_left : (n m : ℕ) (w : World) → Left P w (performs g n m w)
  unfolding performs
  performs_left n m w =
      let v = at_e (begun n w.e) w in
      let r = runs g n (take m (drop 16 w.request)) v in
      let k = runs_stays n (take m (drop 16 w.request)) v in
      ends_left g.lent P c n r.answer w r.w (record { base = k.base; scratch = k.scratch; store = k.store })

  -- a request that is refused
  empty_left : (w : World) → Left P w (out_of 1 (at_e (emptied w.e) w))
  empty_left w = record { stays = record { base = refl; scratch = refl; store = λ h. h }; small = omega arith }

  execs_left : (w : World) → Left P w (execs g w)
  unfolding execs
  execs_left w = go (order_of (take w.e.frame.total w.request))
    where
      go : (o : Option (ℕ × ℕ)) → Left P w (exec_by g w o)
      go None = empty_left w
      go (Some (n, m)) = performs_left n m w

  -- from a world that differs in its frame alone
  from : (w v : World) (o : Out) → Stays P w v → Left P v o → Left P w o
  from w v o k h =
      record {
        stays = record { base = h.stays.base ∙ k.base; scratch = h.stays.scratch ∙ k.scratch; store = λ p. h.stays.store (k.store p) };
        small = h.small;
      }

  ripens_left : (w : World) → Left P w (ripens g w)
  unfolding ripens
  ripens_left w =
      either (Left P w) (ltb w.e.frame.len w.e.frame.total) (out_of 0 w) (execs g w) (zero_left g.lent P c w w (same g.lent P c w)) (execs_left w)

  heads_left : (w : World) → Left P w (heads g w)
  unfolding heads
  heads_left w = go (next_of w.request)
    where
      go : (x : Next) → Left P w (headed_by g w x)
      go Refused = empty_left w
      go (Send n) = begins_left g.lent P c n w (at_e (emptied w.e) w) (record { base = refl; scratch = refl; store = λ h. h })
      go (Total n) = from w (framed 16 n w) (ripens g (framed 16 n w)) (record { base = refl; scratch = refl; store = λ h. h }) (ripens_left (framed 16 n w))

  fills_left : (w : World) → Left P w (fills g w)
  unfolding fills
  fills_left w =
      either (Left P w) (eqb w.e.frame.total 0) (cond (ltb w.e.frame.len 16) (out_of 0 w) (heads g w)) (ripens g w)
      (either (Left P w) (ltb w.e.frame.len 16) (out_of 0 w) (heads g w) (zero_left g.lent P c w w (same g.lent P c w)) (heads_left w))
      (ripens_left w)

  -- ---- turns

  -- every turn keeps them, and has status 0 or 1
  pub turns_left : (p : List ℕ) (w : World) → Left P w (turns g p w)
  unfolding turns gathers
  turns_left p w =
      either (Left P w) (eqb w.e.up.left 0) (gathers g p w) (streams g.lent p w)
      (from w (grown w p) (fills g (grown w p)) (record { base = refl; scratch = refl; store = λ h. h }) (fills_left (grown w p)))
      (streams_left g.lent P c p w)

  goes_left : (k : ℕ) (w : World) (d : List ℕ) → Left P w (goes g k w d)
  unfolding goes then_by
  goes_left zero w d = zero_left g.lent P c w w (same g.lent P c w)
  goes_left (suc k) w [] = zero_left g.lent P c w w (same g.lent P c w)
  goes_left (suc k) w (b ∷ bs) =
      let o = turns g (take (cut_of w) (b ∷ bs)) w in
      let r = drop (cut_of w) (b ∷ bs) in
      let h = turns_left (take (cut_of w) (b ∷ bs)) w in
      either (Left P w) (eqb o.status 0) (goes g k o.w r) o (from w o.w (goes g k o.w r) h.stays (goes_left k o.w r)) h

  -- and so does a write of any bytes
  pub feeds_left : (w : World) (d : List ℕ) → Left P w (feeds g w d)
  unfolding feeds
  feeds_left w d = goes_left (length d) w d

-- ---- bounds

module _ (g : Given) where
  goes_fit : (k : ℕ) (w : World) (d : List ℕ) → Fit w → Fit (goes g k w d).w
  unfolding goes then_by
  goes_fit zero w d f = f
  goes_fit (suc k) w [] f = f
  goes_fit (suc k) w (b ∷ bs) f =
      let o = turns g (take (cut_of w) (b ∷ bs)) w in
      let n = length-take (cut_of w) (b ∷ bs) in
      let h = turn_fit g (take (cut_of w) (b ∷ bs)) w (omega (arith, want_some w f)) f in
      either (λ (x : Out). Fit x.w) (eqb o.status 0) (goes g k o.w (drop (cut_of w) (b ∷ bs))) o (goes_fit k o.w (drop (cut_of w) (b ∷ bs)) h) h

  -- what holds between turns holds behind a write
  pub feeds_fit : (w : World) (d : List ℕ) → Fit w → Fit (feeds g w d).w
  unfolding feeds
  feeds_fit w d f = goes_fit (length d) w d f
