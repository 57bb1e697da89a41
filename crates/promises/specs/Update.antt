-- The frames of an update, one by one, on a NOR that makes no error: metadata whose partition is found flush the store and aim the
-- update (`meta_done`); SEND_FWC_DATA and its payload, cut within the payload or not, write it there, flush, and say OK
-- (`send_done`, proofs/Update.antt); both may be cut anyhow (`meta_smooth`, `send_smooth`). proofs/Promise.antt puts them together.
use Rattle.std.specs.Prelude.{◌≡◌, Option, Some, Result, Ok, Bool, true, false, ℕ, ◌+◌, ◌-◌, ◌^◌, ◌≤◌, ◌<◌, ltb, take, drop}
use Rattle.std.proofs.Math.Path.{refl, sym, ap, subst}
use Rattle.std.proofs.Common.{◌∙◌, add-zero, le-leb, eq-eqb, ne_eqb, ltb-true, ltb-false, length-append, take-append-drop, take_all, take_at}
use Rattle.std.proofs.Math.Bool.{cond}
use mathlib.Core.List.{List, [], ◌∷◌, ◌++◌, append-nil}
use native.Mathlib.Omega.{arith}
use Rattle.std.proofs.Math.ListN.{length, drop_of_length-le}
use Rattle.std.proofs.lemmas.List.Edits.{sets, sets-eq}
use Rattle.wire.specs.Crc.{crc32}
use Rattle.wire.specs.Header.{reply_magic, header_of, request_of, parsed}
use Rattle.storage.specs.World.{Dev}
use Rattle.storage.specs.Store.{good, flushing}
use Rattle.storage.proofs.Opens.{sound}
use Rattle.storage.specs.Open.{one_of}
use Rattle.storage_laws.specs.View.{view}
use Rattle.engine.specs.declared.types.Said.{Said}
use Rattle.engine.specs.declared.types.Failure.{Failure}
use Rattle.engine.specs.declared.frame.Next.TheVariants.{Send}
use Rattle.engine.specs.World.{Given, World, with_up, emptied, at_e, dev_of, at_dev, Out, out_of}
use Rattle.engine.specs.Reply.{Answer, ok, fail, ran, status_by, reply_by, replied, ends}
use Rattle.engine.specs.Storing.{after_flush, target_of, anew, aimed_at, answer_to, aims, is_meta, set_meta}
use Rattle.engine.specs.Exec.{storing, runs, begun, answered}
use Rattle.engine.specs.Stream.{fed, burnt, settled_by, settled, said_of, finishes, streamed_by, streams, started, begins}
use Rattle.engine.specs.Frame.{next_by, next_of, headed_by, grown}
use Rattle.engine.specs.Feed.{turns, cut_of, feeds}
use Rattle.engine.proofs.Replies.{header_length}
use Rattle.engine.proofs.Feeds.{feed_step, turn_stream}
use Rattle.engine_laws.specs.Cut.{Quiet, Room, Streaming, want_at, fed_left, cut_quiet, within_told, within_stays}
use Rattle.engine_laws.specs.Whole.{at_said, at_request, emptied_at, then_nil, header_done, roomed, frame_done, lead, header_front}
use Rattle.promises.specs.Aside.{fed_aside, finishes_over}
use Rattle.promises.specs.Cuts.{Lays, At, Smooth, front_at, frame_smooth}
use Rattle.promises.specs.Flash.{flush_still}

-- ---- a reply that waits

-- the bytes of the reply that are still to be read
abbrev pub waiting : World → List ℕ
waiting w = take (w.e.said.len - w.e.said.pos) (drop w.e.said.pos w.reply)

reply_length : (c : ℕ) (bytes : List ℕ) → length (reply_by c (ok bytes)) ≡ 16 + length bytes
unfolding reply_by
reply_length c bytes =
    length-append (header_of reply_magic c 0 (length bytes)) bytes ∙ ap (λ (n : ℕ). n + length bytes) (header_length reply_magic c 0 (length bytes))

-- a reply that was just laid waits, whole
pub laid_waits : (c : ℕ) (a : Answer) (w : World) → length (reply_by c a) ≤ length w.reply → waiting (replied c a w) ≡ reply_by c a
unfolding replied
laid_waits c a w i =
    let x = reply_by c a in
    let k : length x - 0 ≡ length x = omega arith in
    ap (λ (j : ℕ). take j (sets w.reply 0 x)) k ∙ ap (take (length x)) (sets-eq x w.reply 0 (omega arith)) ∙ take_at x (drop (0 + length x) w.reply) (length x) refl

-- as one with data does
pub replied_waits : (c : ℕ) (bytes : List ℕ) (w : World) → 16 + length bytes ≤ length w.reply → waiting (replied c (ok bytes) w) ≡ reply_by c (ok bytes)
replied_waits c bytes w i = laid_waits c (ok bytes) w (omega (arith, reply_length c bytes))

-- ---- metadata

-- a metadata frame whose partition is found at B: command 0x10 with 512 to 8,192 bytes, of which the last 512 start with `META`
pub record MetaFrame (g : Given) (B : ℕ) (f : List ℕ) : Type 0 where
  pub head : List ℕ
  pub body : List ℕ
  pub is : f ≡ head ++ body
  pub sixteen : length head ≡ 16
  pub status : ℕ
  pub says : parsed head ≡ request_of 0x10 status (length body)
  pub most : length body ≤ 8192
  pub least : 512 ≤ length body
  pub meta : is_meta (drop (length body - 512) body) ≡ true
  pub found : target_of g.lists (drop (length body - 512) body) ≡ Ok (Some B)

-- between frames, with metadata whose partition is at B, nothing held, and the flash c
pub record Ready (B : ℕ) (c : List ℕ) (v : World) : Type 0 where
  pub frame : v.e.frame ≡ record { len = 0; total = 0 }
  pub left : v.e.up.left ≡ 0
  pub valid : v.e.up.valid ≡ true
  pub aimed : v.e.up.aimed ≡ true
  pub target : v.e.up.target ≡ B
  pub held : v.e.store.held ≡ false
  pub chip : v.chip ≡ c

-- what the metadata leave: status 0, the reply OK with no data, and all ready
pub record Aimed (B : ℕ) (c : List ℕ) (o : Out) : Type 0 where
  pub status : o.status ≡ 0
  pub waits : waiting o.w ≡ reply_by 0x10 (ok [])
  pub ready : Ready B c o.w

module _ (g : Given) (w : World) (z : w.e.up.left ≡ 0) (q : Quiet g w) (r : length w.request ≡ 8208) (y : length w.reply ≡ 4112) (B : ℕ) (f : List ℕ)
    (k : MetaFrame g B f) where
  abbrev meta : List ℕ
  meta = drop (length k.body - 512) k.body

  -- as the command finds the world
  abbrev asked : World
  asked = at_e (begun 0x10 w.e) (at_request (roomed w.request k.head k.body) w)

  flushed : (e : Dev) × (flushing g.lent (dev_of w) ≡ record { status = 0; count = 0; dev = e }) × (e.chip ≡ view (dev_of w)) × (e.store.held ≡ false)
  flushed = flush_still g.lent (dev_of w) q

  -- and leaves it, but for the reply
  abbrev aiming : World
  aiming = at_e (with_up (anew meta true B w.e.up) (at_dev flushed.0 asked).e) (at_dev flushed.0 asked)

  runs_meta : runs g 0x10 k.body asked ≡ set_meta g.lent g.lists k.body asked
  unfolding runs one_of storing
  runs_meta = refl

  set_done : set_meta g.lent g.lists k.body asked ≡ ran (ok []) aiming
  unfolding set_meta aims
  set_done =
      let after = after_flush asked (aims g.lists meta) (flushing g.lent (dev_of w)) in
      let v = at_dev flushed.0 asked in
      ap (λ (b : Bool). cond b (cond (is_meta meta) after (ran fail asked)) (ran fail asked)) (le-leb 512 (length k.body) k.least)
      ∙ ap (λ (b : Bool). cond b after (ran fail asked)) k.meta
      ∙ ap (after_flush asked (aims g.lists meta)) flushed.1
      ∙ ap (λ (t : Result (Option ℕ) Failure). ran (answer_to t) (at_e (with_up (aimed_at meta w.e.up t) v.e) v)) k.found

  meta_is : feeds g (emptied_at w) f ≡ out_of 0 (replied 0x10 (ok []) aiming)
  unfolding ends status_by
  meta_is =
      ap (feeds g (emptied_at w)) k.is
      ∙ frame_done g w z k.head k.body k.sixteen (omega (arith, k.most)) 0x10 k.status k.says (λ e. omega arith) k.most
      ∙ ap (answered 0x10) (runs_meta ∙ set_done)

  meta_aimed : Aimed B (view (dev_of w)) (out_of 0 (replied 0x10 (ok []) aiming))
  unfolding replied
  meta_aimed =
      record {
        status = refl;
        waits = replied_waits 0x10 [] aiming (omega arith);
        ready = record { frame = refl; left = z; valid = refl; aimed = refl; target = refl; held = flushed.3; chip = flushed.2 };
      }

  -- THE STEP: the metadata are accepted, what was shown is in flash, and the update is aimed at B
  pub meta_done : Aimed B (view (dev_of w)) (feeds g (emptied_at w) f)
  meta_done = subst (Aimed B (view (dev_of w))) (sym meta_is) meta_aimed

  pub meta_smooth : Smooth g (emptied_at w) f
  meta_smooth =
      subst (Smooth g (emptied_at w)) (sym k.is)
      (frame_smooth g w z k.head k.body k.sixteen (omega (arith, k.most)) 0x10 k.status k.says (λ e. omega arith) k.most)

-- ---- the end of a stream

module _ (g : Given) (u : World) where
  -- with nothing short, the end of a stream flushes and says OK
  module _ (q : Quiet g u) (b : u.e.up.burn ≡ 0) where
    closing : (e : Dev) × (flushing g.lent (dev_of u) ≡ record { status = 0; count = 0; dev = e }) × (e.chip ≡ view (dev_of u)) × (e.store.held ≡ false)
    closing = flush_still g.lent (dev_of u) q

    -- the world behind it, but for the reply
    abbrev closed : World
    closed = at_e (with_up (burnt 0 u.e.up) (at_dev closing.0 u).e) (at_dev closing.0 u)

    finish_is : finishes g.lent u ≡ out_of 0 (replied 0x12 (ok []) closed)
    unfolding finishes settled
    finish_is =
        ap said_of (ap (λ (t : Bool). cond t (settled_by u (flushing g.lent (dev_of u))) u) (eq-eqb u.e.up.burn 0 b) ∙ ap (settled_by u) closing.1)

  -- what is left of a payload is one turn, and the end
  pub stream_whole : (p : List ℕ) → 0 < length p → u.e.up.left ≡ length p → feeds g u p ≡ finishes g.lent (fed g.lent p u)
  unfolding streams
  stream_whole p h i =
      let l = g.lent in
      let v = fed l p u in
      let n : u.e.up.left ≡ 0 → ⊥ = λ e. omega arith in
      let j = want_at u.e.up.left u.e.frame n in
      let o : v.e.up.left ≡ 0 = fed_left g p [] u ∙ omega arith in
      feed_step g u p h
      ∙ rw (take_all (cut_of u) p (omega arith), drop_of_length-le p {i = cut_of u} (omega arith)) (then_nil g (turns g p u))
      ∙ sym (turn_stream g p u n)
      ∙ ap (λ (t : Bool). cond t (finishes l v) (out_of 0 v)) (eq-eqb v.e.up.left 0 o)

-- and lays a reply
pub stream_lays : (g : Given) (u : World) (p : List ℕ) → 0 < length p → u.e.up.left ≡ length p → Lays g u p
stream_lays g u p h i s =
    stream_whole g (at_said s u) p h i ∙ ap (finishes g.lent) (fed_aside s g.lent p u) ∙ finishes_over s g.lent (fed g.lent p u) ∙ sym (stream_whole g u p h i)

-- ---- SEND_FWC_DATA

-- its frame with the payload p
pub record SendFrame (p f : List ℕ) : Type 0 where
  pub head : List ℕ
  pub is : f ≡ head ++ p
  pub sixteen : length head ≡ 16
  pub status : ℕ
  pub says : parsed head ≡ request_of 0x12 status (length p)

-- behind it: between frames, the checksum that of the payload, no burn failure, nothing held, and the flash c
pub record Updated (p c : List ℕ) (v : World) : Type 0 where
  pub frame : v.e.frame ≡ record { len = 0; total = 0 }
  pub left : v.e.up.left ≡ 0
  pub crc : v.e.up.crc ≡ crc32 p
  pub burn : v.e.up.burn ≡ 0
  pub held : v.e.store.held ≡ false
  pub chip : v.chip ≡ c

pub record Landed (p c : List ℕ) (o : Out) : Type 0 where
  pub status : o.status ≡ 0
  pub waits : waiting o.w ≡ reply_by 0x12 (ok [])
  pub updated : Updated p c o.w

-- c with p at B, and every other byte as it is
abbrev pub placed_at : ℕ → List ℕ → List ℕ → List ℕ
placed_at B p c = take B c ++ p ++ drop (B + length p) c

pub placed_none : (B : ℕ) (c : List ℕ) → placed_at B [] c ≡ c
placed_none B c = rw (append-nil (take B c), add-zero B) (take-append-drop B c)

-- the end of a stream that took every byte
pub landed : (g : Given) (u : World) (p : List ℕ) → Quiet g u → length u.reply ≡ 4112 → u.e.frame ≡ record { len = 0; total = 0 } → u.e.up.left ≡ 0 → u.e.up.crc ≡ crc32 p
    → u.e.up.burn ≡ 0 → Landed p (view (dev_of u)) (finishes g.lent u)
unfolding replied
landed g u p q y f l c b =
    let k = closing g u q b in
    subst (Landed p (view (dev_of u))) (sym (finish_is g u q b))
    (record {
      status = refl;
      waits = replied_waits 0x12 [] (closed g u q b) (omega arith);
      updated = record { frame = f; left = l; crc = c; burn = refl; held = k.3; chip = k.2 };
    })

module _ (g : Given) (v : World) (B : ℕ) (c : List ℕ) (a : Ready B c v) (q : Quiet g v) (r : length v.request ≡ 8208) (y : length v.reply ≡ 4112) (p f : List ℕ) (k : SendFrame p f)
    (i : B + length p ≤ length v.chip) (j : B + length p ≤ v.e.store.shape.capacity) where
  -- the stream is open
  abbrev pub opened : World
  opened = at_e (with_up (started (length p) v.e.up) (emptied v.e)) (at_request (sets v.request 0 k.head) v)

  short_payload : length p < 2 ^ 32
  unfolding good
  short_payload =
      let d = dev_of v in
      omega (arith, ((sound d.store (length d.chip) (length g.lent.marks) (length d.buf) q.taken).nor q.kind).chip_high)

  send_next : next_of k.head ≡ Send (length p)
  send_next = ap next_by k.says ∙ ap Send (omega (arith, short_payload))

  send_head : feeds g (emptied_at v) k.head ≡ streamed_by g.lent opened
  unfolding begins
  send_head =
      header_done g v a.left k.head k.sixteen (omega arith) ∙ ap (headed_by g (grown (emptied_at v) k.head)) send_next
      ∙ ap (λ (b : Bool). cond b (streamed_by g.lent opened) (ends 0x12 fail (at_request (sets v.request 0 k.head) (emptied_at v)))) a.valid

  -- the payload is none
  pub none_is : p ≡ [] → feeds g (emptied_at v) k.head ≡ finishes g.lent opened
  none_is e = send_head ∙ ap (λ (b : Bool). cond b (finishes g.lent opened) (out_of 0 opened)) (eq-eqb (length p) 0 (ap length e))

  -- the payload is some
  module _ (s : 0 < length p) where
    send_open : feeds g (emptied_at v) k.head ≡ out_of 0 opened
    send_open = send_head ∙ ap (λ (b : Bool). cond b (finishes g.lent opened) (out_of 0 opened)) (ne_eqb (length p) 0 (λ e. omega arith))

    streaming : Streaming g opened
    streaming =
        let t = a.target in
        record { quiet = q; going = λ e. omega arith; room = λ _. record { low = omega arith; short = omega arith } }

    room_open : Room g (feeds g (emptied_at v) k.head).w
    room_open = subst (λ (o : Out). Room g o.w) (sym send_open) (λ n t. streaming.room t)

    pub send_cut : (x : List ℕ) → feeds g (emptied_at v) (k.head ++ x) ≡ feeds g opened x
    send_cut x =
        cut_quiet g (emptied_at v) k.head x q (ap (λ (o : Out). o.status) send_open) room_open ∙ ap (λ (o : Out). feeds g o.w x) send_open

    -- a front that reaches into the payload
    payload_at : (x b : List ℕ) → x ++ b ≡ p → 0 < length b → At g (emptied_at v) (k.head ++ x) b
    payload_at x b e h =
        let l : length x + length b ≡ length p = sym (length-append x b) ∙ ap length e in
        let n : length x < length p = omega arith in
        let d = within_told g opened x n in
        let o = sym (send_cut x) in
        record {
          fine = ap (λ (o : Out). o.status) (sym o) ∙ d.0;
          room = subst (λ (o : Out). Room g o.w) o (λ m t. (within_stays g opened x streaming n).room t);
          lays = subst (λ (o : Out). Lays g o.w b) o (stream_lays g (feeds g opened x).w b h (d.1.left ∙ omega arith));
        }

ready_aside : (s : Said) (B : ℕ) (c : List ℕ) (v : World) → Ready B c v → Ready B c (at_said s v)
ready_aside s B c v a =
    record { frame = a.frame; left = a.left; valid = a.valid; aimed = a.aimed; target = a.target; held = a.held; chip = a.chip }

module _ (g : Given) (v : World) (B : ℕ) (c : List ℕ) (a : Ready B c v) (q : Quiet g v) (r : length v.request ≡ 8208) (y : length v.reply ≡ 4112) (p f : List ℕ) (k : SendFrame p f)
    (i : B + length p ≤ length v.chip) (j : B + length p ≤ v.e.store.shape.capacity) where
  send_lays : Lays g (emptied_at v) (k.head ++ p)
  send_lays s = go p refl
    where
      go : (x : List ℕ) → p ≡ x → feeds g (at_said s (emptied_at v)) (k.head ++ p) ≡ feeds g (emptied_at v) (k.head ++ p)
      go [] e =
          let m : k.head ++ p ≡ k.head = ap (λ (x : List ℕ). k.head ++ x) e ∙ append-nil k.head in
          ap (feeds g (emptied_at (at_said s v))) m
          ∙ none_is g (at_said s v) B c (ready_aside s B c v a) q r y p f k i j e
          ∙ finishes_over s g.lent (opened g v B c a q r y p f k i j)
          ∙ sym (none_is g v B c a q r y p f k i j e)
          ∙ ap (feeds g (emptied_at v)) (sym m)
      go (x ∷ xs) e =
          let n : 0 < length p = omega (arith, ap length e) in
          send_cut g (at_said s v) B c (ready_aside s B c v a) q r y p f k i j n p
          ∙ stream_lays g (opened g v B c a q r y p f k i j) p n refl s
          ∙ sym (send_cut g v B c a q r y p f k i j n p)

  -- and its frame may be cut anyhow
  pub send_smooth : Smooth g (emptied_at v) f
  send_smooth x b e h = go (ltb (length x) 16) refl
    where
      go : (t : Bool) → ltb (length x) 16 ≡ t → At g (emptied_at v) x b
      go true t =
          front_at g v a.left x b (header_front g v a.left x (ltb-true (length x) 16 t)) (subst (Lays g (emptied_at v)) (sym (e ∙ k.is)) send_lays)
      go false t =
          let d = lead x b k.head p (e ∙ k.is) (omega (arith, ltb-false (length x) 16 t, k.sixteen)) in
          let z = drop (length k.head) x in
          let l : length z + length b ≡ length p = sym (length-append z b) ∙ ap length d.1 in
          subst (λ (m : List ℕ). At g (emptied_at v) m b) (sym d.0) (payload_at g v B c a q r y p f k i j (omega arith) z b d.1 h)
