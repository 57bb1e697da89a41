-- A failure is told. Reasons.antt and Replies.antt say that a refusal or a fail reply comes for no reason but a named one; here, that for
-- these reasons it does come, on any storage, whatever that does.
--   A command that fails (1d): status 1, and a fail reply waits (`fail_told`).
--   SEND_FWC_DATA without metadata (1c): status 1, a fail reply waits, and nothing else changes (`send_refused`); with metadata it opens a
-- stream whose counts and results are 0 (`send_opens`).
--   "A short storage write sets burn to 1, further payload is still taken and counted in the CRC. At the end: flush if burn is 0, then the
-- reply"; "A data burn failure returns 0 with a fail reply" (01). A write within a stream counts all its bytes and, where the storage took
-- less, sets burn to 1, which stays (`piece_told`); the write that brings the last byte lays a fail reply where burn is 1, where the
-- storage took less of this piece, or where the flush fails (`end_fails`), and OK with no data elsewhere (`end_lands`); and the burn query
-- then tells 1 (`failure_asked`). From any state between frames the burn query tells the update's burn, and the CRC query its checksum
-- (`burn_tells`, `crc_tells`). `fail_told`, `send_opens` and `send_refused` stand in proofs/Failures.antt.
use Rattle.std.specs.Prelude.{◌≡◌, Bool, true, ℕ, ◌+◌, ◌-◌, ◌≤◌, ◌<◌, eqb, replicate}
use Rattle.std.proofs.Math.Path.{refl, ap, subst}
use Rattle.std.proofs.Common.{sym, ◌∙◌, arith}
use Rattle.std.proofs.Math.Bool.{cond}
use mathlib.Core.List.{List, []}
use borrow.Author.Tests.{eq-eqb, ne_eqb}
use Rattle.std.proofs.Math.ListN.{length, length-append}
use Rattle.wire.specs.Bytes.{bytes_of}
use Rattle.wire.specs.Crc.{crc_update}
use Rattle.wire.specs.Header.{reply_magic, header_of, request_of, parsed}
use Rattle.storage.specs.World.{Lent}
use Rattle.storage.specs.Open.{one_of}
use Rattle.storage.specs.Store.{flushing, writing, reading}
use Rattle.storage_laws.specs.Bounds.{either}
use Rattle.engine.specs.World.{Given, World, with_up, at_e, dev_of, at_dev, Out, out_of}
use Rattle.engine.specs.Reply.{Answer, ok, fail, whether, ran, status_by, reply_by, replied, ends}
use Rattle.engine.specs.Command.{plain}
use Rattle.engine.specs.Storing.{probed, crc_query}
use Rattle.engine.specs.Exec.{storing, runs, begun, answered}
use Rattle.engine.specs.Stream.{burn_by, fed_by, fed, taken, settled_by, settled, finishes}
use Rattle.engine.specs.Feed.{feeds}
use Rattle.engine.specs.Api.{fits, writes}
use Rattle.engine.proofs.Replies.{header_length}
use Rattle.engine_laws.specs.Bounds.{in_bounds, write_feeds, write_fits}
use Rattle.engine_laws.specs.Piece.{piece_goes}
use Rattle.engine_laws.specs.Cut.{fed_left}
use Rattle.engine_laws.specs.Whole.{at_request, emptied_at, between_is, roomed, frame_done}
use Rattle.promises.specs.Frames.{Between}
use Rattle.promises.specs.Update.{waiting, stream_whole, laid_waits}
use Rattle.promises.specs.Queries.{Question, crc, burn, number, QueryFrame}
use Rattle.promises.specs.Why.{Unflushed}
use Rattle.promises.specs.Replies.{Short}
use Rattle.promises.specs.Kept.{fail_length}

-- ---- a command that fails

module _ (g : Given) (v : World) (f : fits g v ≡ true) (b : Between v.e) (h m : List ℕ) (n : length h ≡ 16) (c s : ℕ) (p : parsed h ≡ request_of c s (length m))
    (o : c ≡ 0x12 → ⊥) (t : length m ≤ 8192) where
  -- as a command finds the world
  abbrev pub found : World
  found = at_e (begun c v.e) (at_request (roomed v.request h m) v)

-- ---- SEND_FWC_DATA's header

-- it opens a stream of n bytes to the target of before, with nothing counted
pub record Opened (n : ℕ) (v : World) (o : Out) : Type 0 where
  pub status : o.status ≡ 0
  pub left : o.w.e.up.left ≡ n
  pub written : o.w.e.up.written ≡ 0
  pub crc : o.w.e.up.crc ≡ 0
  pub burn : o.w.e.up.burn ≡ 0
  pub aimed : o.w.e.up.aimed ≡ v.e.up.aimed
  pub target : o.w.e.up.target ≡ v.e.up.target
  pub frame : o.w.e.frame ≡ record { len = 0; total = 0 }
  pub store : dev_of o.w ≡ dev_of v

-- or is refused, and only the request and the reply change
pub record Denied (v : World) (o : Out) : Type 0 where
  pub status : o.status ≡ 1
  pub waits : waiting o.w ≡ reply_by 0x12 fail
  pub up : o.w.e.up ≡ v.e.up
  pub frame : o.w.e.frame ≡ record { len = 0; total = 0 }
  pub store : dev_of o.w ≡ dev_of v
  pub scratch : o.w.scratch ≡ v.scratch

-- ---- a piece

module _ (l : Lent) (p : List ℕ) (w : World) where
  -- what holds of a piece that is stored, and of one without a target
  fed_either : (P : World → Type 0) → P (fed_by w p (writing l (w.e.up.target + w.e.up.written) p (dev_of w))) → P (at_e (with_up (taken p (length p) w.e.up) w.e) w) → P (fed l p w)
  unfolding fed
  fed_either P = either P w.e.up.aimed _ _

  one_stays : (old count n : ℕ) → old ≡ 1 → burn_by old count n ≡ 1
  one_stays old count n e = either (λ (b : ℕ). b ≡ 1) (eqb count n) old (cond (eqb old 0) 1 old) e (either (λ (b : ℕ). b ≡ 1) (eqb old 0) 1 old refl e)

  short_burn : w.e.up.burn ≡ 0 → Short l p w → (fed l p w).e.up.burn ≡ 1
  unfolding fed
  short_burn z s =
      rw s.0
      (rw (ne_eqb (writing l (w.e.up.target + w.e.up.written) p (dev_of w)).count (length p) s.1, eq-eqb w.e.up.burn 0 z) refl)

  stays_burn : w.e.up.burn ≡ 1 → (fed l p w).e.up.burn ≡ 1
  stays_burn e =
      let b = w.e.up.burn in
      fed_either (λ (v : World). v.e.up.burn ≡ 1) (one_stays b (writing l (w.e.up.target + w.e.up.written) p (dev_of w)).count (length p) e) (one_stays b (length p) (length p) e)

  fed_crc : (fed l p w).e.up.crc ≡ crc_update w.e.up.crc p
  fed_crc = fed_either (λ (v : World). v.e.up.crc ≡ crc_update w.e.up.crc p) refl refl

  fed_written : (fed l p w).e.up.written ≡ w.e.up.written + length p
  fed_written = fed_either (λ (v : World). v.e.up.written ≡ w.e.up.written + length p) refl refl

  fed_frame : (fed l p w).e.frame ≡ w.e.frame
  fed_frame = fed_either (λ (v : World). v.e.frame ≡ w.e.frame) refl refl

  fed_reply : (fed l p w).reply ≡ w.reply
  fed_reply = fed_either (λ (v : World). v.reply ≡ w.reply) refl refl

-- what a write of p within a stream leaves, whatever the storage took of it
pub record Piece (l : Lent) (p : List ℕ) (w : World) (o : Out) : Type 0 where
  pub status : o.status ≡ 0
  pub short : w.e.up.burn ≡ 0 → Short l p w → o.w.e.up.burn ≡ 1
  pub stays : w.e.up.burn ≡ 1 → o.w.e.up.burn ≡ 1
  pub crc : o.w.e.up.crc ≡ crc_update w.e.up.crc p
  pub written : o.w.e.up.written ≡ w.e.up.written + length p
  pub left : o.w.e.up.left ≡ w.e.up.left - length p
  pub frame : o.w.e.frame ≡ w.e.frame

-- THE LAW of a piece
pub piece_told : (g : Given) (w : World) → fits g w ≡ true → (p : List ℕ) → 0 < length p → length p < w.e.up.left → Piece g.lent p w (writes g w p)
piece_told g w f p h i =
    let l = g.lent in
    subst (Piece l p w) (sym (piece_goes g w p f h i))
    (record {
      status = refl;
      short = short_burn l p w;
      stays = stays_burn l p w;
      crc = fed_crc l p w;
      written = fed_written l p w;
      left = fed_left g p [] w;
      frame = fed_frame l p w;
    })

-- ---- the end

module _ (l : Lent) (v : World) where
  settled_by_lem : (P : World → Type 0) → P (settled_by v (flushing l (dev_of v))) → P v → P (settled l v)
  unfolding settled
  settled_by_lem P = either P (eqb v.e.up.burn 0) _ _

  settled_one : v.e.up.burn ≡ 1 → (settled l v).e.up.burn ≡ 1
  unfolding settled
  settled_one e = rw (ne_eqb v.e.up.burn 0 (λ z. omega arith)) e

  settled_fails : v.e.up.burn ≡ 0 → Unflushed l (dev_of v) → (settled l v).e.up.burn ≡ 1
  unfolding settled
  settled_fails z n = rw (eq-eqb v.e.up.burn 0 z, ne_eqb (flushing l (dev_of v)).status 0 n) refl

  settled_fine : v.e.up.burn ≡ 0 → (flushing l (dev_of v)).status ≡ 0 → (settled l v).e.up.burn ≡ 0
  unfolding settled
  settled_fine z n = rw (eq-eqb v.e.up.burn 0 z, eq-eqb (flushing l (dev_of v)).status 0 n) refl

-- what the write that brings the last byte of a stream leaves: its reply, and the burn result
pub record Told (a : Answer) (b : ℕ) (p : List ℕ) (w : World) (o : Out) : Type 0 where
  pub status : o.status ≡ 0
  pub waits : waiting o.w ≡ reply_by 0x12 a
  pub burnt : o.w.e.up.burn ≡ b
  pub crc : o.w.e.up.crc ≡ crc_update w.e.up.crc p
  pub left : o.w.e.up.left ≡ 0
  pub frame : o.w.e.frame ≡ w.e.frame

module _ (g : Given) (w : World) (f : fits g w ≡ true) (p : List ℕ) (h : 0 < length p) (i : w.e.up.left ≡ length p) where
  -- as the last piece leaves the world, and the end
  abbrev full : World
  full = fed g.lent p w

  abbrev done : World
  done = settled g.lent full

  finish_is : finishes g.lent full ≡ out_of 0 (replied 0x12 (whether (eqb done.e.up.burn 0)) done)
  unfolding finishes
  finish_is = refl

  reply_room : length done.reply ≡ 4112
  reply_room =
      settled_by_lem g.lent full (λ (v : World). length v.reply ≡ 4112) (ap length (fed_reply g.lent p w) ∙ (in_bounds g w f).fit.mid.reply)
      (ap length (fed_reply g.lent p w) ∙ (in_bounds g w f).fit.mid.reply)

  told : (b : ℕ) (a : Answer) → whether (eqb b 0) ≡ a → length (reply_by 0x12 a) ≤ 4112 → done.e.up.burn ≡ b → Told a b p w (writes g w p)
  unfolding replied
  told b a e n q =
      let l = g.lent in
      let x = ap (λ (k : ℕ). whether (eqb k 0)) q ∙ e in
      let y = reply_room in
      subst (Told a b p w) (sym (write_feeds g w f p ∙ stream_whole g w p h i ∙ finish_is ∙ ap (λ (c : Answer). out_of 0 (replied 0x12 c done)) x))
      (record {
        status = refl;
        waits = laid_waits 0x12 a done (omega arith);
        burnt = q;
        crc = settled_by_lem l full (λ (v : World). v.e.up.crc ≡ crc_update w.e.up.crc p) (fed_crc l p w) (fed_crc l p w);
        left = settled_by_lem l full (λ (v : World). v.e.up.left ≡ 0) (fed_left g p [] w ∙ omega arith) (fed_left g p [] w ∙ omega arith);
        frame = settled_by_lem l full (λ (v : World). v.e.frame ≡ w.e.frame) (fed_frame l p w) (fed_frame l p w);
      })

  -- why it fails: an earlier piece came up short, this one did, or the flush behind it failed
  pub data Fails : Type 0 where
    before : w.e.up.burn ≡ 1 → Fails
    now : w.e.up.burn ≡ 0 → Short g.lent p w → Fails
    flush : full.e.up.burn ≡ 0 → Unflushed g.lent (dev_of full) → Fails

  -- THE LAW: then the reply is a fail reply, and burn is 1
  pub end_fails : Fails → Told fail 1 p w (writes g w p)
  end_fails y = told 1 fail refl (omega (arith, fail_length 0x12)) (by y)
    where
      by : Fails → done.e.up.burn ≡ 1
      by (before e) = settled_one g.lent full (stays_burn g.lent p w e)
      by (now z s) = settled_one g.lent full (short_burn g.lent p w z s)
      by (flush z n) = settled_fails g.lent full z n

  ok_length : length (reply_by 0x12 (ok [])) ≡ 16
  unfolding reply_by
  ok_length = length-append (header_of reply_magic 0x12 0 0) [] ∙ ap (λ (n : ℕ). n + 0) (header_length reply_magic 0x12 0 0)

  -- and where none of them came up short and the flush did not fail, it is OK with no data
  pub end_lands : full.e.up.burn ≡ 0 → (flushing g.lent (dev_of full)).status ≡ 0 → Told (ok []) 0 p w (writes g w p)
  end_lands z n = told 0 (ok []) refl (omega (arith, ok_length)) (settled_fine g.lent full z n)

-- ---- the queries, from any state between frames

-- a word that waits
pub record Says (a : Question) (x : ℕ) (o : Out) : Type 0 where
  pub status : o.status ≡ 0
  pub waits : waiting o.w ≡ reply_by (number a) (ok (bytes_of 4 x))

module _ (g : Given) (v : World) (f : fits g v ≡ true) (e : v.e.frame ≡ record { len = 0; total = 0 }) (z : v.e.up.left ≡ 0) where
  abbrev asked : ℕ → List ℕ → World
  asked n room = at_e (begun n v.e) (at_request room v)

  word_length : (c n : ℕ) → length (reply_by c (ok (bytes_of 4 n))) ≡ 20
  unfolding reply_by bytes_of
  word_length c n = length-append (header_of reply_magic c 0 4) (bytes_of 4 n) ∙ ap (λ (k : ℕ). k + 4) (header_length reply_magic c 0 4)

  not_send : (a : Question) → number a ≡ 0x12 → ⊥
  not_send crc e = omega arith
  not_send burn e = omega arith

  says : (a : Question) (n : ℕ) (u : World) → u.reply ≡ v.reply → Says a n (answered (number a) (ran (ok (bytes_of 4 n)) u))
  unfolding ends status_by
  says a n u r =
      record { status = refl; waits = laid_waits (number a) (ok (bytes_of 4 n)) u (omega (arith, word_length (number a) n, ap length r, (in_bounds g v f).fit.mid.reply)) }

  query_is : (a : Question) (d : List ℕ) (k : QueryFrame a d)
      → writes g v d ≡ answered (number a) (runs g (number a) k.body (asked (number a) (roomed v.request k.head k.body)))
  query_is a d k =
      write_feeds g v f d ∙ ap (λ (x : World). feeds g x d) (sym (between_is v e)) ∙ ap (feeds g (emptied_at v)) k.is
      ∙ frame_done g v z k.head k.body k.sixteen (omega (arith, k.most, (in_bounds g v f).fit.mid.request)) (number a) k.status k.says (not_send a) k.most

  burn_run : (m room : List ℕ) → runs g 0x14 m (asked 0x14 room) ≡ ran (ok (bytes_of 4 v.e.up.burn)) (asked 0x14 room)
  unfolding runs one_of plain
  burn_run m room = refl

  -- the burn query tells the update's burn
  pub burn_tells : (d : List ℕ) → QueryFrame burn d → Says burn v.e.up.burn (writes g v d)
  burn_tells d k =
      let room = roomed v.request k.head k.body in
      subst (Says burn v.e.up.burn) (sym (query_is burn d k ∙ ap (answered 0x14) (burn_run k.body room))) (says burn v.e.up.burn (asked 0x14 room) refl)

  -- the CRC query its checksum, where the flush before it does not fail
  module _ (t : (flushing g.lent (dev_of v)).status ≡ 0) where
    abbrev flushed : List ℕ → World
    flushed room = at_dev (flushing g.lent (dev_of v)).dev (asked 0x13 room)

    crc_run : (m room : List ℕ) → runs g 0x13 m (asked 0x13 room) ≡ ran (ok (bytes_of 4 v.e.up.crc)) (probed g.lent (flushed room))
    unfolding runs one_of storing crc_query
    crc_run m room =
        let x = asked 0x13 room in
        ap (λ (b : Bool). cond b (ran (ok (bytes_of 4 v.e.up.crc)) (probed g.lent (flushed room))) (ran fail (flushed room))) (eq-eqb (flushing g.lent (dev_of v)).status 0 t)

    probed_reply : (room : List ℕ) → (probed g.lent (flushed room)).reply ≡ v.reply
    unfolding probed
    probed_reply room =
        let x = flushed room in
        either (λ (u : World). u.reply ≡ v.reply) x.e.up.aimed (at_dev (reading g.lent x.e.up.target (replicate 16 0) (dev_of x)).told.dev x) x refl refl

    pub crc_tells : (d : List ℕ) → QueryFrame crc d → Says crc v.e.up.crc (writes g v d)
    crc_tells d k =
        let room = roomed v.request k.head k.body in
        subst (Says crc v.e.up.crc) (sym (query_is crc d k ∙ ap (answered 0x13) (crc_run k.body room)))
        (says crc v.e.up.crc (probed g.lent (flushed room)) (probed_reply room))

-- so behind a stream that failed the burn query tells 1
pub failure_asked : (g : Given) (w : World) (f : fits g w ≡ true) (p : List ℕ) (h : 0 < length p) (i : w.e.up.left ≡ length p) → w.e.frame ≡ record { len = 0; total = 0 }
    → Fails g w f p h i → (d : List ℕ) → QueryFrame burn d → Says burn 1 (writes g (writes g w p).w d)
failure_asked g w f p h i e y d k =
    let t = end_fails g w f p h i y in
    let v = (writes g w p).w in
    subst (λ (n : ℕ). Says burn n (writes g v d)) t.burnt (burn_tells g v (write_fits g w f p) (t.frame ∙ e) t.left d k)
