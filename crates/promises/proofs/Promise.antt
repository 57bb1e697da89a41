-- Of specs/Promise.antt: the promise itself. It rests on the theorems of Frames.antt, Update.antt and Queries.antt beside this file, and stands
-- here with them.
use Rattle.std.specs.Prelude.{◌≡◌, refl, true, ℕ, ◌+◌, ◌≤◌, ◌<◌, length}
use Rattle.std.proofs.Common.{sym, ap, subst, ◌∙◌, arith}
use mathlib.Core.List.{List, ◌++◌}
use Rattle.storage.specs.declared.types.Shape.{Shape}
use Rattle.storage_laws.specs.Faults.{QuietFrom}
use Rattle.storage_laws.specs.View.{view}
use Rattle.engine.specs.World.{Given, World, dev_of, Out}
use Rattle.engine.specs.Feed.{feeds}
use Rattle.engine.specs.Api.{fits, writes}
use Rattle.engine_laws.specs.Bounds.{Call, after_all, in_bounds, write_feeds, nor_opening}
use Rattle.engine_laws.specs.Carry.{feeds_left}
use Rattle.engine_laws.specs.Split.{On, on_start, on_closed}
use Rattle.engine_laws.specs.Cut.{Quiet, Room, cut_quiet, quiet_feeds, quiet_steady}
use Rattle.engine_laws.specs.Whole.{between_is}
use Rattle.promises.specs.Runs.{Act}
use Rattle.promises.specs.Frames.{Between, sent_by, NoReset}
use Rattle.promises.specs.Cuts.{Answered, Smooth, smooth_append, Carried, carried}
use Rattle.promises.specs.Update.{MetaFrame, SendFrame, Ready, Aimed, Landed, placed_at, meta_done, meta_smooth, send_smooth}
use Rattle.promises.proofs.Frames.{between_same}
use Rattle.promises.proofs.Update.{send_done}
use Rattle.promises.specs.Queries.{Question, Queries, last_of, Replied, feeds_fits}
use Rattle.promises.proofs.Queries.{queries_done}
use Rattle.promises.specs.Promise.{here, here_fits, here_quiet, here_capacity, here_chip}

-- ---- the update, from between frames

module _ (g : Given) (w : World) (f : fits g w ≡ true) (b : Between w.e) (q : Quiet g w) (most : length w.chip ≤ w.e.store.shape.capacity)
    (B : ℕ) (p M D : List ℕ) (m : MetaFrame g B M) (d : SendFrame p D) (i : B + length p ≤ length w.chip) where
  -- the flash at the metadata's reply
  abbrev pub flash : List ℕ
  flash = (feeds g w M).w.chip

  aimed : Aimed B (view (dev_of w)) (feeds g w M)
  aimed =
      let r = (in_bounds g w f).fit.mid in
      subst (λ (x : World). Aimed B (view (dev_of w)) (feeds g x M)) (between_same w b) (meta_done g w b.left q r.request r.reply B M m)

  -- the engine at the metadata's reply
  abbrev v : World
  v = (feeds g w M).w

  ready : Ready B flash v
  ready =
      let a = aimed.ready in
      record { frame = a.frame; left = a.left; valid = a.valid; aimed = a.aimed; target = a.target; held = a.held; chip = refl }

  v_on : On g.lent (dev_of w) (dev_of v)
  v_on = let l = g.lent in (feeds_left g (On l (dev_of w)) (on_closed l (dev_of w)) w M).stays.store (on_start l (dev_of w) (quiet_steady g w q))

  v_fits : fits g v ≡ true
  v_fits = feeds_fits g w M f

  v_room : Room g v
  v_room = λ n. absurd (n ready.left)

  v_chip : B + length p ≤ length v.chip
  v_chip = omega (arith, v_on.chip)

  v_capacity : B + length p ≤ v.e.store.shape.capacity
  v_capacity = let c = ap (λ (x : Shape). x.capacity) v_on.shape in omega arith

  landed : Landed p (placed_at B p flash) (feeds g w (M ++ D))
  landed =
      let r = (in_bounds g v v_fits).fit.mid in
      subst (Landed p (placed_at B p flash))
      (ap (λ (x : World). feeds g x D) (between_is v ready.frame) ∙ sym (cut_quiet g w M D q aimed.status v_room))
      (send_done g v B flash ready (quiet_feeds g w M q) r.request r.reply p D d v_chip v_capacity)

  meta_cut : Smooth g w M
  meta_cut = let r = (in_bounds g w f).fit.mid in subst (λ (x : World). Smooth g x M) (between_same w b) (meta_smooth g w b.left q r.request r.reply B M m)

  both_cut : Smooth g w (M ++ D)
  both_cut =
      let r = (in_bounds g v v_fits).fit.mid in
      smooth_append g w q M D aimed.status v_room meta_cut
      (subst (λ (x : World). Smooth g x D) (between_is v ready.frame) (send_smooth g v B flash ready (quiet_feeds g w M q) r.request r.reply p D d v_chip v_capacity))

  -- "a metadata frame is accepted with a partition found at B": cut anyhow, every write answers 0, and the reply is OK with no data
  pub metadata : (cs : List Call) (last : List ℕ) → NoReset cs → 0 < length last → sent_by cs ++ last ≡ M
      → Answered g w cs × Aimed B flash (writes g (after_all g w cs) last)
  metadata cs last n k e =
      let c = carried g w q M last meta_cut k cs n f e in
      let a : Aimed B flash (feeds g w M) = record { status = aimed.status; waits = aimed.waits; ready = ready } in
      (c.answered, subst (Aimed B flash) (sym c.is) a)

  -- what the whole update leaves
  module _ (cs : List Call) (last : List ℕ) (n : NoReset cs) (k : 0 < length last) (e : sent_by cs ++ last ≡ M ++ D) where
    whole : Carried g w q (M ++ D) last both_cut k w cs
    whole = carried g w q (M ++ D) last both_cut k cs n f e

    -- "once that frame is complete, nothing sent behind it, the waiting reply is OK with no data, flash holds the payload at B, and all
    -- its other bytes are as they were at the metadata's reply"
    pub update : Answered g w cs × Landed p (placed_at B p flash) (writes g (after_all g w cs) last)
    update = (whole.answered, subst (Landed p (placed_at B p flash)) (sym whole.is) landed)

    -- the engine then
    abbrev pub behind : World
    behind = (writes g (after_all g w cs) last).w

    behind_is : (feeds g w (M ++ D)).w ≡ behind
    behind_is = ap (λ (o : Out). o.w) (sym whole.is)

    -- "CRC and burn queries sent straight after, reads aside, give the payload's CRC-32 and zero", cut anyhow themselves
    pub queries : (a : Question) (more : List Question) (bytes : List ℕ) → Queries a more bytes → (cs2 : List Call) (last2 : List ℕ) → NoReset cs2 → 0 < length last2
        → sent_by cs2 ++ last2 ≡ bytes → Answered g behind cs2 × Replied p (placed_at B p flash) (last_of a more) (writes g (after_all g behind cs2) last2)
    queries a more bytes x cs2 last2 o j h =
        let u = update.1.updated in
        let r = subst (Quiet g) behind_is (quiet_feeds g w (M ++ D) q) in
        let t = subst (λ (y : World). fits g y ≡ true) behind_is (feeds_fits g w (M ++ D) f) in
        let z = queries_done g p (placed_at B p flash) behind u r t a more bytes x in
        let c = carried g behind r bytes last2 z.smooth j cs2 o t h in
        (c.answered, subst (Replied p (placed_at B p flash) (last_of a more)) (sym c.is) z.replied)

-- ---- demand 3, start to end

-- After any calls and packets at all from an accepted opening, between frames: a metadata frame whose partition is found at B, and a
-- SEND_FWC_DATA frame with the payload p, both cut across writes anyhow, only reads between, on a NOR that makes no error from the
-- metadata on and holds at least B + N bytes
module _ (g : Given) (parts : World) (base stage device : ℕ) (e : (nor_opening g parts base stage device).number ≡ 0) (acts : List Act)
    (b : Between (here g parts base stage device e acts).e) (q : QuietFrom g.lent.faults (here g parts base stage device e acts).e.store.calls)
    (B : ℕ) (p M D : List ℕ) (m : MetaFrame g B M) (d : SendFrame p D) (i : B + length p ≤ length parts.chip)
    (cs : List Call) (last : List ℕ) (n : NoReset cs) (k : 0 < length last) (c : sent_by cs ++ last ≡ M ++ D) where
  abbrev w : World
  w = here g parts base stage device e acts

  -- the flash at the metadata's reply
  abbrev pub before : List ℕ
  before = (writes g w M).w.chip

  before_is : (feeds g w M).w.chip ≡ before
  before_is = ap (λ (o : Out). o.w.chip) (sym (write_feeds g w (here_fits g parts base stage device e acts) M))

  holds : B + length p ≤ length w.chip
  holds = omega (arith, here_chip g parts base stage device e acts)

  -- every write answers 0, and once the last byte is there the waiting reply is OK with no data, the flash has the payload at B and every
  -- other byte as it was at the metadata's reply
  pub promise : Answered g w cs × Landed p (placed_at B p before) (writes g (after_all g w cs) last)
  promise =
      subst (λ (x : List ℕ). Answered g w cs × Landed p (placed_at B p x) (writes g (after_all g w cs) last)) before_is
      (update g w (here_fits g parts base stage device e acts) b (here_quiet g parts base stage device e acts q) (here_capacity g parts base stage device e acts) B p M D m d holds cs last n k c)

  -- and the CRC and burn queries behind it, reads aside, in any number and order and cut anyhow, tell the payload's CRC-32 and zero
  pub promise_queries : (a : Question) (more : List Question) (bytes : List ℕ) → Queries a more bytes → (cs2 : List Call) (last2 : List ℕ) → NoReset cs2 → 0 < length last2
      → sent_by cs2 ++ last2 ≡ bytes
      → (let v = (writes g (after_all g w cs) last).w in Answered g v cs2 × Replied p (placed_at B p before) (last_of a more) (writes g (after_all g v cs2) last2))
  promise_queries a more bytes x cs2 last2 o j h =
      subst (λ (y : List ℕ). let v = (writes g (after_all g w cs) last).w in Answered g v cs2 × Replied p (placed_at B p y) (last_of a more) (writes g (after_all g v cs2) last2)) before_is
      (queries g w (here_fits g parts base stage device e acts) b (here_quiet g parts base stage device e acts q) (here_capacity g parts base stage device e acts) B p M D m d holds cs last n k c
      a more bytes x cs2 last2 o j h)
