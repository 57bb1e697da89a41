-- Of specs/Kept.antt: what metadata of an unknown partition leave. It stands here, so that a wrong `Kept` (must-fail/) is refused by it and
-- not unread.
use Rattle.std.specs.Prelude.{◌≡◌, true, List, ◌++◌, ℕ, ◌<◌, length}
use Rattle.std.proofs.Math.Path.{ap}
use Rattle.std.proofs.Common.{sym, subst, ◌∙◌}
use Rattle.storage.specs.World.{Told}
use Rattle.storage.specs.Store.{flushing}
use Rattle.engine.specs.World.{Given, World, dev_of}
use Rattle.engine.specs.Feed.{feeds}
use Rattle.engine.specs.Api.{fits, writes}
use Rattle.engine_laws.specs.Bounds.{in_bounds, write_feeds, Call, after_all}
use Rattle.engine_laws.specs.Cut.{Quiet}
use Rattle.engine_laws.specs.Whole.{emptied_at}
use Rattle.promises.specs.Frames.{Between, sent_by, NoReset}
use Rattle.promises.specs.Cuts.{Answered, Smooth, carried}
use Rattle.promises.specs.Flash.{flush_still}
use Rattle.promises.specs.Why.{meta_in}
use Rattle.promises.proofs.Frames.{between_same}
use Rattle.promises.specs.Kept.{LostFrame, Kept, lost_is, lost_left, lost_smooth}

module _ (g : Given) (w : World) (z : w.e.up.left ≡ 0) (r : length w.request ≡ 8208) (y : length w.reply ≡ 4112) (t : (flushing g.lent (dev_of w)).status ≡ 0)
    (f : List ℕ) (k : LostFrame g f) where
  lost_done : Kept g.lent (meta_in k.body) w (feeds g (emptied_at w) f)
  lost_done = subst (Kept g.lent (meta_in k.body) w) (sym (lost_is g w z r y t f k)) (lost_left g w z r y t f k)

module _ (g : Given) (w : World) (f : fits g w ≡ true) (b : Between w.e) (M : List ℕ) (k : LostFrame g M) where
  -- THE LAW: from between frames, where the flush does not fail
  pub unknown_kept : (flushing g.lent (dev_of w)).status ≡ 0 → Kept g.lent (meta_in k.body) w (writes g w M)
  unknown_kept t =
      let m = (in_bounds g w f).fit.mid in
      subst (Kept g.lent (meta_in k.body) w) (ap (λ (x : World). feeds g x M) (between_same w b) ∙ sym (write_feeds g w f M)) (lost_done g w b.left m.request m.reply t M k)

  -- and on a NOR that makes no error, with the frame cut across writes anyhow and reads between
  pub unknown_cut : Quiet g w → (cs : List Call) (last : List ℕ) → NoReset cs → 0 < length last → sent_by cs ++ last ≡ M
      → Answered g w cs × Kept g.lent (meta_in k.body) w (writes g (after_all g w cs) last)
  unknown_cut q cs last n i e =
      let m = (in_bounds g w f).fit.mid in
      let t = ap (λ (x : Told). x.status) (flush_still g.lent (dev_of w) q).1 in
      let d = subst (λ (x : World). Kept g.lent (meta_in k.body) w (feeds g x M)) (between_same w b) (lost_done g w b.left m.request m.reply t M k) in
      let s = subst (λ (x : World). Smooth g x M) (between_same w b) (lost_smooth g w b.left m.request m.reply t M k) in
      let c = carried g w q M last s i cs n f e in
      (c.answered, subst (Kept g.lent (meta_in k.body) w) (sym c.is) d)
