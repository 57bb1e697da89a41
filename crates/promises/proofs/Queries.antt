-- Of specs/Queries.antt: that the queries tell the truth. They stand here, so that a wrong `truth` (must-fail/) is refused by them and not
-- unread.
use Rattle.std.specs.Prelude.{◌≡◌, true, List, [], ◌∷◌, ℕ}
use Rattle.std.proofs.Math.Path.{ap}
use Rattle.std.proofs.Common.{sym, subst, ◌∙◌}
use Rattle.wire.specs.Bytes.{bytes_of}
use Rattle.engine.specs.World.{Given, World}
use Rattle.engine.specs.Reply.{ok, ran}
use Rattle.engine.specs.Exec.{runs, answered}
use Rattle.engine.specs.Feed.{feeds}
use Rattle.engine.specs.Api.{fits}
use Rattle.engine_laws.specs.Cut.{Quiet, cut_quiet, quiet_feeds}
use Rattle.engine_laws.specs.Whole.{emptied_at, between_is, roomed, frame_done}
use Rattle.promises.specs.Cuts.{Smooth, smooth_append}
use Rattle.promises.specs.Update.{Updated}
use Rattle.promises.specs.Queries.{Question, crc, burn, number, truth, QueryFrame, Replied, Queries, Asked, last_of, feeds_fits, Same, asked, crc_told, burn_told, answer_is, not_send, request_room, query_smooth, updated_room}

module _ (g : Given) (v : World) (p c : List ℕ) (u : Updated p c v) (q : Quiet g v) (f : fits g v ≡ true) where
  query_told : (a : Question) (m room : List ℕ) → (x : World) × Same v x × (runs g (number a) m (asked g v p c u q f (number a) room) ≡ ran (ok (bytes_of 4 (truth p a))) x)
  query_told crc m room = crc_told g v p c u q f m room
  query_told burn m room = burn_told g v p c u q f m room

  module _ (a : Question) (d : List ℕ) (k : QueryFrame a d) where
    -- THE STEP: a query tells the truth, and leaves the update as it was
    pub query_done : Replied p c a (feeds g (emptied_at v) d)
    query_done =
        let t = query_told a k.body (roomed v.request k.head k.body) in
        subst (Replied p c a)
        (sym (ap (feeds g (emptied_at v)) k.is ∙ frame_done g v u.left k.head k.body k.sixteen (request_room g v p c u q f a d k) (number a) k.status k.says (not_send g v p c u q f a) k.most ∙ ap (answered (number a)) t.2))
        (answer_is g v p c u q f a t.0 t.1)

-- ---- one after the other

module _ (g : Given) (p c : List ℕ) where
  queries_go : (more : List Question) (a : Question) (bytes : List ℕ) (v : World) → Updated p c v → Quiet g v → fits g v ≡ true → Queries a more bytes → Asked g p c v a more bytes
  queries_go [] a bytes v u q f k =
      let e = between_is v u.frame in
      record {
        replied = subst (λ (x : World). Replied p c a (feeds g x bytes)) e (query_done g v p c u q f a bytes k);
        smooth = subst (λ (x : World). Smooth g x bytes) e (query_smooth g v p c u q f a bytes k);
      }
  queries_go (b ∷ more) a bytes v u q f (d, rest, is, k, ks) =
      let e = between_is v u.frame in
      let r = subst (λ (x : World). Replied p c a (feeds g x d)) e (query_done g v p c u q f a d k) in
      let s = subst (λ (x : World). Smooth g x d) e (query_smooth g v p c u q f a d k) in
      let o = updated_room g (feeds g v d).w p c r.updated in
      let t = queries_go more b rest (feeds g v d).w r.updated (quiet_feeds g v d q) (feeds_fits g v d f) ks in
      let j : feeds g v bytes ≡ feeds g (feeds g v d).w rest = ap (feeds g v) is ∙ cut_quiet g v d rest q r.status o in
      record {
        replied = subst (Replied p c (last_of b more)) (sym j) t.replied;
        smooth = subst (Smooth g v) (sym is) (smooth_append g v q d rest r.status o s t.smooth);
      }

  -- THE LAW: the waiting reply is the truth of the last query
  pub queries_done : (v : World) → Updated p c v → Quiet g v → fits g v ≡ true → (a : Question) (more : List Question) (bytes : List ℕ) → Queries a more bytes → Asked g p c v a more bytes
  queries_done v u q f a more bytes = queries_go more a bytes v u q f
