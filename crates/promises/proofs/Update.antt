-- Of specs/Update.antt: that SEND_FWC_DATA puts the payload where it belongs. It stands here, so that a wrong `placed_at` (must-fail/) is
-- refused by it and not unread.
use Rattle.std.specs.Prelude.{◌≡◌, Bool, ℕ, ◌+◌, ◌-◌, ◌≤◌, ◌<◌, eqb}
use Rattle.std.proofs.Math.Path.{refl, sym, ap, subst}
use Rattle.std.proofs.Common.{◌∙◌, eq-eqb}
use Rattle.std.proofs.Math.Bool.{cond}
use mathlib.Core.List.{List, [], ◌∷◌, ◌++◌, append-nil}
use native.Mathlib.Omega.{arith}
use Rattle.std.proofs.Math.ListN.{length}
use Rattle.wire.specs.Crc.{crc32}
use Rattle.wire.specs.Lines.{p9}
use Rattle.storage.specs.World.{Told}
use Rattle.storage.specs.Store.{writing}
use Rattle.storage_laws.specs.View.{view}
use Rattle.engine.specs.World.{Given, World, dev_of}
use Rattle.engine.specs.Stream.{burn_by, fed_by, finishes}
use Rattle.engine.specs.Feed.{feeds}
use Rattle.engine_laws.specs.Split.{on_start, on_closed, fed_aimed}
use Rattle.engine_laws.specs.Cut.{Quiet, quiet_on, quiet_steady}
use Rattle.engine_laws.specs.Whole.{emptied_at}
use Rattle.promises.specs.Flash.{write_still, free_view}
use Rattle.promises.specs.Update.{Ready, SendFrame, Landed, placed_at, placed_none, landed, opened, none_is, send_cut, stream_whole}

module _ (g : Given) (v : World) (B : ℕ) (c : List ℕ) (a : Ready B c v) (q : Quiet g v) (r : length v.request ≡ 8208) (y : length v.reply ≡ 4112) (p f : List ℕ) (k : SendFrame p f)
    (i : B + length p ≤ length v.chip) (j : B + length p ≤ v.e.store.shape.capacity) where
  -- the stream is open
  abbrev start : World
  start = opened g v B c a q r y p f k i j

  shown : view (dev_of v) ≡ c
  shown = free_view g.lent (dev_of v) q a.held ∙ a.chip

  send_none : p ≡ [] → Landed p (placed_at B p c) (feeds g (emptied_at v) k.head)
  unfolding crc32
  send_none e =
      let n : length p ≡ 0 = ap length e in
      let s : view (dev_of v) ≡ placed_at B p c = shown ∙ sym (placed_none B c) ∙ ap (λ (x : List ℕ). placed_at B x c) (sym e) in
      subst (Landed p (placed_at B p c)) (sym (none_is g v B c a q r y p f k i j e)) (subst (λ (x : List ℕ). Landed p x (finishes g.lent start)) s (landed g start p q y refl n (sym p9 ∙ ap crc32 (sym e)) refl))

  -- the payload is some
  module _ (s : 0 < length p) where
    -- all of it is stored
    abbrev all : Told
    all = writing g.lent (v.e.up.target + 0) p (dev_of v)

    abbrev full : World
    full = fed_by start p all

    full_is : feeds g start p ≡ finishes g.lent full
    full_is = stream_whole g start p s refl ∙ ap (finishes g.lent) (fed_aimed g.lent start p a.aimed)

    full_quiet : Quiet g full
    full_quiet = let d = dev_of v in quiet_on g start full q ((on_closed g.lent d).write (v.e.up.target + 0) p d (on_start g.lent d (quiet_steady g v q)))

    stored : (all.count ≡ length p) × (view all.dev ≡ placed_at (v.e.up.target + 0) p (view (dev_of v)))
    stored = let t = a.target in write_still g.lent (dev_of v) q (v.e.up.target + 0) p (omega arith) (omega arith)

    full_burn : burn_by 0 all.count (length p) ≡ 0
    full_burn = ap (λ (b : Bool). cond b 0 (cond (eqb 0 0) 1 0)) (eq-eqb all.count (length p) stored.0)

    send_some : Landed p (placed_at B p c) (feeds g (emptied_at v) (k.head ++ p))
    unfolding crc32
    send_some =
        let t : v.e.up.target + 0 ≡ B = omega (arith, a.target) in
        let e : view all.dev ≡ placed_at B p c = stored.1 ∙ rw (t, shown) in
        let n : length p - length p ≡ 0 = omega arith in
        subst (Landed p (placed_at B p c)) (sym (send_cut g v B c a q r y p f k i j s p ∙ full_is))
        (subst (λ (x : List ℕ). Landed p x (finishes g.lent full)) e (landed g full p full_quiet y refl n refl full_burn))

  -- THE STEP: the payload is in flash at B, every other byte as it was, and the reply is OK with no data
  pub send_done : Landed p (placed_at B p c) (feeds g (emptied_at v) f)
  send_done = subst (λ (x : List ℕ). Landed p (placed_at B p c) (feeds g (emptied_at v) x)) (sym k.is) (go p refl)
    where
      go : (x : List ℕ) → p ≡ x → Landed p (placed_at B p c) (feeds g (emptied_at v) (k.head ++ p))
      go [] e =
          subst (λ (x : List ℕ). Landed p (placed_at B p c) (feeds g (emptied_at v) x)) (sym (append-nil k.head) ∙ ap (λ (x : List ℕ). k.head ++ x) (sym e)) (send_none e)
      go (x ∷ xs) e = send_some (omega (arith, ap length e))
