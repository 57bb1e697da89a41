-- What is not refused with 9 is in bounds; and a read, as the code goes.
use Rattle.std.proofs.Common.{◌≡◌, ℕ, ◌+◌, ◌-◌, ◌^◌, min, Bool, true, false, cond, ◌&&◌, eqb, ltb, leb, Ok, List, ◌++◌, length, take, drop, sym, refl, ap, ◌∙◌, arith, length-drop, length-take-le, ltb-true, eqb-true, leb-true}
use Rattle.std.proofs.Math.Bool.{and-false}
use Rattle.std.proofs.lemmas.Bool.{and_parts}
use lib.Seq.{sets}
use borrow.Author.Tests.{eqb-false}
use Rattle.storage.specs.declared.types.Store.{Store}
use Rattle.storage.specs.World.{Lent, Dev}
use Rattle.storage.specs.Open.{in_bounds, parts_fit}
use Rattle.storage.specs.Store.{good}
use Rattle.engine.specs.declared.types.Frame.{Frame}
use Rattle.engine.specs.declared.types.Said.{Said}
use Rattle.engine.specs.declared.types.Update.{Update}
use Rattle.engine.specs.World.{Given, World, with_said, dev_of}
use Rattle.engine.specs.Stream.{UpFit}
use Rattle.engine.specs.Feed.{SaidFit, FrameFit, Fit}
use Rattle.engine.specs.Api.{rooms_ok, frame_ok, said_ok, up_ok, engine_ok, fits, no_store, took, reads}
use Rattle.engine.proofs.Replies.{front_is}

-- ---- in bounds

rooms_fit : (request reply : ℕ) → rooms_ok request reply ≡ true → (request ≡ 8208) × (reply ≡ 4112)
rooms_fit request reply e = let h = and_parts (eqb request 8208) _ e in (eqb-true _ _ h.0, eqb-true _ _ h.1)

frame_fit : (f : Frame) → frame_ok f ≡ true → FrameFit f
frame_fit f = go (eqb f.total 0) refl
  where
    go : (t : Bool) → eqb f.total 0 ≡ t → cond t (ltb f.len 16) (ltb f.len f.total && leb f.total 8208) ≡ true → FrameFit f
    go true p e = let z = eqb-true f.total 0 p in (λ _. ltb-true _ _ e, λ n. absurd (n z), omega arith)
    go false p e =
        let h = and_parts (ltb f.len f.total) _ e in
        (λ z. absurd (eqb-false _ _ p z), λ _. ltb-true _ _ h.0, leb-true _ _ h.1)

pub said_fit : (s : Said) → said_ok s ≡ true → SaidFit s
said_fit s e = let h = and_parts (leb s.pos s.len) _ e in (leb-true _ _ h.0, leb-true _ _ h.1)

up_fit : (u : Update) → up_ok u ≡ true → UpFit u
unfolding up_ok
up_fit u e = let h = and_parts (leb u.target (2 ^ 31)) _ e in (ltb-true _ _ h.1, leb-true _ _ h.0)

pub world_fit : (g : Given) (w : World) → fits g w ≡ true → Fit w
unfolding fits engine_ok
world_fit g w e =
    let a = and_parts (rooms_ok (length w.request) (length w.reply)) _ e in
    let b = (and_parts (frame_ok w.e.frame && (said_ok w.e.said && up_ok w.e.up)) _ a.1).0 in
    let c = and_parts (frame_ok w.e.frame) _ b in
    let d = and_parts (said_ok w.e.said) _ c.1 in
    let r = rooms_fit (length w.request) (length w.reply) a.0 in
    record {
      mid = record { request = r.0; reply = r.1; said = said_fit w.e.said d.0; up = up_fit w.e.up d.1 };
      frame = frame_fit w.e.frame c.0;
    }

-- ---- read

-- no more is copied than waits, and the reply room has that many
pub said_in : (g : Given) (w : World) → fits g w ≡ true → SaidFit w.e.said × (length w.reply ≡ 4112)
said_in g w e = let m = (world_fit g w e).mid in (m.said, m.reply)

-- the copied part, and the room behind it
pub reads_told : (g : Given) (w : World) (room : List ℕ) {n : ℕ} {x : List ℕ} → fits g w ≡ true → n ≡ min (w.e.said.len - w.e.said.pos) (length room)
    → x ≡ take (w.e.said.pos + n - w.e.said.pos) (drop w.e.said.pos w.reply)
    → took (Ok n) (with_said (record { len = w.e.said.len; pos = w.e.said.pos + n }) w.e) (x ++ drop n room) ≡ reads g w room
unfolding reads
reads_told g w room {n} {x} f p q =
    let h = said_in g w f in
    let d = drop w.e.said.pos w.reply in
    let k : w.e.said.pos + n - w.e.said.pos ≡ n = omega arith in
    let z : x ≡ take n d = q ∙ ap (λ (m : ℕ). take m d) k in
    let l : length (take n d) ≡ n = length-take-le n d (simp length-drop (omega (arith, h.0.0, h.0.1, h.1))) in
    let s : sets room 0 (take n d) ≡ x ++ drop n room =
    front_is room (take n d) (omega (arith, l)) ∙ ap (λ (m : ℕ). take n d ++ drop m room) l ∙ ap (λ (y : List ℕ). y ++ drop n room) (sym z) in
    rw (f, ← p, s)

-- ---- a refused opening

none_good : (l : Lent) (d : Dev) → d.store ≡ no_store → good l d ≡ false
unfolding good in_bounds
none_good l d e = ap (λ (s : Store). in_bounds s && parts_fit s (length d.chip) (length l.marks) (length d.buf)) e

-- every later call is refused
pub none_fits : (g : Given) (w : World) → w.e.store ≡ no_store → fits g w ≡ false
unfolding fits
none_fits g w e = rw (none_good g.lent (dev_of w) e, and-false (engine_ok w.e), and-false (rooms_ok (length w.request) (length w.reply)))
