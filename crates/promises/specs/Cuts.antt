-- Bytes cut across writes anyhow, with reads of replies between them. Where every front of the bytes has status 0 and leaves an open
-- stream room, and what is behind any cut lays a reply (`Smooth`), the write that brings the last of them leaves what one write of all
-- of them would (`carried`): where it was cut, and what was read of earlier replies, cannot be told. Frames one after the other are
-- smooth where each is (`smooth_append`), and a command's frame from between frames is (`frame_smooth`).
use Rattle.std.specs.Prelude.{◌≡◌, refl, Bool, true, false, ℕ, ◌+◌, ◌≤◌, ◌<◌, ltb, length, drop}
use Rattle.std.proofs.Common.{sym, subst, ◌∙◌, ⊎_elim, arith, ltb-true, ltb-false, length-drop}
use Rattle.std.proofs.Math.Path.{ap}
use mathlib.Core.List.{List, [], ◌∷◌, ◌++◌, append_assoc}
use Rattle.std.proofs.Math.ListN.{length-append}
use Rattle.wire.specs.Header.{request_of, parsed}
use Rattle.engine.specs.declared.types.Said.{Said}
use Rattle.engine.specs.World.{Given, World, at_e, Out, out_of}
use Rattle.engine.specs.Reply.{Ran, ran, replied, ends}
use Rattle.engine.specs.Exec.{runs, begun, answered}
use Rattle.engine.specs.Feed.{feeds}
use Rattle.engine.specs.Api.{fits, writes}
use Rattle.engine.proofs.Feeds.{feed_nil}
use Rattle.engine_laws.specs.Bounds.{Call, write, read, reset, after, after_all, write_feeds, write_fits, read_fits}
use Rattle.engine_laws.specs.Cut.{Quiet, Room, cut_unaimed, cut_quiet, quiet_feeds}
use Rattle.engine_laws.specs.Whole.{at_said, at_request, emptied_at, roomed, frame_done, lead, Gathers, frame_front}
use Rattle.promises.specs.Aside.{runs_aside, feeds_aside, behind, read_at_said}
use Rattle.promises.specs.Frames.{sent_by, NoReset}

-- ---- what the host does

-- every write answers 0
abbrev pub Answered : Given → World → List Call → Type 0
Answered g w [] = Unit {0}
Answered g w (write d ∷ cs) = ((writes g w d).status ≡ 0) × Answered g (after g w (write d)) cs
Answered g w (read room ∷ cs) = Answered g (after g w (read room)) cs
Answered g w (reset ∷ cs) = Answered g (after g w reset) cs

-- ---- smooth bytes

module _ (g : Given) where
  -- a reply is laid, wherever the one before it is read to
  abbrev pub Lays : World → List ℕ → Type 0
  Lays w b = (s : Said) → feeds g (at_said s w) b ≡ feeds g w b

  -- a cut between a and b
  pub record At (w : World) (a b : List ℕ) : Type 0 where
    pub fine : (feeds g w a).status ≡ 0
    pub room : Room g (feeds g w a).w
    pub lays : Lays (feeds g w a).w b

  abbrev pub Smooth : World → List ℕ → Type 0
  Smooth w bytes = (a b : List ℕ) → a ++ b ≡ bytes → 0 < length b → At w a b

  -- ---- cut anyhow

  module _ (w : World) (q : Quiet g w) (bytes p : List ℕ) (sm : Smooth w bytes) (i : 0 < length p) where
    -- the front a was taken, and of a reply some was read
    pub record Come (a : List ℕ) (v : World) : Type 0 where
      pub said : Said
      pub fits_it : fits g v ≡ true
      pub is : v ≡ at_said said (feeds g w a).w

    -- how a write goes on from there
    aside_is : (s : Said) (u : World) (d : List ℕ) → (t : Said) × (feeds g (at_said s u) d ≡ out_of (feeds g u d).status (at_said t (feeds g u d).w))
    aside_is s u d = ⊎_elim (λ e. ((feeds g u d).w.e.said, e.0)) (λ e. (s, e.0)) (feeds_aside g s u d)

    write_come : (a d : List ℕ) (v : World) → Come a v → (feeds g w a).status ≡ 0 → Room g (feeds g w a).w
        → ((writes g v d).status ≡ (feeds g w (a ++ d)).status) × Come (a ++ d) (writes g v d).w
    write_come a d v c y r =
        let u = (feeds g w a).w in
        let k = aside_is c.said u d in
        let e : writes g v d ≡ out_of (feeds g u d).status (at_said k.0 (feeds g u d).w) =
        write_feeds g v c.fits_it d ∙ ap (λ (x : World). feeds g x d) c.is ∙ k.1 in
        let j : feeds g w (a ++ d) ≡ feeds g u d = cut_quiet g w a d q y r in (
          ap (λ (o : Out). o.status) (e ∙ ap (λ (o : Out). out_of o.status (at_said k.0 o.w)) (sym j)),
          record {
            said = k.0;
            fits_it = write_fits g v c.fits_it d;
            is = ap (λ (o : Out). o.w) e ∙ ap (λ (o : Out). at_said k.0 o.w) (sym j);
          },
        )

    read_come : (a room : List ℕ) (v : World) → Come a v → Come a (after g v (read room))
    read_come a room v c =
        record {
          said = behind v.e.said room;
          fits_it = read_fits g v c.fits_it room;
          is = read_at_said g v c.fits_it room ∙ ap (at_said (behind v.e.said room)) c.is;
        }

    -- what the whole run leaves, behind its last write
    pub record Carried (v : World) (cs : List Call) : Type 0 where
      pub answered : Answered g v cs
      pub is : writes g (after_all g v cs) p ≡ feeds g w bytes

    last : (a : List ℕ) (v : World) → Come a v → a ++ p ≡ bytes → writes g v p ≡ feeds g w bytes
    last a v c e =
        let x = sm a p e i in
        write_feeds g v c.fits_it p ∙ ap (λ (u : World). feeds g u p) c.is ∙ x.lays c.said ∙ sym (cut_quiet g w a p q x.fine x.room) ∙ ap (feeds g w) e

    carries : (cs : List Call) (a : List ℕ) (v : World) → NoReset cs → Come a v → a ++ (sent_by cs ++ p) ≡ bytes → Carried v cs
    unfolding after_all
    carries [] a v h c e = record { answered = tt; is = last a v c e }
    carries (write d ∷ cs) a v h c e =
        let f : (a ++ d) ++ (sent_by cs ++ p) ≡ bytes = append_assoc a d (sent_by cs ++ p) ∙ ap (λ (l : List ℕ). a ++ l) (sym (append_assoc d (sent_by cs) p)) ∙ e in
        let x = sm a ((d ++ sent_by cs) ++ p) e (rw length-append (omega arith)) in
        let y = sm (a ++ d) (sent_by cs ++ p) f (rw length-append (omega arith)) in
        let k = write_come a d v c x.fine x.room in
        let r = carries cs (a ++ d) (writes g v d).w h k.1 f in
        record { answered = (k.0 ∙ y.fine, r.answered); is = r.is }
    carries (read room ∷ cs) a v h c e =
        let r = carries cs a (after g v (read room)) h (read_come a room v c) e in
        record { answered = r.answered; is = r.is }
    carries (reset ∷ cs) a v h c e = absurd h

    -- THE LAW: bytes that are smooth, cut across writes anyhow with reads between: every write answers 0, and the one that brings the
    -- last byte leaves what one write of all of them leaves
    pub carried : (cs : List Call) → NoReset cs → fits g w ≡ true → sent_by cs ++ p ≡ bytes → Carried w cs
    carried cs h f e = carries cs [] w h (record { said = w.e.said; fits_it = f; is = ap (λ (o : Out). at_said w.e.said o.w) (sym (feed_nil g w)) }) e

  -- ---- bytes one after the other

  quiet_aside : (s : Said) (w : World) → Quiet g w → Quiet g (at_said s w)
  quiet_aside s w q = record { kind = q.kind; taken = q.taken; shows = q.shows; quiet = q.quiet }

  module _ (w : World) (q : Quiet g w) (x y : List ℕ) (z : (feeds g w x).status ≡ 0) (r : Room g (feeds g w x).w) where
    -- a reply that is laid by the first is laid by both
    lays_more : (u : World) → Quiet g u → (b : List ℕ) → Lays u b → (feeds g u b).status ≡ 0 → Room g (feeds g u b).w → Lays u (b ++ y)
    lays_more u p b l n k s =
        cut_quiet g (at_said s u) b y (quiet_aside s u p) (ap (λ (o : Out). o.status) (l s) ∙ n) (subst (λ (o : Out). Room g o.w) (sym (l s)) k)
        ∙ ap (λ (o : Out). feeds g o.w y) (l s) ∙ sym (cut_quiet g u b y p n k)

    first_at : (a b : List ℕ) → At w a b → a ++ b ≡ x → At w a (b ++ y)
    first_at a b t e =
        let j : feeds g (feeds g w a).w b ≡ feeds g w x = sym (cut_quiet g w a b q t.fine t.room) ∙ ap (feeds g w) e in
        record {
          fine = t.fine;
          room = t.room;
          lays = lays_more (feeds g w a).w (quiet_feeds g w a q) b t.lays (ap (λ (o : Out). o.status) j ∙ z) (subst (λ (o : Out). Room g o.w) (sym j) r);
        }

    second_at : (a b : List ℕ) → At (feeds g w x).w a b → At w (x ++ a) b
    second_at a b t =
        let j : feeds g (feeds g w x).w a ≡ feeds g w (x ++ a) = sym (cut_quiet g w x a q z r) in
        record {
          fine = ap (λ (o : Out). o.status) (sym j) ∙ t.fine;
          room = subst (λ (o : Out). Room g o.w) j t.room;
          lays = subst (λ (o : Out). Lays o.w b) j t.lays;
        }

    -- bytes behind others are smooth where both are
    pub smooth_append : Smooth w x → Smooth (feeds g w x).w y → Smooth w (x ++ y)
    smooth_append f h a b e i = go (ltb (length a) (length x)) refl
      where
        go : (t : Bool) → ltb (length a) (length x) ≡ t → At w a b
        go true j =
            let k = ltb-true (length a) (length x) j in
            let d = lead x y a b (sym e) (omega arith) in
            subst (At w a) d.1 (first_at a (drop (length a) x) (f a (drop (length a) x) (sym d.0) (rw length-drop (omega arith))) (sym d.0))
        go false j =
            let d = lead a b x y e (ltb-false (length a) (length x) j) in
            let c = drop (length x) a in
            subst (λ (l : List ℕ). At w l b) (sym d.0) (second_at c b (h c b d.1 i))

-- ---- a command's frame

-- a command's reply replaces the one that waits
answer_aside : (c : ℕ) (r : Ran) (s : Said) → answered c (ran r.answer (at_said s r.w)) ≡ answered c r
unfolding ends replied
answer_aside c r s = refl

module _ (g : Given) (w : World) (z : w.e.up.left ≡ 0) where
  -- where a was only gathered, and a and b lay a reply, b does
  pub front_at : (a b : List ℕ) → Gathers g a w → Lays g (emptied_at w) (a ++ b) → At g (emptied_at w) a b
  front_at a b k l =
      let e = k.2 w.e.said in
      let c : (s : Said) → feeds g (emptied_at (at_said s w)) (a ++ b) ≡ feeds g (feeds g (emptied_at (at_said s w)) a).w b = λ s.
      cut_unaimed g (emptied_at (at_said s w)) a b (ap (λ (o : Out). o.status) (k.2 s)) (λ n. absurd (n (ap (λ (o : Out). o.w.e.up.left) (k.2 s) ∙ z))) in
      record {
        fine = ap (λ (o : Out). o.status) e;
        room = λ n. absurd (n (ap (λ (o : Out). o.w.e.up.left) e ∙ z));
        lays = λ s.
            ap (λ (o : Out). feeds g (at_said s o.w) b) e ∙ ap (λ (o : Out). feeds g o.w b) (sym (k.2 s)) ∙ sym (c s) ∙ l s ∙ c w.e.said;
      }

  module _ (h m : List ℕ) (n : length h ≡ 16) (r : 16 + length m ≤ length w.request) (c k : ℕ) (p : parsed h ≡ request_of c k (length m)) (o : c ≡ 0x12 → ⊥)
      (t : length m ≤ 8192) where
    frame_lays : Lays g (emptied_at w) (h ++ m)
    frame_lays s =
        let v = at_e (begun c w.e) (at_request (roomed w.request h m) w) in
        frame_done g (at_said s w) z h m n r c k p o t ∙ ap (answered c) (runs_aside g s c m v) ∙ answer_aside c (runs g c m v) s
        ∙ sym (frame_done g w z h m n r c k p o t)

    -- a command's frame from between frames is smooth
    pub frame_smooth : Smooth g (emptied_at w) (h ++ m)
    frame_smooth a b e i =
        front_at a b (frame_front g w z h m n r c k p o t a b e i) (subst (Lays g (emptied_at w)) (sym e) frame_lays)
