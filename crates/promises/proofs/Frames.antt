-- Of specs/Frames.antt: the theorems that rest on what `Between` and `Untouched` say. They stand here, so that a wrong `Between` or
-- `Untouched` (must-fail/) is refused by them and not unread.
use Rattle.std.specs.Prelude.{◌≡◌, Option, None, Some, Bool, ltb, length}
use Rattle.std.proofs.Math.Path.{refl, sym, ap, subst}
use Rattle.std.proofs.Common.{◌∙◌, arith}
use Rattle.std.proofs.Math.Bool.{true, false, cond}
use mathlib.Core.List.{List, [], ◌∷◌, ◌++◌}
use Prim.Native.Nat.{ℕ, zero, suc, ◌+◌, ◌-◌, ◌≤◌, ◌<◌}
use borrow.Author.Tests.{eqb-true}
use Rattle.std.proofs.Math.Dec.{eqb}
use Rattle.std.proofs.Math.ListN.{take, drop}
use Rattle.std.proofs.lemmas.List.Edits.{sets}
use Rattle.storage_laws.specs.Bounds.{either}
use Rattle.engine.specs.declared.types.Frame.{Frame}
use Rattle.engine.specs.declared.frame.Next.{Next}
use Rattle.engine.specs.declared.frame.Next.TheVariants.{Refused, Send, Total}
use Rattle.engine.specs.World.{Given, World, with_up, emptied, at_e, Out, out_of}
use Rattle.engine.specs.Reply.{Answer, fail, replied, ends}
use Rattle.engine.specs.Exec.{runs, order_of, begun, performs, exec_by, execs}
use Rattle.engine.specs.Stream.{fed, finishes, streamed_by, streams, started, begins}
use Rattle.engine.specs.Frame.{next_of, framed, ripens, headed_by, heads, grown, fills, gathers}
use Rattle.engine.specs.Feed.{turns, cut_of, then_by, goes, feeds}
use Rattle.engine.specs.Api.{fits, writes, cleared}
use Rattle.engine.proofs.Tidies.{runs_tidy}
use Rattle.engine_laws.specs.Bounds.{write_fits, reset_fits, Call, after_all}
use Rattle.engine_laws.specs.Whole.{emptied_at, between_is}
use Rattle.promises.specs.Frames.{header_at, Untouched, alike_on, reset_between, Between, Heading, Begun, Alike, NoReset, sent_by, runs_same, one_fits, heading_judged, heading_gathers, refused_keeps, refused_spelled, behind_heading, behind_cut, header_is, begun_run, head_few, alike_refl}

-- between frames there is no part of one to drop
pub between_same : (w : World) → Between w.e → emptied_at w ≡ w
between_same w b = between_is w (λ i. record { len = b.len i; total = b.total i })

module _ (g : Given) where
  -- ---- status 1

  abbrev Ended : Out → Type 0
  Ended o = o.status ≡ 1 → Between o.w.e

  zero_ended : (w : World) → Ended (out_of 0 w)
  zero_ended w z = absurd (omega arith)

  -- a stream's bytes have status 0
  streamed_ended : (w : World) → Ended (streamed_by g.lent w)
  unfolding finishes
  streamed_ended w = either Ended (eqb w.e.up.left 0) (finishes g.lent w) (out_of 0 w) (λ z. absurd (omega arith)) (zero_ended w)

  -- a command's end leaves frame and stream
  ends_ended : (c : ℕ) (a : Answer) (w : World) → Between w.e → Ended (ends c a w)
  unfolding ends replied
  ends_ended c a w b z = record { len = b.len; total = b.total; left = b.left }

  module _ (w : World) (h : w.e.up.left ≡ 0) where
    performs_ended : (c n : ℕ) → Ended (performs g c n w)
    unfolding performs
    performs_ended c n =
        let d = take n (drop 16 w.request) in
        let v = at_e (begun c w.e) w in
        let r = runs g c d v in
        let f = (runs_tidy g c d v).keeps.frame in
        ends_ended c r.answer r.w
        (record { len = ap (λ (x : Frame). x.len) f; total = ap (λ (x : Frame). x.total) f; left = runs_same g c d v ∙ h })

    execs_ended : Ended (execs g w)
    unfolding execs
    execs_ended = go (order_of (take w.e.frame.total w.request))
      where
        go : (o : Option (ℕ × ℕ)) → Ended (exec_by g w o)
        go None = λ z. record { len = refl; total = refl; left = h }
        go (Some (c, n)) = performs_ended c n

    ripens_ended : Ended (ripens g w)
    unfolding ripens
    ripens_ended = either Ended (ltb w.e.frame.len w.e.frame.total) (out_of 0 w) (execs g w) (zero_ended w) execs_ended

    begins_ended : (n : ℕ) → Ended (begins g.lent n (at_e (emptied w.e) w))
    unfolding begins
    begins_ended n =
        let v = at_e (emptied w.e) w in
        let u = at_e (with_up (started n v.e.up) v.e) v in
        either Ended v.e.up.valid (streamed_by g.lent u) (ends 0x12 fail v) (streamed_ended u)
        (ends_ended 0x12 fail v (record { len = refl; total = refl; left = h }))

  heads_ended : (w : World) → w.e.up.left ≡ 0 → Ended (heads g w)
  unfolding heads
  heads_ended w h = go (next_of w.request)
    where
      go : (x : Next) → Ended (headed_by g w x)
      go Refused = λ z. record { len = refl; total = refl; left = h }
      go (Send n) = begins_ended w h n
      go (Total t) = ripens_ended (framed 16 t w) h

  fills_ended : (w : World) → w.e.up.left ≡ 0 → Ended (fills g w)
  unfolding fills
  fills_ended w h =
      either Ended (eqb w.e.frame.total 0) (cond (ltb w.e.frame.len 16) (out_of 0 w) (heads g w)) (ripens g w)
      (either Ended (ltb w.e.frame.len 16) (out_of 0 w) (heads g w) (zero_ended w) (heads_ended w h)) (ripens_ended w h)

  turns_ended : (p : List ℕ) (w : World) → Ended (turns g p w)
  unfolding turns gathers streams
  turns_ended p w = go (eqb w.e.up.left 0) refl
    where
      go : (b : Bool) → eqb w.e.up.left 0 ≡ b → Ended (cond b (gathers g p w) (streams g.lent p w))
      go true e = fills_ended (grown w p) (eqb-true w.e.up.left 0 e)
      go false e = streamed_ended (fed g.lent p w)

  goes_ended : (k : ℕ) (w : World) (d : List ℕ) → Ended (goes g k w d)
  unfolding goes then_by
  goes_ended zero w d = zero_ended w
  goes_ended (suc k) w [] = zero_ended w
  goes_ended (suc k) w (b ∷ bs) =
      let o = turns g (take (cut_of w) (b ∷ bs)) w in
      let r = drop (cut_of w) (b ∷ bs) in
      either Ended (eqb o.status 0) (goes g k o.w r) o (goes_ended k o.w r) (turns_ended (take (cut_of w) (b ∷ bs)) w)

  -- demand 3: 'After any calls at all, a write returning 1 puts the engine between frames'. Any state, any storage, any bytes
  pub one_between : (w : World) (d : List ℕ) → (writes g w d).status ≡ 1 → Between (writes g w d).w.e
  unfolding writes feeds
  one_between w d = either Ended (fits g w) (feeds g w d) (out_of 9 w) (goes_ended (length d) w d) (λ z. absurd (omega arith))

  -- ---- a header

  module _ (w : World) (f : fits g w ≡ true) (b : Between w.e) where
    between_heading : Heading g w
    between_heading = record { fit = f; total = b.total; left = b.left }

    -- demand 3: 'the next write's bytes start a frame': the first sixteen are the header that is judged
    pub header_judged : (d : List ℕ) → 16 ≤ length d
        → writes g w d ≡ then_by (headed_by g (grown w (take 16 d)) (next_of (take 16 d))) (λ v. feeds g v (drop 16 d))
    header_judged d n =
        subst
        (λ (k : ℕ). writes g w d ≡ then_by (headed_by g (grown w (take (16 - k) d)) (next_of (take k w.request ++ take (16 - k) d))) (λ v. feeds g v (drop (16 - k) d)))
        b.len (heading_judged g w between_heading d (omega (arith, b.len)))

    -- and fewer are its beginning
    pub header_gathers : (d : List ℕ) → length d < 16 → writes g w d ≡ out_of 0 (grown w d)
    header_gathers d n = heading_gathers g w between_heading d (omega (arith, b.len))

  -- the write behind one that returned 1: its first sixteen bytes are the header that is judged
  pub one_judged : (w : World) (d s : List ℕ) → (writes g w d).status ≡ 1 → 16 ≤ length s
      → (let v = (writes g w d).w in
      writes g v s ≡ then_by (headed_by g (grown v (take 16 s)) (next_of (take 16 s))) (λ u. feeds g u (drop 16 s)))
  one_judged w d s z = header_judged (writes g w d).w (write_fits g w (one_fits g w d z) d) (one_between w d z) s

  -- and the write behind a reset
  pub reset_judged : (w : World) (s : List ℕ) → fits g w ≡ true → 16 ≤ length s
      → (let v = at_e (cleared w.e) w in
      writes g v s ≡ then_by (headed_by g (grown v (take 16 s)) (next_of (take 16 s))) (λ u. feeds g u (drop 16 s)))
  reset_judged w s f = header_judged (at_e (cleared w.e) w) (reset_fits g w f) (reset_between w.e) s

-- ---- a header that is refused

module _ (g : Given) where
  -- frames before it in the call are done as if they came alone, and the refused one changes nothing of what they left
  module _ (w : World) (f : fits g w ≡ true) (a d : List ℕ) (z : (writes g w a).status ≡ 0) where
    abbrev v : World
    v = (writes g w a).w

    module _ (t : v.e.frame.total ≡ 0) (l : v.e.up.left ≡ 0) (n : 16 ≤ v.e.frame.len + length d) (r : next_of (header_at v d) ≡ Refused) where
      pub behind_spelled : Untouched v (writes g w (a ++ d))
      behind_spelled = subst (Untouched v) (sym (behind_cut g w f a d z t l n r)) (refused_spelled g v (behind_heading g w f a d z t l n r) d n r)

  pub begun_start : (w : World) → fits g w ≡ true → Between w.e → Begun g w [] w
  begun_start w f b =
      record {
        heading = between_heading g w f b;
        bytes = ap (λ (k : ℕ). take k w.request) b.len;
        len = b.len;
        alike = alike_refl w;
        told = refl;
      }

  module _ (w : World) (h : List ℕ) (v : World) (b : Begun g w h v) where
    abbrev at : ℕ
    at = v.e.frame.len

    -- and if they are refused, nothing changed but the request since the first of them came
    begun_refused : (d : List ℕ) → 16 ≤ length h + length d → next_of (take 16 (h ++ d)) ≡ Refused → Untouched v (writes g v d) × Alike w (writes g v d).w
    begun_refused d n r =
        let i = head_few g v b.heading in
        let l = b.len in
        let x = ap next_of (header_is g w h v b d (omega arith)) ∙ r in
        let q = sets v.request at (take (16 - at) d) in (
          refused_spelled g v b.heading d (omega arith) x,
          rw (refused_keeps g v b.heading d (omega arith) x) (alike_on w v (record { len = 0; total = 0 }) v.e.said q b.alike),
        )

  -- between frames, the bytes of a header cut across writes anyhow, with reads between
  module _ (w : World) (f : fits g w ≡ true) (b : Between w.e) (cs : List Call) (o : NoReset cs) (i : length (sent_by cs) < 16) where
    -- while fewer than sixteen came they are gathered, and all else is as it was but what reads took
    pub header_begun : Begun g w (sent_by cs) (after_all g w cs)
    header_begun = begun_run g cs w [] w (begun_start w f b) o (omega arith)

    -- demand 3: 'A frame refused for a wrong header or its size (1a, 1b) changes no update record, waiting reply or flash': neither the
    -- write that completed its header, nor any since its first byte
    pub refused_cut : (d : List ℕ) → 16 ≤ length (sent_by cs) + length d → next_of (take 16 (sent_by cs ++ d)) ≡ Refused
        → (let v = after_all g w cs in Untouched v (writes g v d) × Alike w (writes g v d).w)
    refused_cut d = begun_refused w (sent_by cs) (after_all g w cs) header_begun d
