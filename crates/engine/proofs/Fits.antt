-- Bounds hold from turn to turn: what a turn leaves fits again (01, 'In bounds').
use Rattle.std.proofs.Common.{◌≡◌, ℕ, ◌+◌, ◌-◌, ◌^◌, ◌<◌, ◌≤◌, cond, eqb, ltb, Option, None, Some, List, length, take, drop, replicate, refl, ap, ◌∙◌, arith, length-append, ltb-true, eqb-true}
use Rattle.std.proofs.lemmas.Bool.{cond_both}
use borrow.Author.Tests.{eqb-false}
use lib.ListN.{length-replicate}
use lib.Seq.{length-sets}
use Rattle.wire.specs.Header.{header_of}
use Rattle.storage.specs.World.{Lent}
use Rattle.storage.specs.Store.{flushing, writing}
use Rattle.engine.specs.declared.types.Engine.{Engine}
use Rattle.engine.specs.declared.frame.Next.{Next}
use Rattle.engine.specs.declared.frame.Next.TheVariants.{Refused, Send, Total}
use Rattle.engine.specs.World.{Given, World, emptied, with_up, at_e, dev_of, Out, out_of}
use Rattle.engine.specs.Reply.{Answer, ok, fail, unsupported, odd, whether, reply_by, replied, ends}
use Rattle.engine.specs.Exec.{runs, order_of, begun, performs, exec_by, execs}
use Rattle.engine.specs.Stream.{UpFit, fed_by, fed, taken, settled_by, settled, finishes, streamed_by, streams, started, begins}
use Rattle.engine.specs.Frame.{next_of, framed, ripens, headed_by, heads, grown, fills, gathers}
use Rattle.engine.specs.Feed.{FrameFit, Mid, Fit, want_of, turns}
use Rattle.engine.proofs.Replies.{Brief, header_length}
use Rattle.engine.proofs.Tidies.{whether_brief, runs_tidy}
use Rattle.engine.proofs.Frames.{Taken, next_taken}

empty_fit : FrameFit (record { len = 0; total = 0 })
empty_fit = (λ z. omega arith, λ n. absurd (n refl), omega arith)

-- ---- replies

reply_most : (c : ℕ) (a : Answer) → Brief a → length (reply_by c a) ≤ 4112
unfolding reply_by
reply_most c (ok bytes) h =
    let x = header_of 0x52475055 c 0 (length bytes) in
    omega (arith, length-append x bytes, header_length 0x52475055 c 0 (length bytes))
reply_most c fail h = omega (arith, header_length 0x52475055 c 1 0)
reply_most c unsupported h =
    let x = header_of 0x52475055 c 1 108 in
    let z : length {A = ℕ} (replicate 108 0) ≡ 108 = length-replicate {A = ℕ} 108 0 in
    omega (arith, length-append x (replicate 108 0), header_length 0x52475055 c 1 108)
reply_most c odd h = omega (arith, header_length 0 1 0 0)

replied_mid : (c : ℕ) (a : Answer) (w : World) → length w.request ≡ 8208 → length w.reply ≡ 4112 → UpFit w.e.up → Brief a → Mid (replied c a w)
unfolding replied
replied_mid c a w q p u h = record { request = q; reply = length-sets w.reply 0 (reply_by c a) ∙ p; said = (omega arith, reply_most c a h); up = u }

replied_fit : (c : ℕ) (a : Answer) (w : World) → Mid w → FrameFit w.e.frame → Brief a → Fit (replied c a w)
unfolding replied
replied_fit c a w m f h = record { mid = replied_mid c a w m.request m.reply m.up h; frame = f }

-- ---- a stream

module _ (l : Lent) where
  settled_fit : (w : World) → Fit w → Fit (settled l w)
  unfolding settled
  settled_fit w k =
      cond_both (eqb w.e.up.burn 0) (settled_by w (flushing l (dev_of w))) w Fit
      (λ _. record { mid = record { request = k.mid.request; reply = k.mid.reply; said = k.mid.said; up = k.mid.up }; frame = k.frame })
      (λ _. k)

  finish_fit : (w : World) → Fit w → Fit (finishes l w).w
  unfolding finishes
  finish_fit w k =
      let s = settled_fit w k in
      replied_fit 0x12 (whether (eqb (settled l w).e.up.burn 0)) (settled l w) s.mid s.frame (whether_brief (eqb (settled l w).e.up.burn 0))

  streamed_fit : (w : World) → Fit w → Fit (streamed_by l w).w
  streamed_fit w k = cond_both (eqb w.e.up.left 0) (finishes l w) (out_of 0 w) (λ (o : Out). Fit o.w) (λ _. finish_fit w k) (λ _. k)

  fed_fit : (p : List ℕ) (w : World) → length p ≤ w.e.up.left → Fit w → Fit (fed l p w)
  unfolding fed
  fed_fit p w n k =
      let u : UpFit (taken p (length p) w.e.up) = (omega (arith, k.mid.up.0), k.mid.up.1) in
      cond_both w.e.up.aimed (fed_by w p (writing l (w.e.up.target + w.e.up.written) p (dev_of w))) (at_e (with_up (taken p (length p) w.e.up) w.e) w) Fit
      (λ _. record { mid = record { request = k.mid.request; reply = k.mid.reply; said = k.mid.said; up = u }; frame = k.frame })
      (λ _. record { mid = record { request = k.mid.request; reply = k.mid.reply; said = k.mid.said; up = u }; frame = k.frame })

  stream_fit : (p : List ℕ) (w : World) → length p ≤ w.e.up.left → Fit w → Fit (streams l p w).w
  unfolding streams
  stream_fit p w n k = streamed_fit (fed l p w) (fed_fit p w n k)

  begin_fit : (n : ℕ) (w : World) → n < 2 ^ 32 → Fit w → Fit (begins l n w).w
  unfolding begins ends
  begin_fit n w h k =
      let u : UpFit (started n w.e.up) = (omega arith, k.mid.up.1) in
      let v = at_e (with_up (started n w.e.up) w.e) w in
      cond_both w.e.up.valid (streamed_by l v) (ends 0x12 fail w) (λ (o : Out). Fit o.w)
      (λ _. streamed_fit v (record { mid = record { request = k.mid.request; reply = k.mid.reply; said = k.mid.said; up = u }; frame = k.frame }))
      (λ _. replied_fit 0x12 fail w k.mid k.frame tt)

-- ---- a frame

empty_world : (w : World) → Mid w → Fit (at_e (emptied w.e) w)
empty_world w m = record { mid = record { request = m.request; reply = m.reply; said = m.said; up = m.up }; frame = empty_fit }

module _ (g : Given) where
  perform_fit : (c n : ℕ) (w : World) → Mid w → Fit (performs g c n w).w
  unfolding performs ends replied
  perform_fit c n w m =
      let v = at_e (begun c w.e) w in
      let d = take n (drop 16 w.request) in
      let r = runs g c d v in
      let t = runs_tidy g c d v in
      record {
        mid = replied_mid c r.answer r.w (ap length t.keeps.request ∙ m.request) (ap length t.keeps.reply ∙ m.reply) (t.keeps.up m.up) t.brief;
        frame = rw t.keeps.frame empty_fit;
      }

  exec_fit : (w : World) → Mid w → Fit (execs g w).w
  unfolding execs
  exec_fit w m = go (order_of (take w.e.frame.total w.request))
    where
      go : (o : Option (ℕ × ℕ)) → Fit (exec_by g w o).w
      go None = empty_world w m
      go (Some (c, n)) = perform_fit c n w m

  -- a frame that is not whole, or is executed
  ripe_fit : (w : World) → Mid w → w.e.frame.total ≤ 8208 → (w.e.frame.total ≡ 0 → ⊥) → Fit (ripens g w).w
  unfolding ripens
  ripe_fit w m h n =
      cond_both (ltb w.e.frame.len w.e.frame.total) (out_of 0 w) (execs g w) (λ (o : Out). Fit o.w)
      (λ t. record { mid = m; frame = (λ z. absurd (n z), λ _. ltb-true w.e.frame.len w.e.frame.total t, h) })
      (λ _. exec_fit w m)

  heads_fit : (w : World) → Mid w → Fit (heads g w).w
  unfolding heads
  heads_fit w m = go (next_of w.request) (next_taken w.request)
    where
      go : (x : Next) → Taken x → Fit (headed_by g w x).w
      go Refused t = empty_world w m
      go (Send n) t = begin_fit g.lent n (at_e (emptied w.e) w) t (empty_world w m)
      go (Total n) t =
          ripe_fit (framed 16 n w) (record { request = m.request; reply = m.reply; said = m.said; up = m.up }) t.1 (λ z. omega (arith, t.0))

  fills_fit : (w : World) → Mid w → w.e.frame.total ≤ 8208 → Fit (fills g w).w
  unfolding fills
  fills_fit w m h =
      cond_both (eqb w.e.frame.total 0) (cond (ltb w.e.frame.len 16) (out_of 0 w) (heads g w)) (ripens g w) (λ (o : Out). Fit o.w)
      (λ z. cond_both (ltb w.e.frame.len 16) (out_of 0 w) (heads g w) (λ (o : Out). Fit o.w)
      (λ t. record { mid = m; frame = (λ _. ltb-true w.e.frame.len 16 t, λ n. absurd (n (eqb-true w.e.frame.total 0 z)), h) })
      (λ _. heads_fit w m))
      (λ z. ripe_fit w m h (eqb-false w.e.frame.total 0 z))

-- ---- a turn

-- what is wanted is some
pub want_some : (w : World) → Fit w → 0 < want_of w.e
want_some w k =
    let f = w.e.frame in
    cond_both (eqb w.e.up.left 0) (cond (eqb f.total 0) (16 - f.len) (f.total - f.len)) w.e.up.left (λ (n : ℕ). 0 < n)
    (λ _. cond_both (eqb f.total 0) (16 - f.len) (f.total - f.len) (λ (n : ℕ). 0 < n)
    (λ z. let i = k.frame.0 (eqb-true f.total 0 z) in omega arith)
    (λ z. let i = k.frame.1 (eqb-false f.total 0 z) in omega arith))
    (λ z. let i = eqb-false w.e.up.left 0 z in omega arith)

-- of a stream, no more than is left
pub want_stream : (e : Engine) → (e.up.left ≡ 0 → ⊥) → want_of e ≡ e.up.left
want_stream e h =
    cond_both (eqb e.up.left 0) (cond (eqb e.frame.total 0) (16 - e.frame.len) (e.frame.total - e.frame.len)) e.up.left (λ (n : ℕ). n ≡ e.up.left)
    (λ z. absurd (h (eqb-true e.up.left 0 z))) (λ _. refl)

pub turn_fit : (g : Given) (p : List ℕ) (w : World) → length p ≤ want_of w.e → Fit w → Fit (turns g p w).w
unfolding turns gathers
turn_fit g p w n k =
    cond_both (eqb w.e.up.left 0) (gathers g p w) (streams g.lent p w) (λ (o : Out). Fit o.w)
    (λ _. fills_fit g (grown w p)
    (record { request = length-sets w.request w.e.frame.len p ∙ k.mid.request; reply = k.mid.reply; said = k.mid.said; up = k.mid.up }) k.frame.2)
    (λ z. stream_fit g.lent p w (omega (arith, want_stream w.e (eqb-false w.e.up.left 0 z))) k)
