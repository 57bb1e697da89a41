-- Of specs/Failures.antt: what a command's answer and SEND_FWC_DATA's header leave, from between frames. They stand here, so that a wrong
-- `Between` (must-fail/) is refused by them and not unread.
use Rattle.std.specs.Prelude.{◌≡◌, Bool, true, false, ℕ, ◌≤◌, ◌<◌, ◌^◌}
use Rattle.std.proofs.Math.Path.{refl, ap, subst}
use Rattle.std.proofs.Common.{sym, ◌∙◌, arith}
use Rattle.std.proofs.Math.Bool.{cond}
use mathlib.Core.List.{List, ◌++◌}
use borrow.Author.Tests.{ne_eqb}
use Rattle.std.proofs.Math.ListN.{length}
use Rattle.std.proofs.lemmas.List.Edits.{sets}
use Rattle.wire.specs.Header.{request_of, parsed}
use Rattle.engine.specs.declared.frame.Next.TheVariants.{Send}
use Rattle.engine.specs.World.{Given, World, with_up, at_e, Out, out_of}
use Rattle.engine.specs.Reply.{Answer, fail, status_by, reply_by, replied, ends}
use Rattle.engine.specs.Exec.{runs, answered}
use Rattle.engine.specs.Stream.{finishes, streamed_by, started, begins}
use Rattle.engine.specs.Frame.{next_by, next_of, headed_by, grown}
use Rattle.engine.specs.Feed.{feeds}
use Rattle.engine.specs.Api.{fits, writes}
use Rattle.engine.proofs.Tidies.{runs_tidy}
use Rattle.engine_laws.specs.Bounds.{in_bounds, write_feeds}
use Rattle.engine_laws.specs.Whole.{at_request, emptied_at, header_done, frame_done}
use Rattle.promises.specs.Frames.{Between}
use Rattle.promises.specs.Update.{waiting, laid_waits}
use Rattle.promises.specs.Kept.{fail_length}
use Rattle.promises.proofs.Frames.{between_same}
use Rattle.promises.specs.Failures.{found as found_by, Opened, Denied}

-- ---- a command that fails

module _ (g : Given) (v : World) (f : fits g v ≡ true) (b : Between v.e) (h m : List ℕ) (n : length h ≡ 16) (c s : ℕ) (p : parsed h ≡ request_of c s (length m))
    (o : c ≡ 0x12 → ⊥) (t : length m ≤ 8192) where
  -- as a command finds the world
  abbrev found : World
  found = found_by g v f b h m n c s p o t

  whole : writes g v (h ++ m) ≡ answered c (runs g c m found)
  whole =
      write_feeds g v f (h ++ m)
      ∙ ap (λ (x : World). feeds g x (h ++ m)) (sym (between_same v b))
      ∙ frame_done g v b.left h m n (omega (arith, (in_bounds g v f).fit.mid.request)) c s p o t

  -- what a command answers is told: the write returns its status, and its reply waits
  pub answer_told : (a : Answer) → length (reply_by c a) ≤ 4112 → (runs g c m found).answer ≡ a → ((writes g v (h ++ m)).status ≡ status_by a) × (waiting (writes g v (h ++ m)).w ≡ reply_by c a)
  unfolding ends
  answer_told a i e =
      let r = runs g c m found in
      let y : length r.w.reply ≡ 4112 = ap length (runs_tidy g c m found).keeps.reply ∙ (in_bounds g v f).fit.mid.reply in
      let q = whole ∙ ap (λ (x : Answer). ends c x r.w) e in
      (ap (λ (x : Out). x.status) q, ap (λ (x : Out). waiting x.w) q ∙ laid_waits c a r.w (omega arith))

  -- 1d, "executed command fails": the write returns 1, and a fail reply waits
  pub fail_told : (runs g c m found).answer ≡ fail → ((writes g v (h ++ m)).status ≡ 1) × (waiting (writes g v (h ++ m)).w ≡ reply_by c fail)
  unfolding status_by
  fail_told = answer_told fail (omega (arith, fail_length c))

-- ---- SEND_FWC_DATA's header

module _ (g : Given) (v : World) (f : fits g v ≡ true) (b : Between v.e) (h : List ℕ) (k : length h ≡ 16) (s n : ℕ) (p : parsed h ≡ request_of 0x12 s n) (j : n < 2 ^ 32) where
  abbrev headed : World
  headed = at_request (sets v.request 0 h) (emptied_at v)

  abbrev opened : World
  opened = at_e (with_up (started n v.e.up) headed.e) headed

  send_next : next_of h ≡ Send n
  send_next = ap next_by p ∙ ap Send (omega arith)

  send_is : writes g v h ≡ cond v.e.up.valid (streamed_by g.lent opened) (ends 0x12 fail headed)
  unfolding begins
  send_is =
      write_feeds g v f h ∙ ap (λ (x : World). feeds g x h) (sym (between_same v b))
      ∙ header_done g v b.left h k (omega (arith, (in_bounds g v f).fit.mid.request)) ∙ ap (headed_by g (grown (emptied_at v) h)) send_next

  -- "With metadata it zeroes written, crc, burn and run, and the next `length` bytes are payload"
  pub send_opens : v.e.up.valid ≡ true → 0 < n → Opened n v (writes g v h)
  send_opens a i =
      subst (Opened n v)
      (sym (send_is ∙ ap (λ (t : Bool). cond t (streamed_by g.lent opened) (ends 0x12 fail headed)) a ∙ ap (λ (t : Bool). cond t (finishes g.lent opened) (out_of 0 opened)) (ne_eqb n 0 (λ e. omega arith))))
      (record { status = refl; left = refl; written = refl; crc = refl; burn = refl; aimed = refl; target = refl; frame = refl; store = refl })

  -- 1c, "SEND_FWC_DATA without valid metadata": the write returns 1, and a fail reply waits
  pub send_refused : v.e.up.valid ≡ false → Denied v (writes g v h)
  unfolding ends status_by replied
  send_refused a =
      subst (Denied v) (sym (send_is ∙ ap (λ (t : Bool). cond t (streamed_by g.lent opened) (ends 0x12 fail headed)) a))
      (record {
        status = refl;
        waits = laid_waits 0x12 fail headed (omega (arith, fail_length 0x12, (in_bounds g v f).fit.mid.reply));
        up = refl;
        frame = refl;
        store = refl;
        scratch = refl;
      })
