-- A status query alone in a write (01, 'Frame rules'). To an engine in bounds and between frames it is a whole frame with no data: it
-- is answered at once, and leaves all but the reply, the place in it and the front of the request room as they were (`query_alone`).
-- So such a write hangs on the record, the table text and the two rooms, and touches neither the storage nor scratch.
use Rattle.std.proofs.Math.Path.{◌≡◌, refl, ap, subst}
use Rattle.std.proofs.Common.{Option, None, Some, sym, ◌∙◌, arith}
use Rattle.std.specs.Prelude.{Bool, ◌&&◌, ◌||◌, not, ℕ, length}
use Rattle.std.proofs.Math.Bool.{true, false, cond}
use mathlib.Core.List.{List, [], append-nil}
use borrow.Author.Tests.{eqb-true}
use Rattle.std.proofs.Math.Dec.{eqb}
use Rattle.std.proofs.lemmas.List.Edits.{sets}
use Rattle.wire.specs.Bytes.{laid}
use Rattle.wire.specs.Header.{request_of, parsed}
use Rattle.wire.specs.declared.header.Header.{Header}
use Rattle.storage.specs.Open.{one_of}
use Rattle.storage.proofs.Fold.{false_true}
use Rattle.engine.specs.declared.exec.Group.{Group}
use Rattle.engine.specs.declared.exec.Group.TheVariants as group
use Rattle.engine.specs.World.{Given, World, with_flags, emptied, at_e, at_reply}
use Rattle.engine.specs.Reply.{Answer, Ran, ran, ends, ended_by, placed, ends_by}
use Rattle.engine.specs.Command.{is_query, plain}
use Rattle.engine.specs.Exec.{group_of, runs_by, runs, begun, answered}
use Rattle.engine.specs.Feed.{feeds}
use Rattle.engine.specs.Api.{fits, writes}
use Rattle.engine.specs.Short.{query_in, alone_by, alone_of, answer_of, answers}
use Rattle.storage.proofs.Fold.{laid_sets}
use Rattle.engine.proofs.Replies.{Brief, ends_is}
use Rattle.engine.proofs.Tidies.{runs_tidy}
use Rattle.engine_laws.specs.Bounds.{in_bounds, write_feeds}
use Rattle.engine_laws.specs.Whole.{at_request, emptied_at, between_is, frame_done}

-- ---- what the bytes ask

-- bytes that ask a query alone: one header, of a command without data that only looks and touches nothing but the reply
pub record Asks (bytes : List ℕ) (c : ℕ) : Type 0 where
  pub status : ℕ
  pub sixteen : length bytes ≡ 16
  pub says : parsed bytes ≡ request_of c status 0
  pub query : is_query c ≡ true
  pub kind : group_of c ≡ group.Plain

module _ (c : ℕ) where
  -- the group of a query that is answered so is that of the plain commands
  plain_group : (d : ℕ) (x : Group) → query_in d x ≡ Some c → (d ≡ c) × (x ≡ group.Plain)
  plain_group d group.Memory e = absurd (let z : ◌≡◌ {A = ℕ} 0 1 = cc in omega arith)
  plain_group d group.Shell e = absurd (let z : ◌≡◌ {A = ℕ} 0 1 = cc in omega arith)
  plain_group d group.Storage e = absurd (let z : ◌≡◌ {A = ℕ} 0 1 = cc in omega arith)
  plain_group d group.Plain e = (cc, refl)

  -- both tests of a header hold
  tests : (n d : ℕ) (a b : Bool) → eqb n 0 ≡ a → is_query d ≡ b → cond (a && b) (query_in d (group_of d)) None ≡ Some c
      → (n ≡ 0) × (is_query d ≡ true) × (query_in d (group_of d) ≡ Some c)
  tests n d true true p q e = (eqb-true n 0 p, q, e)
  tests n d true false p q e = absurd (let z : ◌≡◌ {A = ℕ} 0 1 = cc in omega arith)
  tests n d false b p q e = absurd (let z : ◌≡◌ {A = ℕ} 0 1 = cc in omega arith)

  -- the inversion of `alone_of`
  pub asks : (bytes : List ℕ) → alone_of bytes ≡ Some c → Asks bytes c
  asks bytes = go (eqb (length bytes) 16) refl (parsed bytes) refl
    where
      go : (t : Bool) → eqb (length bytes) 16 ≡ t → (h : Option Header) → parsed bytes ≡ h → cond t (alone_by h) None ≡ Some c → Asks bytes c
      go false k h p e = absurd (let z : ◌≡◌ {A = ℕ} 0 1 = cc in omega arith)
      go true k None p e = absurd (let z : ◌≡◌ {A = ℕ} 0 1 = cc in omega arith)
      go true k (Some h) p e =
          let t = tests h.length h.command (eqb h.length 0) (is_query h.command) refl refl e in
          let x = plain_group h.command (group_of h.command) t.2 in
          record {
            status = h.status;
            sixteen = eqb-true (length bytes) 16 k;
            says = p ∙ ap (λ (m : ℕ). request_of h.command h.status m) t.0 ∙ ap (λ (b : ℕ). request_of b h.status 0) x.0;
            query = subst (λ (b : ℕ). is_query b ≡ true) x.0 t.1;
            kind = subst (λ (b : ℕ). group_of b ≡ group.Plain) x.0 x.1;
          }

  -- SEND_FWC_DATA does not only look
  not_send : is_query c ≡ true → c ≡ 0x12 → ⊥
  unfolding one_of
  not_send h e = false_true (ap is_query (sym e) ∙ h)

-- ---- what is answered

-- a command that only looks leaves `host_upgrading`
looks : (c : ℕ) (b : Bool) → is_query c ≡ true → (b || not (is_query c)) ≡ b
looks c true h = refl
looks c false h = rw h

module _ (g : Given) (w : World) (bytes : List ℕ) (c : ℕ) (f : fits g w ≡ true) (l : w.e.frame.len ≡ 0) (t : w.e.frame.total ≡ 0) (z : w.e.up.left ≡ 0)
    (a : Asks bytes c) where
  -- the world with the query in its request room
  abbrev asked : World
  asked = at_request (laid w.request 0 bytes) w

  -- what is told
  abbrev told : Answer
  told = plain c w.e g.table

  between : (v : World) → v.e.frame.len ≡ 0 → v.e.frame.total ≡ 0 → emptied_at v ≡ v
  between v m n = between_is v (λ i. record { len = m i; total = n i })

  -- a query begins by changing nothing
  begun_is : at_e (begun c w.e) asked ≡ asked
  begun_is =
      ap (λ (b : Bool). at_e (emptied (with_flags b w.e.asked w.e)) asked) (looks c w.e.upgrading a.query) ∙ between asked l t

  laid_is : sets w.request 0 bytes ≡ laid w.request 0 bytes
  laid_is = sym (laid_sets 0 w.request bytes (omega (arith, a.sixteen, (in_bounds g w f).fit.mid.request)))

  runs_is : runs g c [] asked ≡ ran told asked
  unfolding runs
  runs_is = ap (runs_by g c [] asked) a.kind

  -- the command is run on no data, and answered
  done : feeds g w bytes ≡ ends c told asked
  done =
      ap (λ (v : World). feeds g v bytes) (sym (between w l t))
      ∙ ap (feeds g (emptied_at w)) (sym (append-nil bytes))
      ∙ frame_done g w z bytes [] a.sixteen (omega (arith, (in_bounds g w f).fit.mid.request)) c a.status a.says (not_send c a.query) (omega arith)
      ∙ ap (λ (q : List ℕ). answered c (runs g c [] (at_e (begun c w.e) (at_request q w)))) laid_is
      ∙ ap (λ (v : World). answered c (runs g c [] v)) begun_is
      ∙ ap (answered c) runs_is

  brief : Brief told
  brief = subst (λ (r : Ran). Brief r.answer) runs_is (runs_tidy g c [] asked).brief

  answer_is : ends_by c (ended_by told) (at_reply (placed told w.reply) asked) ≡ answers w bytes (answer_of c w.e g.table w.reply)
  unfolding answer_of
  answer_is = refl

  asked_alone : writes g w bytes ≡ answers w bytes (answer_of c w.e g.table w.reply)
  asked_alone = write_feeds g w f bytes ∙ done ∙ sym (ends_is c told asked (in_bounds g w f).fit.mid.reply brief) ∙ answer_is

-- THE LAW: between frames, a query alone in a write is answered at once, and all but its reply and the request room's front is as it was
pub query_alone : (g : Given) (w : World) (bytes : List ℕ) (c : ℕ) → fits g w ≡ true → w.e.frame.len ≡ 0 → w.e.frame.total ≡ 0 → w.e.up.left ≡ 0
    → alone_of bytes ≡ Some c
    → writes g w bytes ≡ answers w bytes (answer_of c w.e g.table w.reply)
query_alone g w bytes c f l t z q = asked_alone g w bytes c f l t z (asks c bytes q)
