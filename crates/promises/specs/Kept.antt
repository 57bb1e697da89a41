-- What is kept. Metadata that name an unknown partition fail, "while the OLD target, written, crc and results stay and the metadata counts
-- as valid" (01, 'Frame rules'), and of the storage they make no more than a flush: `unknown_kept`, and `unknown_cut` where the frame is
-- cut across writes anyhow (both in proofs/Kept.antt). A reset keeps both flags, scratch and storage, and nothing else: `reset_kept`.
-- And a read gives the bytes that wait, of which the promises speak: `read_waits`.
-- The statements spell out the record field by field, so that they say the same whatever the definitions become.
use Rattle.std.specs.Prelude.{◌≡◌, Option, None, Some, Result, Ok, Err, Bool, true, false, List, [], ◌∷◌, ◌++◌, ℕ, ◌+◌, ◌-◌, ◌≤◌, min, length, take, drop, replicate}
use Rattle.std.proofs.Math.Path.{refl, ap}
use Rattle.std.proofs.Common.{sym, subst, ◌∙◌, arith, le-leb, eq-eqb, length-drop, length-take-le}
use Rattle.std.proofs.Math.Bool.{cond}
use Rattle.std.proofs.lemmas.List.Edits.{sets-eq}
use Rattle.wire.specs.Header.{reply_magic, request_of, parsed}
use Rattle.storage.specs.World.{Lent}
use Rattle.storage.specs.Open.{one_of}
use Rattle.storage.specs.Store.{flushing}
use Rattle.storage.specs.Partition.{Lists, lookup}
use Rattle.storage.specs.declared.types.CallError.{CallError}
use Rattle.engine.specs.declared.types.Failure.{Failure}
use Rattle.engine.specs.declared.types.Failure.TheVariants.{Failed}
use Rattle.engine.specs.World.{Given, World, with_up, at_e, dev_of, at_dev, Out, out_of}
use Rattle.engine.specs.Reply.{fail, ran, status_by, reply_by, replied, ends}
use Rattle.engine.specs.Storing.{after_flush, partition_field, found_at, target_by, target_of, stored, aimed_at, answer_to, aims, is_meta, set_meta}
use Rattle.engine.specs.Exec.{storing, runs, begun, answered}
use Rattle.engine.specs.Feed.{feeds}
use Rattle.engine.specs.Api.{fits, Read, reads, read_by}
use Rattle.engine.proofs.Replies.{header_length}
use Rattle.engine_laws.specs.Bounds.{in_bounds, reset, after}
use Rattle.engine_laws.specs.Whole.{at_request, emptied_at, roomed, frame_done}
use Rattle.promises.specs.Frames.{Between}
use Rattle.promises.specs.Cuts.{Smooth, frame_smooth}
use Rattle.promises.specs.Update.{waiting, laid_waits}
use Rattle.promises.specs.Why.{meta_in}

-- ---- a reply that waits

pub fail_length : (c : ℕ) → length (reply_by c fail) ≡ 16
unfolding reply_by
fail_length c = header_length reply_magic c 1 0

-- ---- metadata of an unknown partition

-- their frame: command 0x10 with 512 to 8,192 bytes, of which the last 512 start with `META` and name a partition that is none of the lists'
pub record LostFrame (g : Given) (f : List ℕ) : Type 0 where
  pub head : List ℕ
  pub body : List ℕ
  pub is : f ≡ head ++ body
  pub sixteen : length head ≡ 16
  pub status : ℕ
  pub says : parsed head ≡ request_of 0x10 status (length body)
  pub most : length body ≤ 8192
  pub least : 512 ≤ length body
  pub meta : is_meta (meta_in body) ≡ true
  pub named : partition_field (meta_in body) ≡ [] → ⊥
  pub lost : (o : ℕ) → lookup g.lists (partition_field (meta_in body)) ≡ Ok (Some o) → ⊥

-- what they leave: status 1, a fail reply, the metadata stored and valid, all else of the update as it was, and a flush
pub record Kept (l : Lent) (meta : List ℕ) (w : World) (o : Out) : Type 0 where
  pub status : o.status ≡ 1
  pub waits : waiting o.w ≡ reply_by 0x10 fail
  pub stored : o.w.e.up.meta ≡ meta
  pub valid : o.w.e.up.valid ≡ true
  pub aimed : o.w.e.up.aimed ≡ w.e.up.aimed
  pub target : o.w.e.up.target ≡ w.e.up.target
  pub written : o.w.e.up.written ≡ w.e.up.written
  pub crc : o.w.e.up.crc ≡ w.e.up.crc
  pub burn : o.w.e.up.burn ≡ w.e.up.burn
  pub run : o.w.e.up.run ≡ w.e.up.run
  pub store : dev_of o.w ≡ (flushing l (dev_of w)).dev
  pub scratch : o.w.scratch ≡ w.scratch
  pub between : Between o.w.e

unknown_is : (l : Lists) (m : List ℕ) → (partition_field m ≡ [] → ⊥) → ((o : ℕ) → lookup l (partition_field m) ≡ Ok (Some o) → ⊥) → target_of l m ≡ Err Failed
unfolding target_of
unknown_is l m n h = go (partition_field m) refl
  where
    by : (name : List ℕ) → partition_field m ≡ name → (f : Result (Option ℕ) CallError) → lookup l name ≡ f → found_at f ≡ Err Failed
    by name e (Ok (Some o)) q = absurd (h o (ap (lookup l) e ∙ q))
    by name e (Ok None) q = refl
    by name e (Err x) q = refl

    go : (name : List ℕ) → partition_field m ≡ name → target_by l name ≡ Err Failed
    go [] e = absurd (n e)
    go (b ∷ name) e = by (b ∷ name) e (lookup l (b ∷ name)) refl

module _ (g : Given) (w : World) (z : w.e.up.left ≡ 0) (r : length w.request ≡ 8208) (y : length w.reply ≡ 4112) (t : (flushing g.lent (dev_of w)).status ≡ 0)
    (f : List ℕ) (k : LostFrame g f) where
  abbrev meta : List ℕ
  meta = meta_in k.body

  -- as the command finds the world, and as the flush leaves it
  abbrev asked : World
  asked = at_e (begun 0x10 w.e) (at_request (roomed w.request k.head k.body) w)

  abbrev flushed : World
  flushed = at_dev (flushing g.lent (dev_of w)).dev asked

  -- and the command, but for the reply
  abbrev left : World
  left = at_e (with_up (stored meta w.e.up) flushed.e) flushed

  runs_meta : runs g 0x10 k.body asked ≡ set_meta g.lent g.lists k.body asked
  unfolding runs one_of storing
  runs_meta = refl

  set_lost : set_meta g.lent g.lists k.body asked ≡ ran fail left
  unfolding set_meta aims
  set_lost =
      let after = after_flush asked (aims g.lists meta) (flushing g.lent (dev_of w)) in
      ap (λ (b : Bool). cond b (cond (is_meta meta) after (ran fail asked)) (ran fail asked)) (le-leb 512 (length k.body) k.least)
      ∙ ap (λ (b : Bool). cond b after (ran fail asked)) k.meta
      ∙ ap (λ (b : Bool). cond b (aims g.lists meta flushed) (ran fail flushed)) (eq-eqb (flushing g.lent (dev_of w)).status 0 t)
      ∙ ap (λ (x : Result (Option ℕ) Failure). ran (answer_to x) (at_e (with_up (aimed_at meta w.e.up x) flushed.e) flushed)) (unknown_is g.lists meta k.named k.lost)

  pub lost_is : feeds g (emptied_at w) f ≡ out_of 1 (replied 0x10 fail left)
  unfolding ends status_by
  lost_is =
      ap (feeds g (emptied_at w)) k.is
      ∙ frame_done g w z k.head k.body k.sixteen (omega (arith, k.most)) 0x10 k.status k.says (λ e. omega arith) k.most
      ∙ ap (answered 0x10) (runs_meta ∙ set_lost)

  pub lost_left : Kept g.lent meta w (out_of 1 (replied 0x10 fail left))
  unfolding replied
  lost_left =
      record {
        status = refl;
        waits = laid_waits 0x10 fail left (omega (arith, fail_length 0x10));
        stored = refl;
        valid = refl;
        aimed = refl;
        target = refl;
        written = refl;
        crc = refl;
        burn = refl;
        run = refl;
        store = refl;
        scratch = refl;
        between = record { len = refl; total = refl; left = z };
      }

  pub lost_smooth : Smooth g (emptied_at w) f
  lost_smooth =
      subst (Smooth g (emptied_at w)) (sym k.is)
      (frame_smooth g w z k.head k.body k.sixteen (omega (arith, k.most)) 0x10 k.status k.says (λ e. omega arith) k.most)

-- ---- a reset

-- "Reset empties request, reply, update record and stream; it keeps both flags, scratch and storage"
pub record Cleared (w v : World) : Type 0 where
  pub between : Between v.e
  pub waits : waiting v ≡ []
  pub meta : v.e.up.meta ≡ replicate 512 0
  pub valid : v.e.up.valid ≡ false
  pub aimed : v.e.up.aimed ≡ false
  pub target : v.e.up.target ≡ 0
  pub written : v.e.up.written ≡ 0
  pub crc : v.e.up.crc ≡ 0
  pub burn : v.e.up.burn ≡ 0
  pub run : v.e.up.run ≡ 0
  pub upgrading : v.e.upgrading ≡ w.e.upgrading
  pub asked : v.e.asked ≡ w.e.asked
  pub base : v.e.base ≡ w.e.base
  pub scratch : v.scratch ≡ w.scratch
  pub store : dev_of v ≡ dev_of w

pub reset_kept : (g : Given) (w : World) → Cleared w (after g w reset)
reset_kept g w =
    record {
      between = record { len = refl; total = refl; left = refl };
      waits = refl;
      meta = refl;
      valid = refl;
      aimed = refl;
      target = refl;
      written = refl;
      crc = refl;
      burn = refl;
      run = refl;
      upgrading = refl;
      asked = refl;
      base = refl;
      scratch = refl;
      store = refl;
    }

-- ---- a read

-- "A read copies the next min(room, left) bytes and touches no byte of the room beyond": into a room that takes them all it gives the
-- bytes that wait, and none wait behind it
pub read_waits : (g : Given) (w : World) → fits g w ≡ true → (room : List ℕ) → length (waiting w) ≤ length room
    → ((reads g w room).got ≡ Ok (length (waiting w))) × ((reads g w room).room ≡ waiting w ++ drop (length (waiting w)) room) × (waiting (at_e (reads g w room).e w) ≡ [])
unfolding reads
read_waits g w f room h =
    let s = w.e.said in
    let n = s.len - s.pos in
    let m = (in_bounds g w f).fit.mid in
    let l : length (waiting w) ≡ n = length-take-le n (drop s.pos w.reply) (rw length-drop (omega (arith, m.reply, m.said.1))) in
    let k : min n (length room) ≡ n = omega arith in
    let e : reads g w room ≡ read_by w room n = rw f (ap (read_by w room) k) in
    let o : s.len - (s.pos + n) ≡ 0 = omega arith in
    let z : 0 + length (waiting w) ≡ length (waiting w) = omega arith in (
      ap (λ (r : Read). r.got) e ∙ ap Ok (sym l),
      ap (λ (r : Read). r.room) e ∙ sets-eq (waiting w) room 0 (omega arith) ∙ ap (λ (j : ℕ). waiting w ++ drop j room) z,
      ap (λ (r : Read). waiting (at_e r.e w)) e ∙ ap (λ (j : ℕ). take j (drop (s.pos + n) w.reply)) o,
    )
