-- The queries behind an update: the CRC and burn queries, in any number and order, each with whatever data, tell the payload's CRC-32
-- and zero, and change neither that nor the flash; they too may be cut anyhow (`queries_done`, proofs/Queries.antt).
use Rattle.std.specs.Prelude.{◌≡◌, true, false, List, [], ◌∷◌, ◌++◌, ℕ, ◌+◌, ◌≤◌, replicate}
use Rattle.std.proofs.Math.Path.{refl, ap}
use Rattle.std.proofs.Common.{sym, subst, ◌∙◌, arith}
use Rattle.std.proofs.Math.ListN.{length}
use Rattle.wire.specs.Bytes.{bytes_of}
use Rattle.wire.specs.Crc.{crc32}
use Rattle.wire.specs.Header.{request_of, parsed}
use Rattle.storage.specs.Store.{reading}
use Rattle.storage.specs.Open.{one_of}
use Rattle.storage_laws.specs.Bounds.{either}
use Rattle.engine.specs.declared.types.Update.{Update}
use Rattle.engine.specs.World.{Given, World, at_e, dev_of, at_dev, Out}
use Rattle.engine.specs.Reply.{ok, ran, status_by, reply_by, replied, ends}
use Rattle.engine.specs.Command.{plain}
use Rattle.engine.specs.Storing.{after_flush, probed, crc_query}
use Rattle.engine.specs.Exec.{storing, runs, begun, answered}
use Rattle.engine.specs.Feed.{feeds}
use Rattle.engine.specs.Api.{fits}
use Rattle.engine_laws.specs.Bounds.{in_bounds, write_feeds, write_fits}
use Rattle.engine_laws.specs.Cut.{Quiet, Room}
use Rattle.engine_laws.specs.Whole.{at_request, emptied_at}
use Rattle.promises.specs.Cuts.{Smooth, frame_smooth}
use Rattle.promises.specs.Flash.{flush_free_still, read_free_still}
use Rattle.promises.specs.Update.{waiting, replied_waits, Updated}

-- ---- what is asked, and told

pub data Question : Type 0 where
  crc : Question
  burn : Question

-- GET_FWC_CRC and GET_FWC_BURN_RESULT
abbrev pub number : Question → ℕ
number crc = 0x13
number burn = 0x14

-- the payload's CRC-32, and zero
abbrev pub truth : List ℕ → Question → ℕ
truth p crc = crc32 p
truth p burn = 0

-- a query's frame, with any data
pub record QueryFrame (a : Question) (f : List ℕ) : Type 0 where
  pub head : List ℕ
  pub body : List ℕ
  pub is : f ≡ head ++ body
  pub sixteen : length head ≡ 16
  pub status : ℕ
  pub says : parsed head ≡ request_of (number a) status (length body)
  pub most : length body ≤ 8192

-- what it leaves: status 0, the truth as a word of four bytes, and the update as it was
pub record Replied (p c : List ℕ) (a : Question) (o : Out) : Type 0 where
  pub status : o.status ≡ 0
  pub waits : waiting o.w ≡ reply_by (number a) (ok (bytes_of 4 (truth p a)))
  pub updated : Updated p c o.w

-- ---- one query

-- as a query finds the world, and leaves it, but for the reply
pub record Same (v x : World) : Type 0 where
  pub frame : x.e.frame ≡ record { len = 0; total = 0 }
  pub up : x.e.up ≡ v.e.up
  pub held : x.e.store.held ≡ false
  pub chip : x.chip ≡ v.chip
  pub reply : x.reply ≡ v.reply

module _ (g : Given) (v : World) (p c : List ℕ) (u : Updated p c v) (q : Quiet g v) (f : fits g v ≡ true) where
  -- as the command finds the world
  abbrev pub asked : ℕ → List ℕ → World
  asked n room = at_e (begun n v.e) (at_request room v)

  asked_same : (n : ℕ) (room : List ℕ) → Same v (asked n room)
  asked_same n room = record { frame = refl; up = refl; held = u.held; chip = refl; reply = refl }

  probed_same : (n : ℕ) (room : List ℕ) → Same v (probed g.lent (asked n room))
  unfolding probed
  probed_same n room =
      let l = g.lent in
      let x = asked n room in
      let t = read_free_still l (dev_of v) q u.held v.e.up.target (replicate 16 0) in
      either (Same v) v.e.up.aimed (at_dev (reading l v.e.up.target (replicate 16 0) (dev_of v)).told.dev x) x
      (record { frame = refl; up = refl; held = t.1; chip = t.0; reply = refl }) (asked_same n room)

  pub crc_told : (m room : List ℕ) → (x : World) × Same v x × (runs g 0x13 m (asked 0x13 room) ≡ ran (ok (bytes_of 4 (crc32 p))) x)
  unfolding runs one_of storing crc_query
  crc_told m room =
      let l = g.lent in
      let x = asked 0x13 room in (
        probed l x,
        probed_same 0x13 room,
        ap (after_flush x (λ v. ran (ok (bytes_of 4 v.e.up.crc)) (probed l v))) (flush_free_still l (dev_of v) q u.held)
            ∙ ap (λ (n : ℕ). ran (ok (bytes_of 4 n)) (probed l x)) u.crc,
      )

  pub burn_told : (m room : List ℕ) → (x : World) × Same v x × (runs g 0x14 m (asked 0x14 room) ≡ ran (ok (bytes_of 4 0)) x)
  unfolding runs one_of plain
  burn_told m room = let x = asked 0x14 room in (x, asked_same 0x14 room, ap (λ (n : ℕ). ran (ok (bytes_of 4 n)) x) u.burn)

  word_length : (n : ℕ) → length (bytes_of 4 n) ≡ 4
  unfolding bytes_of
  word_length n = refl

  reply_room : length v.reply ≡ 4112
  reply_room = (in_bounds g v f).fit.mid.reply

  pub answer_is : (a : Question) (x : World) → Same v x → Replied p c a (answered (number a) (ran (ok (bytes_of 4 (truth p a))) x))
  unfolding ends status_by replied
  answer_is a x s =
      record {
        status = refl;
        waits = replied_waits (number a) (bytes_of 4 (truth p a)) x (omega (arith, word_length (truth p a), ap length s.reply, reply_room));
        updated =
            record {
              frame = s.frame;
              left = ap (λ (y : Update). y.left) s.up ∙ u.left;
              crc = ap (λ (y : Update). y.crc) s.up ∙ u.crc;
              burn = ap (λ (y : Update). y.burn) s.up ∙ u.burn;
              held = s.held;
              chip = s.chip ∙ u.chip;
            };
      }

  pub not_send : (a : Question) → number a ≡ 0x12 → ⊥
  not_send crc e = omega arith
  not_send burn e = omega arith

  module _ (a : Question) (d : List ℕ) (k : QueryFrame a d) where
    abbrev pub request_room : 16 + length k.body ≤ length v.request
    request_room = omega (arith, k.most, (in_bounds g v f).fit.mid.request)

    pub query_smooth : Smooth g (emptied_at v) d
    query_smooth =
        subst (Smooth g (emptied_at v)) (sym k.is)
        (frame_smooth g v u.left k.head k.body k.sixteen request_room (number a) k.status k.says (not_send a) k.most)

-- ---- one after the other

-- the bytes are the frames of these queries
abbrev pub Queries : Question → List Question → List ℕ → Type 0
Queries a [] bytes = QueryFrame a bytes
Queries a (b ∷ more) bytes = (f rest : List ℕ) × (bytes ≡ f ++ rest) × QueryFrame a f × Queries b more rest

-- the last of them
abbrev pub last_of : Question → List Question → Question
last_of a [] = a
last_of a (b ∷ more) = last_of b more

-- what bytes in bounds leave is in bounds
pub feeds_fits : (g : Given) (v : World) (d : List ℕ) → fits g v ≡ true → fits g (feeds g v d).w ≡ true
feeds_fits g v d f = ap (λ (o : Out). fits g o.w) (sym (write_feeds g v f d)) ∙ write_fits g v f d

-- no stream is open behind an update
pub updated_room : (g : Given) (v : World) (p c : List ℕ) → Updated p c v → Room g v
updated_room g v p c u = λ n. absurd (n u.left)

module _ (g : Given) (p c : List ℕ) where
  -- what the last query leaves, and that the bytes may be cut anyhow
  pub record Asked (v : World) (a : Question) (more : List Question) (bytes : List ℕ) : Type 0 where
    pub replied : Replied p c (last_of a more) (feeds g v bytes)
    pub smooth : Smooth g v bytes
