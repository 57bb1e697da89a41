-- Only named reasons, of replies, those that come with status 0 too ("A data burn failure returns 0 with a fail reply"). A turn leaves
-- the reply that waits as it is, or lays one whose answer is OK or has its reason: `reply_why`. What a stream's one reply rests on is
-- traced through the stream: `burn` is 0 at its start, and a fail reply comes only where the storage took less than one of its pieces,
-- or where the flush at its end failed (`stream_why`); and each write that ends within a stream is one such piece
-- (`piece_goes`, crates/engine_laws/specs/Piece.antt).
use Rattle.std.specs.Prelude.{◌≡◌, Bool, cond, List, [], ◌∷◌, ◌⊎◌, ℕ, ◌+◌, length, take, drop, get_or}
use Rattle.std.proofs.Math.Path.{refl}
use Rattle.std.proofs.Common.{ap, subst, ◌∙◌, eq-eqb}
use Rattle.std.proofs.Math.Bool.{true, false}
use Rattle.std.proofs.Math.Logic.{inl, inr, ⊎_elim}
use Rattle.std.proofs.lemmas.Bool.{eqb-false}
use Rattle.std.proofs.Math.Dec.{eqb}
use Rattle.wire.specs.Header.{request_of, parsed}
use Rattle.storage.specs.World.{Lent, Told}
use Rattle.storage.specs.Open.{one_of}
use Rattle.storage.specs.Store.{flushing, writing}
use Rattle.engine.specs.World.{Given, World, with_up, at_e, dev_of, Out}
use Rattle.engine.specs.Reply.{Answer, ok, fail, unsupported, odd, whether, replied, ends}
use Rattle.engine.specs.Stream.{burn_by, fed_by, fed, taken, settled_by, settled, finishes}
use Rattle.engine.specs.Feed.{turns}
use Rattle.promises.specs.Why.{Unflushed, Why, Large, known, Says}
use Rattle.promises.specs.Picked.{picked}
use Rattle.promises.specs.Answers.{runs_says}
use Rattle.promises.specs.Turns.{Headed, gathered, finds, makes, SameReply, Turned, waits, refuses_header, refuses_stream, ends_stream, ends_empty, executes, turned}

-- ---- a stream

-- the storage took less than a piece
abbrev pub Short : Lent → List ℕ → World → Type 0
Short l p w = (w.e.up.aimed ≡ true) × ((writing l (w.e.up.target + w.e.up.written) p (dev_of w)).count ≡ length p → ⊥)

module _ (l : Lent) where
  burn_by_lem : (old count n : ℕ) → (burn_by old count n ≡ 0 → ⊥) → (old ≡ 0 → ⊥) ⊎ (count ≡ n → ⊥)
  burn_by_lem old count n h = go (eqb count n) refl h
    where
      go : (b : Bool) → eqb count n ≡ b → (cond b old (cond (eqb old 0) 1 old) ≡ 0 → ⊥) → (old ≡ 0 → ⊥) ⊎ (count ≡ n → ⊥)
      go true e k = inl k
      go false e k = inr (eqb-false count n e)

  -- "A short storage write sets burn to 1", and nothing else of a piece does
  pub burn_why : (p : List ℕ) (w : World) → ((fed l p w).e.up.burn ≡ 0 → ⊥) → (w.e.up.burn ≡ 0 → ⊥) ⊎ Short l p w
  unfolding fed
  burn_why p w =
      let t = writing l (w.e.up.target + w.e.up.written) p (dev_of w) in
      picked (λ (v : World). (v.e.up.burn ≡ 0 → ⊥) → (w.e.up.burn ≡ 0 → ⊥) ⊎ Short l p w) w.e.up.aimed (fed_by w p t)
      (at_e (with_up (taken p (length p) w.e.up) w.e) w) (λ a h. ⊎_elim inl (λ k. inr (a, k)) (burn_by_lem w.e.up.burn t.count (length p) h))
      (λ a h. ⊎_elim inl (λ k. absurd (k refl)) (burn_by_lem w.e.up.burn (length p) (length p) h))

  -- "At the end: flush if burn is 0, then the reply"
  pub end_why : (v : World) → ((settled l v).e.up.burn ≡ 0 → ⊥) → (v.e.up.burn ≡ 0 → ⊥) ⊎ Unflushed l (dev_of v)
  unfolding settled
  end_why v = go (eqb v.e.up.burn 0) refl
    where
      t : Told
      t = flushing l (dev_of v)

      go : (b : Bool) → eqb v.e.up.burn 0 ≡ b → ((cond b (settled_by v t) v).e.up.burn ≡ 0 → ⊥) → (v.e.up.burn ≡ 0 → ⊥) ⊎ Unflushed l (dev_of v)
      go true e h = inr (λ s. h (ap {B = ℕ} (λ (b : Bool). cond b 0 1) (eq-eqb t.status 0 s)))
      go false e h = inl (eqb-false v.e.up.burn 0 e)

  -- pieces of a stream, one after the other
  abbrev pub feds : List (List ℕ) → World → World
  feds [] w = w
  feds (p ∷ ps) w = feds ps (fed l p w)

  -- one of them came up short
  abbrev pub ShortIn : List (List ℕ) → World → Type 0
  ShortIn [] w = ⊥
  ShortIn (p ∷ ps) w = Short l p w ⊎ ShortIn ps (fed l p w)

  feds_burn : (ps : List (List ℕ)) (w : World) → ((feds ps w).e.up.burn ≡ 0 → ⊥) → (w.e.up.burn ≡ 0 → ⊥) ⊎ ShortIn ps w
  feds_burn [] w h = inl h
  feds_burn (p ∷ ps) w h = ⊎_elim (λ k. ⊎_elim inl (λ s. inr (inl s)) (burn_why p w k)) (λ s. inr (inr s)) (feds_burn ps (fed l p w) h)

  -- a stream that started with burn 0, of which all pieces came: it ends with a fail reply only where one of them came up short, or where
  -- the flush failed
  pub stream_why : (ps : List (List ℕ)) (w : World) → w.e.up.burn ≡ 0 → ((settled l (feds ps w)).e.up.burn ≡ 0 → ⊥) → ShortIn ps w ⊎ Unflushed l (dev_of (feds ps w))
  stream_why ps w z h = ⊎_elim (λ k. inl (⊎_elim (λ n. absurd (n z)) (λ s. s) (feds_burn ps w k))) inr (end_why (feds ps w) h)

-- ---- every reply

-- why a turn with p lays a fail reply
pub data FailWhy (g : Given) (p : List ℕ) (w : World) : Type 0 where
  -- 1c, "SEND_FWC_DATA without valid metadata"
  by_metadata : get_or (gathered p w) 6 0 ≡ 0x12 → w.e.up.valid ≡ false → FailWhy g p w
  -- 1d, "executed command fails"
  by_command : (c s n : ℕ) → parsed (gathered p w) ≡ request_of c s n → Why g c (take n (drop 16 (gathered p w))) (finds p w c) → FailWhy g p w
  -- "A data burn failure": a piece before this one came up short, this one did, or the flush behind it failed
  by_burn : (w.e.up.burn ≡ 0 → ⊥) → FailWhy g p w
  by_short : Short g.lent p w → FailWhy g p w
  by_flush : Unflushed g.lent (dev_of (fed g.lent p w)) → FailWhy g p w
  -- of a stream of no bytes: "Length 0 flushes and replies at once"
  by_empty : Unflushed g.lent (dev_of w) → FailWhy g p w

-- and the odd one (1e)
abbrev pub LargeWhy : Given → List ℕ → World → Type 0
LargeWhy g p w = (c s n : ℕ) × (parsed (gathered p w) ≡ request_of c s n) × Large g c (take n (drop 16 (gathered p w))) (finds p w c)

-- an unsupported command: none of those that a frame may bring, nor SEND_FWC_DATA
abbrev pub NotKnown : ℕ → Type 0
NotKnown c = (one_of known c ≡ false) × (c ≡ 0x12 → ⊥)

-- the reply behind a turn: the one of before, or one that has its reasons
pub data Replied (g : Given) (p : List ℕ) (w v : World) : Type 0 where
  kept : SameReply w v → Replied g p w v
  laid : (c : ℕ) (a : Answer) (u : World) → v ≡ replied c a u → Says (FailWhy g p w) (NotKnown c) (LargeWhy g p w) a → Replied g p w v

module _ (g : Given) (p : List ℕ) (w : World) where
  ends_world : (c : ℕ) (a : Answer) (v : World) → (ends c a v).w ≡ replied c a v
  unfolding ends
  ends_world c a v = refl

  finish_world : (v : World) → (finishes g.lent v).w ≡ replied 0x12 (whether (eqb (settled g.lent v).e.up.burn 0)) (settled g.lent v)
  unfolding finishes
  finish_world v = refl

  abbrev HasWhy : ℕ → Answer → Type 0
  HasWhy c = Says (FailWhy g p w) (NotKnown c) (LargeWhy g p w)

  -- a stream's end
  end_says : (v : World) → ((v.e.up.burn ≡ 0 → ⊥) ⊎ Unflushed g.lent (dev_of v) → FailWhy g p w)
      → HasWhy 0x12 (whether (eqb (settled g.lent v).e.up.burn 0))
  end_says v h = go (eqb (settled g.lent v).e.up.burn 0) refl
    where
      go : (b : Bool) → eqb (settled g.lent v).e.up.burn 0 ≡ b → HasWhy 0x12 (whether b)
      go true e = tt
      go false e = h (end_why g.lent v (eqb-false (settled g.lent v).e.up.burn 0 e))

  finish_laid : {o : Out} (v : World) → o ≡ finishes g.lent v → ((v.e.up.burn ≡ 0 → ⊥) ⊎ Unflushed g.lent (dev_of v) → FailWhy g p w)
      → Replied g p w o.w
  finish_laid v q h =
      let s = settled g.lent v in
      laid 0x12 (whether (eqb s.e.up.burn 0)) s (ap (λ (o : Out). o.w) q ∙ finish_world v) (end_says v h)

  -- "a refusal or fail reply still needs a reason that these papers name": whatever a turn replies is OK, or has its reason
  pub reply_why : Headed w → Replied g p w (turns g p w).w
  reply_why h = by (turns g p w) (turned g p w h).0
    where
      command : (c s n : ℕ) → parsed (gathered p w) ≡ request_of c s n → (c ≡ 0x12 → ⊥) → (a : Answer)
          → Says (Why g c (take n (drop 16 (gathered p w))) (finds p w c)) (one_of known c ≡ false) (Large g c (take n (drop 16 (gathered p w))) (finds p w c)) a → HasWhy c a
      command c s n e o (ok bytes) k = tt
      command c s n e o fail k = by_command c s n e k
      command c s n e o unsupported k = (k, o)
      command c s n e o odd k = (c, s, n, e, k)

      by : (o : Out) → Turned g p w o → Replied g p w o.w
      by o (waits a b) = kept b
      by o (refuses_header a b x) = kept b
      by o (refuses_stream a b v q) = laid 0x12 fail v (ap (λ (x : Out). x.w) q ∙ ends_world 0x12 fail v) (by_metadata a b)
      by o (ends_stream q) = finish_laid (fed g.lent p w) q (⊎_elim (λ k. ⊎_elim by_burn by_short (burn_why g.lent p w k)) by_flush)
      by o (ends_empty v z e q) = finish_laid v q (⊎_elim (λ k. absurd (k z)) (λ k. by_empty (subst (Unflushed g.lent) e k)))
      by o (executes c s n e k q) =
          let m = makes g p w c n in
          laid c m.answer m.w (ap (λ (x : Out). x.w) q ∙ ends_world c m.answer m.w)
          (command c s n e k m.answer (runs_says g c (take n (drop 16 (gathered p w))) (finds p w c)))
