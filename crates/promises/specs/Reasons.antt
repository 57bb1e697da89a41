-- Only named reasons, of turns and of whole writes (01, 'Replies and refusals').
-- A turn has status 1 only by a header that is refused (1a, 1b), a stream without metadata (1c), or a command whose answer is fail or odd
-- (1d, 1e), which has its row of Why.antt: `turn_why`. A write has status 1 only by such a turn, behind bytes that were taken with
-- status 0: `write_why`. It has status 9 only by a room, a number or a part that row 9 names: `write_nine`, and `read_nine` of a read.
-- The condition `Headed` (Turns.antt) holds from an opening on, whatever is called (`run_headed`), so it is none of `nor_write_why` and
-- `nand_write_why`. Replies, those with status 0 too, are in Replies.antt.
use Rattle.std.specs.Prelude.{◌≡◌, Result, Ok, Err, true, false, ◌&&◌, cond, ◌⊎◌, eqb, ltb, length, take, drop, get_or}
use Rattle.std.proofs.Math.Path.{refl}
use Rattle.std.proofs.Common.{sym, ap, ◌∙◌, inl, inr, le_refl, arith, eqb-true, ltb-true, ltb-false, length-append, length-drop, drop_of_length-le, take-append-drop, take_at, drop_at, length-take-le}
use Rattle.std.proofs.Math.Bool.{Bool}
use mathlib.Core.List.{List, [], ◌∷◌, ◌++◌, append_assoc}
use Prim.Native.Nat.{ℕ, zero, suc, ◌≤◌, ◌<◌}
use Rattle.std.proofs.lemmas.Bool.{eqb-false}
use Rattle.wire.specs.Header.{request_of, parsed}
use Rattle.storage.specs.declared.types.Refusal.{Refusal}
use Rattle.storage.specs.declared.types.Store.{Store}
use Rattle.storage.specs.Open as opens
use Rattle.storage.specs.Open.{scratch_ok}
use Rattle.storage.specs.Partition.{lists_ok}
use Rattle.storage.specs.Store.{good}
use Rattle.storage.specs.declared.types.CallError.{CallError}
use Rattle.engine.specs.World.{Given, World, at_e, dev_of, Out, out_of}
use Rattle.engine.specs.Reply.{Answer, ok, fail, unsupported, odd, status_by, ends}
use Rattle.engine.specs.Stream.{fed, finishes}
use Rattle.engine.specs.Feed.{turns, cut_of, then_by, goes, feeds}
use Rattle.engine.specs.Api.{rooms_ok, engine_ok, fits, refused, opened_by, opened_nor, opened_nand, writes, Read, reads}
use Rattle.engine.proofs.Feeds.{feed_step, feed_nil, then_go, then_stop}
use Rattle.engine_laws.specs.Bounds.{Call, write, read, reset, after, after_all, in_bounds, write_feeds, write_taken, read_told, run_fits, nor_opening, nor_opening_fits, nand_opening, nand_opening_fits}
use Rattle.promises.specs.Why.{Why, Large}
use Rattle.promises.specs.Picked.{picked, and_false}
use Rattle.promises.specs.Answers.{fail_why, odd_why}
use Rattle.promises.specs.Turns.{HeaderWhy, HeadedBy, Headed, gathered, finds, makes, Turned, waits, refuses_header, refuses_stream, ends_stream, ends_empty, executes, turned}

-- ---- a turn

-- why a turn with p has status 1
pub data TurnWhy (g : Given) (p : List ℕ) (w : World) : Type 0 where
  -- 1a, "header not `UPGC` or wrong checksum", and 1b, "frame over 8,208 bytes"
  header_refused : HeaderWhy (gathered p w) → TurnWhy g p w
  -- 1c, "SEND_FWC_DATA without valid metadata"
  no_metadata : get_or (gathered p w) 6 0 ≡ 0x12 → w.e.up.valid ≡ false → TurnWhy g p w
  -- 1d, "executed command fails"
  command_failed : (c s n : ℕ) → parsed (gathered p w) ≡ request_of c s n → Why g c (take n (drop 16 (gathered p w))) (finds p w c) → TurnWhy g p w
  -- 1e, "reply data 4,097 to 4,112 bytes, or a table text over 4,096"
  reply_large : (c s n : ℕ) → parsed (gathered p w) ≡ request_of c s n → Large g c (take n (drop 16 (gathered p w))) (finds p w c) → TurnWhy g p w

module _ (g : Given) (p : List ℕ) (w : World) where
  finish_zero : (v : World) → (finishes g.lent v).status ≡ 0
  unfolding finishes
  finish_zero v = refl

  ends_status : (c : ℕ) (a : Answer) (v : World) → (ends c a v).status ≡ status_by a
  unfolding ends
  ends_status c a v = refl

  -- rows 1a to 1e: "a refusal or fail reply still needs a reason that these papers name"
  pub turn_why : Headed w → (turns g p w).status ≡ 1 → TurnWhy g p w
  unfolding status_by
  turn_why h z = by (turns g p w) (turned g p w h).0 z
    where
      no : {A : Type 0} (n : ℕ) → n ≡ 0 → n ≡ 1 → A
      no n a b = absurd (omega arith)

      answer : (c s n : ℕ) → parsed (gathered p w) ≡ request_of c s n → (a : Answer) → (makes g p w c n).answer ≡ a → status_by a ≡ 1 → TurnWhy g p w
      answer c s n e (ok bytes) q r = absurd (omega arith)
      answer c s n e fail q r = command_failed c s n e (fail_why g c (take n (drop 16 (gathered p w))) (finds p w c) q)
      answer c s n e unsupported q r = absurd (omega arith)
      answer c s n e odd q r = reply_large c s n e (odd_why g c (take n (drop 16 (gathered p w))) (finds p w c) q)

      by : (o : Out) → Turned g p w o → o.status ≡ 1 → TurnWhy g p w
      by o (waits a b) r = no o.status a r
      by o (refuses_header a b x) r = header_refused x
      by o (refuses_stream a b v q) r = no_metadata a b
      by o (ends_stream q) r = no o.status (ap (λ (x : Out). x.status) q ∙ finish_zero (fed g.lent p w)) r
      by o (ends_empty v a b q) r = no o.status (ap (λ (x : Out). x.status) q ∙ finish_zero v) r
      by o (executes c s n e k q) r =
          let m = makes g p w c n in
          answer c s n e m.answer refl (sym (ap (λ (x : Out). x.status) q ∙ ends_status c m.answer m.w) ∙ r)

-- ---- a write

-- where a write of d stops: `before` was taken with status 0, and then the turn with `piece` has status 1 for a reason
pub record Stopped (g : Given) (w : World) (d : List ℕ) : Type 0 where
  pub before : List ℕ
  pub piece : List ℕ
  pub rest : List ℕ
  pub cut : before ++ (piece ++ rest) ≡ d
  pub taken : (feeds g w before).status ≡ 0
  pub told : (turns g piece (feeds g w before).w).status ≡ 1
  pub why : TurnWhy g piece (feeds g w before).w

module _ (g : Given) where
  -- the first piece stops
  stops_here : (w : World) (d : List ℕ) → Headed w → 0 < length d → (turns g (take (cut_of w) d) w).status ≡ 1 → Stopped g w d
  stops_here w d h i z =
      let e = feed_nil g w in
      let f : (feeds g w []).w ≡ w = ap (λ (o : Out). o.w) e in
      record {
        before = [];
        piece = take (cut_of w) d;
        rest = drop (cut_of w) d;
        cut = take-append-drop (cut_of w) d;
        taken = ap (λ (o : Out). o.status) e;
        told = rw f z;
        why = rw f (turn_why g (take (cut_of w) d) w h z);
      }

  -- one behind it does
  stops_later : (w : World) (d : List ℕ) → cut_of w < length d → (turns g (take (cut_of w) d) w).status ≡ 0
      → Stopped g (turns g (take (cut_of w) d) w).w (drop (cut_of w) d) → Stopped g w d
  stops_later w d i z s =
      let p = take (cut_of w) d in
      let n : length p ≡ cut_of w = length-take-le (cut_of w) d (omega arith) in
      let b = s.before in
      let t : take (cut_of w) (p ++ b) ≡ p = take_at p b (cut_of w) n in
      let r : drop (cut_of w) (p ++ b) ≡ b = drop_at p b (cut_of w) n in
      let e : feeds g w (p ++ b) ≡ feeds g (turns g p w).w b =
      feed_step g w (p ++ b) (rw length-append (omega arith)) ∙ rw (t, r) (then_go g (turns g p w) (λ v. feeds g v b) z) in
      record {
        before = p ++ b;
        piece = s.piece;
        rest = s.rest;
        cut = append_assoc p b (s.piece ++ s.rest) ∙ ap (λ (x : List ℕ). p ++ x) s.cut ∙ take-append-drop (cut_of w) d;
        taken = ap (λ (o : Out). o.status) e ∙ s.taken;
        told = rw e s.told;
        why = rw e s.why;
      }

  -- the first piece, and then the others
  stops_at : (k : ℕ) (w : World) (d : List ℕ) → ((v : World) (m : List ℕ) → length m ≤ k → Headed v → (feeds g v m).status ≡ 1 → Stopped g v m) → 0 < length d
      → length d ≤ suc k → Headed w → (feeds g w d).status ≡ 1 → Stopped g w d
  stops_at k w d r i l h z = go (eqb o.status 0) refl
    where
      o : Out
      o = turns g (take (cut_of w) d) w

      more : List ℕ
      more = drop (cut_of w) d

      later : (feeds g o.w more).status ≡ 1 → o.status ≡ 0 → (u : Bool) → ltb (cut_of w) (length d) ≡ u → Stopped g w d
      later y e true f =
          stops_later w d (ltb-true (cut_of w) (length d) f) e (r o.w more (rw length-drop (omega arith)) (turned g (take (cut_of w) d) w h).1 y)
      later y e false f =
          let n : more ≡ [] = drop_of_length-le d {i = cut_of w} (ltb-false (cut_of w) (length d) f) in
          let x : (feeds g o.w more).status ≡ 0 = rw n (ap (λ (u : Out). u.status) (feed_nil g o.w)) in
          absurd (omega arith)

      go : (t : Bool) → eqb o.status 0 ≡ t → Stopped g w d
      go true e =
          let y = eqb-true o.status 0 e in
          later (ap (λ (u : Out). u.status) (sym (feed_step g w d i ∙ then_go g o (λ v. feeds g v more) y)) ∙ z) y (ltb (cut_of w) (length d)) refl
      go false e =
          stops_here w d h i (ap (λ (u : Out). u.status) (sym (feed_step g w d i ∙ then_stop g o (λ v. feeds g v more) (eqb-false o.status 0 e))) ∙ z)

  stops_none : (w : World) → (feeds g w []).status ≡ 1 → Stopped g w []
  stops_none w z = absurd (let e = ap (λ (o : Out). o.status) (feed_nil g w) in omega arith)

  stops_some : (k : ℕ) (w : World) (d : List ℕ) → ((v : World) (m : List ℕ) → length m ≤ k → Headed v → (feeds g v m).status ≡ 1 → Stopped g v m)
      → length d ≤ suc k → Headed w → (feeds g w d).status ≡ 1 → Stopped g w d
  stops_some k w [] r l h z = stops_none w z
  stops_some k w (b ∷ bs) r l h z = stops_at k w (b ∷ bs) r (omega arith) l h z

  stops_short : (w : World) (d : List ℕ) → length d ≤ 0 → (feeds g w d).status ≡ 1 → Stopped g w d
  stops_short w [] l z = stops_none w z
  stops_short w (b ∷ bs) l z = absurd (omega arith)

  stops : (k : ℕ) (w : World) (d : List ℕ) → length d ≤ k → Headed w → (feeds g w d).status ≡ 1 → Stopped g w d
  stops zero w d l h z = stops_short w d l z
  stops (suc k) w d l h z = stops_some k w d (λ v m. stops k v m) l h z

  -- "write returns 1": a write that fits has status 1 only by a turn of it that has, behind bytes that were taken
  pub write_why : (w : World) (d : List ℕ) → fits g w ≡ true → Headed w → (writes g w d).status ≡ 1 → Stopped g w d
  write_why w d f h z = stops (length d) w d (le_refl _) h (ap (λ (o : Out). o.status) (sym (write_feeds g w f d)) ∙ z)

-- ---- 9

-- row 9: "request room not 8,208, reply room not 4,112; .. also parts that opening would refuse, or a record out of bounds"
pub data NineWhy (g : Given) (w : World) : Type 0 where
  rooms : rooms_ok (length w.request) (length w.reply) ≡ false → NineWhy g w
  bounds : engine_ok w.e ≡ false → NineWhy g w
  storage : good g.lent (dev_of w) ≡ false → NineWhy g w
  lists : lists_ok g.lists ≡ false → NineWhy g w
  scratch : scratch_ok w.e.base (length w.scratch) ≡ false → NineWhy g w

module _ (g : Given) (w : World) where
  unfit_why : fits g w ≡ false → NineWhy g w
  unfolding fits
  unfit_why e = one (and_false _ _ e)
    where
      a : Bool
      a = scratch_ok w.e.base (length w.scratch)

      b : Bool
      b = lists_ok g.lists

      c : Bool
      c = good g.lent (dev_of w)

      four : (b ≡ false) ⊎ (a ≡ false) → NineWhy g w
      four (inl x) = lists x
      four (inr x) = scratch x

      three : (c ≡ false) ⊎ ((b && a) ≡ false) → NineWhy g w
      three (inl x) = storage x
      three (inr x) = four (and_false _ _ x)

      two : (engine_ok w.e ≡ false) ⊎ ((c && (b && a)) ≡ false) → NineWhy g w
      two (inl x) = bounds x
      two (inr x) = three (and_false _ _ x)

      one : (rooms_ok (length w.request) (length w.reply) ≡ false) ⊎ ((engine_ok w.e && (c && (b && a))) ≡ false) → NineWhy g w
      one (inl x) = rooms x
      one (inr x) = two (and_false _ _ x)

  -- a write answers 9 only so
  pub write_nine : (d : List ℕ) → (writes g w d).status ≡ 9 → NineWhy g w
  write_nine d z = go (fits g w) refl
    where
      go : (t : Bool) → fits g w ≡ t → NineWhy g w
      go true f = absurd (write_taken g w f d z)
      go false f = unfit_why f

  -- and a read is refused only so
  pub read_nine : (room : List ℕ) {x : CallError} → (reads g w room).got ≡ Err x → NineWhy g w
  read_nine room z = go (fits g w) refl
    where
      go : (t : Bool) → fits g w ≡ t → NineWhy g w
      go true f = absurd (let q = read_told g w f room in let z : ◌≡◌ {A = ℕ} 0 1 = cc in omega arith)
      go false f = unfit_why f

-- ---- from an opening on

module _ (g : Given) where
  goes_headed : (k : ℕ) (w : World) (d : List ℕ) → Headed w → Headed (goes g k w d).w
  unfolding goes then_by
  goes_headed zero w d h = h
  goes_headed (suc k) w [] h = h
  goes_headed (suc k) w (b ∷ bs) h =
      let o = turns g (take (cut_of w) (b ∷ bs)) w in
      let i = (turned g (take (cut_of w) (b ∷ bs)) w h).1 in
      picked (λ (x : Out). Headed x.w) (eqb o.status 0) (goes g k o.w (drop (cut_of w) (b ∷ bs))) o (λ _. goes_headed k o.w (drop (cut_of w) (b ∷ bs)) i) (λ _. i)

  after_headed : (w : World) (c : Call) → Headed w → Headed (after g w c)
  unfolding writes feeds reads
  after_headed w (write d) h = picked (λ (o : Out). Headed o.w) (fits g w) (feeds g w d) (out_of 9 w) (λ _. goes_headed (length d) w d h) (λ _. h)
  after_headed w (read room) h = picked (λ (r : Read). HeadedBy r.e.frame w.request) (fits g w) _ _ (λ _. h) (λ _. h)
  after_headed w reset h = record { room = h.room; header = λ n. absurd (n refl) }

  -- whatever is called, the header of a frame stays
  pub run_headed : (cs : List Call) (w : World) → Headed w → Headed (after_all g w cs)
  unfolding after_all
  run_headed [] w h = h
  run_headed (c ∷ cs) w h = run_headed cs (after g w c) (after_headed w c h)

  -- where no frame is open there is nothing to keep, as behind an opening
  pub idle_headed : (w : World) → fits g w ≡ true → w.e.frame.total ≡ 0 → Headed w
  idle_headed w f e = record { room = (in_bounds g w f).fit.mid.request; header = λ n. absurd (n e) }

  opened_idle : (b : Bool) (base : ℕ) (o : Result Store Refusal) → (cond b (opened_by base o) (refused 9)).e.frame.total ≡ 0
  opened_idle true base (Ok s) = refl
  opened_idle true base (Err n) = refl
  opened_idle false base o = refl

  module _ (w : World) (base stage device : ℕ) where
    abbrev rooms_taken : Bool
    rooms_taken = rooms_ok (length w.request) (length w.reply)

    -- after an accepted opening of a NOR and any calls, a write has status 1 only for a reason
    pub nor_write_why : (nor_opening g w base stage device).number ≡ 0
        → (let v = at_e (nor_opening g w base stage device).e w in (cs : List Call) (d : List ℕ) → (writes g (after_all g v cs) d).status ≡ 1 → Stopped g (after_all g v cs) d)
    unfolding opened_nor
    nor_write_why e cs d =
        let v = at_e (nor_opening g w base stage device).e w in
        let f = nor_opening_fits g w base stage device e in
        let i = opened_idle rooms_taken base (opens.opened_nor (length w.chip) (length w.buffer) g.lists base (length w.scratch) stage device) in
        write_why g (after_all g v cs) d (run_fits g cs v f) (run_headed cs v (idle_headed v f i))

    -- and of a NAND
    pub nand_write_why : (page pages blocks capacity : ℕ) → 4096 ≤ length w.buffer → (nand_opening g w base stage device page pages blocks capacity).number ≡ 0
        → (let v = at_e (nand_opening g w base stage device page pages blocks capacity).e w in
        (cs : List Call) (d : List ℕ) → (writes g (after_all g v cs) d).status ≡ 1 → Stopped g (after_all g v cs) d)
    unfolding opened_nand
    nand_write_why page pages blocks capacity b e cs d =
        let v = at_e (nand_opening g w base stage device page pages blocks capacity).e w in
        let f = nand_opening_fits g w base stage device page pages blocks capacity e b in
        let i =
        opened_idle rooms_taken base
        (opens.opened_nand (length w.chip) page pages blocks (length g.lent.marks) capacity g.lists base (length w.scratch) stage device) in
        write_why g (after_all g v cs) d (run_fits g cs v f) (run_headed cs v (idle_headed v f i))
