-- What a turn of a write comes to, for Reasons.antt: it takes its bytes and waits for more, refuses a header, refuses a stream, ends one,
-- or executes the command of the header that was gathered (`Turned`). The last needs that the header of a frame whose data are
-- gathered is still the one that was accepted, and says how long the frame is (`Headed`). Every turn keeps that (`turned`), and so does
-- every call from an opening on (`run_headed`), so a frame is never executed with a header that says something else.
use Rattle.std.specs.Prelude.{◌≡◌, Bool, true, false, ◌&&◌, cond, ◌⊎◌, List, [], ◌∷◌, ℕ, suc, ◌+◌, ◌≤◌, ◌<◌, ◌%◌, ◌^◌, leb, ltb, eqb, take, drop, set}
use Rattle.std.proofs.Math.Path.{refl, ap}
use Rattle.std.proofs.Common.{Option, None, Some, sym, subst, ◌∙◌, inl, inr, arith, eqb-true, leb-false, le-leb, length-take, take-append-drop, length-take-le, take-take}
use Rattle.std.proofs.lemmas.Bool.{eqb-false}
use Rattle.std.proofs.Math.ListN.{length, get_or}
use Rattle.std.proofs.lemmas.List.Edits.{sets}
use Rattle.std.proofs.Math.Seq.{length-sets}
use Rattle.std.proofs.lemmas.List.{take-set-le}
use Rattle.wire.specs.Bytes.{word_at}
use Rattle.wire.specs.Header.{request_magic, checksum_of, accepted, request_of, parsed}
use Rattle.storage.specs.Store.{flushing, writing}
use Rattle.engine.specs.declared.types.Frame.{Frame}
use Rattle.engine.specs.declared.frame.Next.{Next}
use Rattle.engine.specs.declared.frame.Next.TheVariants.{Refused, Send, Total}
use Rattle.engine.specs.World.{Given, World, world, with_up, at_e, dev_of, Out, out_of}
use Rattle.engine.specs.Reply.{fail, Ran, replied, ends}
use Rattle.engine.specs.Exec.{runs, order_by, order_of, begun, answered, performs, exec_by, execs}
use Rattle.engine.specs.Stream.{fed_by, fed, taken, settled_by, settled, finishes, streamed_by, streams, started, begins}
use Rattle.engine.specs.Frame.{next_by, next_of, ripens, headed_by, heads, grown, fills, gathers}
use Rattle.engine.specs.Feed.{turns}
use Rattle.engine.proofs.Tidies.{runs_tidy}
use Rattle.engine.proofs.Frames.{Taken, next_taken}
use Rattle.engine_laws.specs.Front.{parsed_front}
use Rattle.promises.specs.Picked.{picked, and_false}

-- ---- what a header says depends on its sixteen bytes alone

parsed_by : (s : List ℕ) → 16 ≤ length s → parsed s ≡ parsed (take 16 s)
parsed_by s h = ap parsed (sym (take-append-drop 16 s)) ∙ parsed_front (take 16 s) (drop 16 s) (length-take-le 16 s h)

-- the front of a room, whatever is laid behind it
take_sets : (xs s : List ℕ) (n k : ℕ) → n ≤ k → take n (sets s k xs) ≡ take n s
take_sets [] s n k h = refl
take_sets (x ∷ xs) s n k h = take_sets xs (set s k x) n (suc k) (omega arith) ∙ take-set-le n s k x h

parsed_laid : (s : List ℕ) (k : ℕ) (xs : List ℕ) → 16 ≤ length s → 16 ≤ k → parsed (sets s k xs) ≡ parsed s
parsed_laid s k xs h i = parsed_by (sets s k xs) (rw length-sets h) ∙ ap parsed (take_sets xs s 16 k i) ∙ sym (parsed_by s h)

parsed_take : (s : List ℕ) (t : ℕ) → 16 ≤ length s → 16 ≤ t → parsed (take t s) ≡ parsed s
parsed_take s t h i = parsed_by (take t s) (rw length-take (omega arith)) ∙ ap parsed (take-take 16 t s i) ∙ sym (parsed_by s h)

-- ---- why a header is refused

-- 1a, "header not `UPGC` or wrong checksum", and 1b, "frame over 8,208 bytes"; SEND_FWC_DATA's is of any length
pub data HeaderWhy (s : List ℕ) : Type 0 where
  other_magic : (word_at 4 s 0 ≡ request_magic → ⊥) → HeaderWhy s
  other_sum : (word_at 4 s 12 ≡ checksum_of request_magic (get_or s 6 0) (get_or s 7 0) (word_at 4 s 8) → ⊥) → HeaderWhy s
  too_long : (get_or s 6 0 ≡ 0x12 → ⊥) → 8208 < 16 + word_at 4 s 8 → HeaderWhy s

-- what a request's first bytes ask for has its reason, or follows from what they say
abbrev Asked : List ℕ → Next → Type 0
Asked s Refused = HeaderWhy s
Asked s (Send n) = get_or s 6 0 ≡ 0x12
Asked s (Total t) = (n : ℕ) × (parsed s ≡ request_of (get_or s 6 0) (get_or s 7 0) n) × (t ≡ 16 + n) × (get_or s 6 0 ≡ 0x12 → ⊥)

next_asked : (s : List ℕ) → 16 ≤ length s → Asked s (next_of s)
unfolding parsed accepted
next_asked s h = go (accepted s) refl
  where
    c : ℕ
    c = get_or s 6 0

    n : ℕ
    n = word_at 4 s 8

    sum : Bool
    sum = eqb (word_at 4 s 12) (checksum_of request_magic c (get_or s 7 0) n)

    ask : parsed s ≡ request_of c (get_or s 7 0) n → Asked s (next_by (request_of c (get_or s 7 0) n))
    ask e =
        picked (Asked s) (eqb c 0x12) (Send (n % 2 ^ 32)) (cond (leb n 8192) (Total (16 + n)) Refused) (λ a. eqb-true c 0x12 a)
        (λ a. picked (Asked s) (leb n 8192) (Total (16 + n)) Refused (λ b. (n, e, refl, eqb-false c 0x12 a))
        (λ b. too_long (eqb-false c 0x12 a) (let k = leb-false n 8192 b in omega arith)))

    bad : (eqb (word_at 4 s 0) request_magic ≡ false) ⊎ (sum ≡ false) → HeaderWhy s
    bad (inl e) = other_magic (eqb-false (word_at 4 s 0) request_magic e)
    bad (inr e) = other_sum (eqb-false (word_at 4 s 12) (checksum_of request_magic c (get_or s 7 0) n) e)

    short : (leb 16 (length s) ≡ false) ⊎ ((eqb (word_at 4 s 0) request_magic && sum) ≡ false) → HeaderWhy s
    short (inl e) = absurd (let k = leb-false 16 (length s) e in omega arith)
    short (inr e) = bad (and_false _ _ e)

    go : (b : Bool) → accepted s ≡ b → Asked s (next_by (cond b (request_of c (get_or s 7 0) n) None))
    go true e = ask (ap (λ (b : Bool). cond b (request_of c (get_or s 7 0) n) None) e)
    go false e = short (and_false _ _ e)

-- ---- the header of a frame

-- while a frame's data are gathered, its header stands in the request room, and the room has 8,208 bytes
pub record HeadedBy (f : Frame) (q : List ℕ) : Type 0 where
  pub room : length q ≡ 8208
  pub header : (f.total ≡ 0 → ⊥) → (16 ≤ f.len) × (next_of q ≡ Total f.total)

abbrev pub Headed : World → Type 0
Headed w = HeadedBy w.e.frame w.request

-- where there is no frame
idle : (f : Frame) (q : List ℕ) → length q ≡ 8208 → f.total ≡ 0 → HeadedBy f q
idle f q h e = record { room = h; header = λ n. absurd (n e) }

-- so a frame that is whole is executed by what its header says
pub record Ordered (q : List ℕ) (t : ℕ) : Type 0 where
  pub n : ℕ
  pub says : parsed q ≡ request_of (get_or q 6 0) (get_or q 7 0) n
  pub order : order_of (take t q) ≡ Some (get_or q 6 0, n)
  pub other : get_or q 6 0 ≡ 0x12 → ⊥

ordered : (q : List ℕ) (t : ℕ) → length q ≡ 8208 → next_of q ≡ Total t → Ordered q t
ordered q t h e = go (subst (Asked q) e (next_asked q (omega arith))) (subst Taken e (next_taken q))
  where
    go : Asked q (Total t) → (16 ≤ t) × (t ≤ 8208) → Ordered q t
    go a m =
        let k : length (take t q) ≡ t = length-take-le t q (omega arith) in
        let l : leb (16 + a.0) (length (take t q)) ≡ true = le-leb (16 + a.0) (length (take t q)) (omega (arith, a.2)) in
        record {
          n = a.0;
          says = a.1;
          order =
              ap (order_by (take t q)) (parsed_take q t (omega arith) (omega arith) ∙ a.1)
              ∙ ap (λ (b : Bool). cond {A = Option (ℕ × ℕ)} b (Some (get_or q 6 0, a.0)) None) l;
          other = a.3;
        }

-- ---- a turn

-- the request room with a piece laid behind what was gathered
abbrev pub gathered : List ℕ → World → List ℕ
gathered p w = sets w.request w.e.frame.len p

-- the world that a command finds, and what it makes of it: its data are the n bytes behind the header
abbrev pub finds : List ℕ → World → ℕ → World
finds p w c = world (begun c w.e) (gathered p w) w.reply w.chip w.buffer w.scratch

abbrev pub makes : Given → List ℕ → World → ℕ → ℕ → Ran
makes g p w c n = runs g c (take n (drop 16 (gathered p w))) (finds p w c)

-- the reply that waits is the one of before
abbrev pub SameReply : World → World → Type 0
SameReply w v = (v.reply ≡ w.reply) × (v.e.said ≡ w.e.said)

-- what a turn with p comes to
pub data Turned (g : Given) (p : List ℕ) (w : World) (o : Out) : Type 0 where
  waits : o.status ≡ 0 → SameReply w o.w → Turned g p w o
  refuses_header : o.status ≡ 1 → SameReply w o.w → HeaderWhy (gathered p w) → Turned g p w o
  refuses_stream : get_or (gathered p w) 6 0 ≡ 0x12 → w.e.up.valid ≡ false → (v : World) → o ≡ ends 0x12 fail v → Turned g p w o
  ends_stream : o ≡ finishes g.lent (fed g.lent p w) → Turned g p w o
  ends_empty : (v : World) → v.e.up.burn ≡ 0 → dev_of v ≡ dev_of w → o ≡ finishes g.lent v → Turned g p w o
  executes : (c s n : ℕ) → parsed (gathered p w) ≡ request_of c s n → (c ≡ 0x12 → ⊥) → o ≡ answered c (makes g p w c n) → Turned g p w o

module _ (g : Given) (p : List ℕ) (w : World) where
  -- and what it leaves
  abbrev Goes : Out → Type 0
  Goes o = Turned g p w o × Headed o.w

  finishes_headed : (v : World) → Headed v → Headed (finishes g.lent v).w
  unfolding finishes settled replied
  finishes_headed v h =
      picked Headed (eqb v.e.up.burn 0) (settled_by v (flushing g.lent (dev_of v))) v (λ _. record { room = h.room; header = h.header }) (λ _. h)

  -- a command, which leaves no frame
  answers_headed : (c n : ℕ) → length w.request ≡ 8208 → Headed (answered c (makes g p w c n)).w
  unfolding ends replied
  answers_headed c n h =
      let k = (runs_tidy g c (take n (drop 16 (gathered p w))) (finds p w c)).keeps in
      let q : length (makes g p w c n).w.request ≡ 8208 = ap length k.request ∙ length-sets w.request w.e.frame.len p ∙ h in
      idle (makes g p w c n).w.e.frame (makes g p w c n).w.request q (ap (λ (f : Frame). f.total) k.frame)

  -- a frame with a piece laid in, of so many bytes
  abbrev part : Frame → World
  part f = at_e (record { frame = f; said = w.e.said; up = w.e.up; upgrading = w.e.upgrading; asked = w.e.asked; base = w.e.base; store = w.e.store }) (grown w p)

  exec_goes : (f : Frame) → length w.request ≡ 8208 → next_of (gathered p w) ≡ Total f.total → Goes (execs g (part f))
  unfolding execs performs
  exec_goes f h e = go (ordered (gathered p w) f.total (length-sets w.request w.e.frame.len p ∙ h) e)
    where
      go : Ordered (gathered p w) f.total → Goes (exec_by g (part f) (order_of (take f.total (gathered p w))))
      go o =
          let c = get_or (gathered p w) 6 0 in
          rw o.order (executes c (get_or (gathered p w) 7 0) o.n o.says o.other refl, answers_headed c o.n h)

  ripens_goes : (f : Frame) → length w.request ≡ 8208 → 16 ≤ f.len → next_of (gathered p w) ≡ Total f.total → Goes (ripens g (part f))
  unfolding ripens
  ripens_goes f h l e =
      picked Goes (ltb f.len f.total) (out_of 0 (part f)) (execs g (part f))
      (λ _. (waits refl (refl, refl), record { room = length-sets w.request w.e.frame.len p ∙ h; header = λ n. (l, e) }))
      (λ _. exec_goes f h e)

  -- the room keeps its size, so without a frame nothing is asked of it
  no_frame : (f : Frame) → length w.request ≡ 8208 → f.total ≡ 0 → HeadedBy f (gathered p w)
  no_frame f h e = idle f (gathered p w) (length-sets w.request w.e.frame.len p ∙ h) e

  begins_goes : (n : ℕ) → length w.request ≡ 8208 → get_or (gathered p w) 6 0 ≡ 0x12 → Goes (begins g.lent n (part (record { len = 0; total = 0 })))
  unfolding begins ends replied
  begins_goes n h e =
      let v = part (record { len = 0; total = 0 }) in
      let u = at_e (with_up (started n w.e.up) v.e) v in
      let k = no_frame (record { len = 0; total = 0 }) h refl in
      picked Goes w.e.up.valid (streamed_by g.lent u) (ends 0x12 fail v)
      (λ _. picked Goes (eqb n 0) (finishes g.lent u) (out_of 0 u) (λ _. (ends_empty u refl refl refl, finishes_headed u k)) (λ _. (waits refl (refl, refl), k)))
      (λ a. (refuses_stream e a v refl, k))

  heads_goes : length w.request ≡ 8208 → Goes (heads g (grown w p))
  unfolding heads
  heads_goes h = go (next_of (gathered p w)) refl
    where
      asks : Asked (gathered p w) (next_of (gathered p w))
      asks = next_asked (gathered p w) (rw length-sets (omega arith))

      go : (x : Next) → next_of (gathered p w) ≡ x → Goes (headed_by g (grown w p) x)
      go Refused e = (refuses_header refl (refl, refl) (subst (Asked (gathered p w)) e asks), no_frame (record { len = 0; total = 0 }) h refl)
      go (Send n) e = begins_goes n h (subst (Asked (gathered p w)) e asks)
      go (Total t) e = ripens_goes (record { len = 16; total = t }) h (omega arith) e

  -- the header stays as it is while data are laid behind it
  next_stays : length w.request ≡ 8208 → 16 ≤ w.e.frame.len → next_of (gathered p w) ≡ next_of w.request
  next_stays h i = ap next_by (parsed_laid w.request w.e.frame.len p (omega arith) i)

  gathers_goes : Headed w → Goes (gathers g p w)
  unfolding gathers fills
  gathers_goes h =
      let v = grown w p in
      let f = w.e.frame in
      picked Goes (eqb f.total 0) (cond (ltb (f.len + length p) 16) (out_of 0 v) (heads g v)) (ripens g v)
      (λ a. picked Goes (ltb (f.len + length p) 16) (out_of 0 v) (heads g v)
      (λ _. (waits refl (refl, refl), no_frame v.e.frame h.room (eqb-true f.total 0 a))) (λ _. heads_goes h.room))
      (λ a. let k = h.header (eqb-false f.total 0 a) in ripens_goes v.e.frame h.room (omega (arith, k.0)) (next_stays h.room k.0 ∙ k.1))

  fed_keeps : Headed w → SameReply w (fed g.lent p w) × Headed (fed g.lent p w)
  unfolding fed
  fed_keeps h =
      picked (λ (v : World). SameReply w v × Headed v) w.e.up.aimed (fed_by w p (writing g.lent (w.e.up.target + w.e.up.written) p (dev_of w)))
      (at_e (with_up (taken p (length p) w.e.up) w.e) w) (λ _. ((refl, refl), record { room = h.room; header = h.header }))
      (λ _. ((refl, refl), record { room = h.room; header = h.header }))

  streams_goes : Headed w → Goes (streams g.lent p w)
  unfolding streams
  streams_goes h =
      let v = fed g.lent p w in
      let k = fed_keeps h in
      picked Goes (eqb v.e.up.left 0) (finishes g.lent v) (out_of 0 v) (λ _. (ends_stream refl, finishes_headed v k.1)) (λ _. (waits refl k.0, k.1))

  -- every turn comes to one of these, and keeps the header
  pub turned : Headed w → Turned g p w (turns g p w) × Headed (turns g p w).w
  unfolding turns
  turned h = picked Goes (eqb w.e.up.left 0) (gathers g p w) (streams g.lent p w) (λ _. gathers_goes h) (λ _. streams_goes h)
