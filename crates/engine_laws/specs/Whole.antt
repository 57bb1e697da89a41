-- A whole frame from between frames. With nothing gathered and no stream open, the sixteen bytes of a header and the data behind them
-- are the command run on its data (`frame_done`), and any front of them that is not all of it is only gathered (`frame_front`): it has
-- status 0, and leaves the update record, the waiting reply, scratch and the storage as they were.
use Rattle.std.specs.Prelude.{◌≡◌, Bool, ℕ, ◌+◌, ◌-◌, ◌%◌, ◌^◌, ◌≤◌, ◌<◌, leb, ltb, take, drop}
use Rattle.std.proofs.Math.Path.{refl, sym, ap}
use Rattle.std.proofs.Common.{Option, None, Some, ◌∙◌, le-leb, eqb-true, ne_eqb, lt-ltb, le-ltb, ltb-true, ltb-false, drop_of_length-le, take-append-drop, take_all, take_at, drop_at}
use Rattle.std.proofs.Math.Bool.{true, false, cond}
use mathlib.Core.List.{List, [], ◌∷◌, ◌++◌, append-nil, append_assoc}
use native.Mathlib.Omega.{arith}
use Rattle.std.proofs.Math.Dec.{eqb}
use Rattle.std.proofs.Math.ListN.{length, length-append}
use Rattle.std.proofs.Math.Seq.{sets, length-sets}
use Rattle.std.proofs.lemmas.List.{take-append-le, drop-append-le}
use Rattle.std.proofs.lemmas.List.Edits.{sets-eq}
use Rattle.wire.specs.Header.{request_of, parsed}
use Rattle.wire.specs.declared.header.Header.{Header}
use Rattle.engine.specs.declared.frame.Next.TheVariants.{Refused, Send, Total}
use Rattle.engine.specs.declared.types.Frame.{Frame}
use Rattle.engine.specs.declared.types.Said.{Said}
use Rattle.engine.specs.World.{Given, World, world, with_frame, with_said, emptied, at_e, Out, out_of}
use Rattle.engine.specs.Exec.{runs, order_by, begun, answered, performs, exec_by, execs}
use Rattle.engine.specs.Frame.{next_by, next_of, framed, ripens, headed_by, heads, grown, fills, gathers}
use Rattle.engine.specs.Feed.{want_by, want_of, turns, cut_of, then_by, feeds}
use Rattle.engine.proofs.Feeds.{feed_step, feed_nil, turn_frame}
use Rattle.engine_laws.specs.Cut.{want_less, fills_short, short_alone, cut_unaimed}
use Rattle.engine_laws.specs.Front.{parsed_front, front_laid}

-- the world with another place in the waiting reply
abbrev pub at_said : Said → World → World
at_said s w = at_e (with_said s w.e) w

-- the world with other bytes in the request room
abbrev pub at_request : List ℕ → World → World
at_request q w = world w.e q w.reply w.chip w.buffer w.scratch

-- the world between frames
abbrev pub emptied_at : World → World
emptied_at w = at_e (emptied w.e) w

-- between frames a world is as if its request were emptied
pub between_is : (v : World) → v.e.frame ≡ record { len = 0; total = 0 } → emptied_at v ≡ v
between_is v e = ap (λ (x : Frame). at_e (with_frame x v.e) v) (sym e)

-- ---- turns

module _ (g : Given) where
  turn_is : (d : List ℕ) (w : World) → w.e.up.left ≡ 0 → turns g d w ≡ fills g (grown w d)
  unfolding gathers
  turn_is d w h = sym (turn_frame g d w h refl)

  -- bytes that do not fill what is wanted are gathered
  pub gathers_on : (w : World) (a : List ℕ) → w.e.up.left ≡ 0 → 0 < length a → length a < want_by 0 w.e.frame → feeds g w a ≡ out_of 0 (grown w a)
  gathers_on w a z h i =
      let k : want_of w.e ≡ want_by 0 w.e.frame = ap (λ (n : ℕ). want_by n w.e.frame) z in
      let t : turns g a w ≡ out_of 0 (grown w a) = turn_is a w z ∙ fills_short g (grown w a) (omega (arith, want_less w.e.frame (length a))) in
      short_alone g w a h (omega arith) (ap (λ (o : Out). o.status) t) ∙ ap (λ (o : Out). out_of 0 o.w) t

  -- no bytes behind a turn change nothing
  pub then_nil : (o : Out) → then_by o (λ (v : World). feeds g v []) ≡ o
  unfolding then_by
  then_nil o = go (eqb o.status 0) refl
    where
      go : (b : Bool) → eqb o.status 0 ≡ b → cond b (feeds g o.w []) o ≡ o
      go true e = feed_nil g o.w ∙ ap (λ (n : ℕ). out_of n o.w) (sym (eqb-true o.status 0 e))
      go false e = refl

  -- bytes that do are one turn
  pub turns_whole : (w : World) (a : List ℕ) → w.e.up.left ≡ 0 → 0 < length a → length a ≡ want_by 0 w.e.frame → feeds g w a ≡ fills g (grown w a)
  turns_whole w a z h i =
      let k : want_of w.e ≡ want_by 0 w.e.frame = ap (λ (n : ℕ). want_by n w.e.frame) z in
      feed_step g w a h
      ∙ rw (take_all (cut_of w) a (omega arith), drop_of_length-le a {i = cut_of w} (omega arith)) (then_nil (turns g a w))
      ∙ turn_is a w z

-- ---- the header

module _ (g : Given) (w : World) (z : w.e.up.left ≡ 0) (h : List ℕ) (n : length h ≡ 16) (r : 16 ≤ length w.request) where
  fills_header : fills g (grown (emptied_at w) h) ≡ heads g (grown (emptied_at w) h)
  unfolding fills
  fills_header =
      ap (λ (b : Bool). cond b (out_of 0 (grown (emptied_at w) h)) (heads g (grown (emptied_at w) h))) (le-ltb (0 + length h) 16 (omega arith))

  want_header : want_by 0 (emptied_at w).e.frame ≡ 16
  want_header = refl

  -- between frames sixteen bytes are a header, and it is judged
  pub header_done : feeds g (emptied_at w) h ≡ headed_by g (grown (emptied_at w) h) (next_of h)
  unfolding heads
  header_done =
      turns_whole g (emptied_at w) h z (omega arith) (n ∙ sym want_header) ∙ fills_header
      ∙ ap (headed_by g (grown (emptied_at w) h)) (front_laid w.request h n r)

-- ---- a frame of a command

-- the request room with a header and data at its front
abbrev pub roomed : List ℕ → List ℕ → List ℕ → List ℕ
roomed room h m = sets (sets room 0 h) 16 m

module _ (room h m : List ℕ) (n : length h ≡ 16) (r : 16 + length m ≤ length room) where
  abbrev rest : List ℕ
  rest = drop (16 + length m) (sets room 0 h)

  roomed_is : roomed room h m ≡ (h ++ m) ++ rest
  roomed_is =
      let k : 0 + length h ≡ 16 = omega arith in
      let a : sets room 0 h ≡ h ++ drop 16 room = sets-eq h room 0 (omega arith) ∙ ap (λ (j : ℕ). h ++ drop j room) k in
      let b : take 16 (sets room 0 h) ≡ h = ap (take 16) a ∙ take_at h (drop 16 room) 16 n in
      sets-eq m (sets room 0 h) 16 (rw length-sets r) ∙ ap (λ (l : List ℕ). (l ++ m) ++ rest) b

  roomed_front : take (16 + length m) (roomed room h m) ≡ h ++ m
  roomed_front = ap (take (16 + length m)) roomed_is ∙ take_at (h ++ m) rest (16 + length m) (length-append h m ∙ ap (λ (k : ℕ). k + length m) n)

  roomed_data : take (length m) (drop 16 (roomed room h m)) ≡ m
  roomed_data =
      ap (λ (l : List ℕ). take (length m) (drop 16 l)) (roomed_is ∙ append_assoc h m rest)
      ∙ ap (take (length m)) (drop_at h (m ++ rest) 16 n) ∙ take_at m rest (length m) refl

module _ (g : Given) (w : World) (z : w.e.up.left ≡ 0) (h m : List ℕ) (n : length h ≡ 16) (r : 16 + length m ≤ length w.request) (c s : ℕ)
    (p : parsed h ≡ request_of c s (length m)) (o : c ≡ 0x12 → ⊥) (t : length m ≤ 8192) where
  next_is : next_of h ≡ Total (16 + length m)
  next_is =
      ap next_by p ∙ ap (λ (b : Bool). cond b (Send (length m % 2 ^ 32)) (cond (leb (length m) 8192) (Total (16 + length m)) Refused)) (ne_eqb c 0x12 o)
      ∙ ap (λ (b : Bool). cond b (Total (16 + length m)) Refused) (le-leb (length m) 8192 t)

  -- the header stands, and the data are awaited
  abbrev headed : World
  headed = framed 16 (16 + length m) (grown (emptied_at w) h)

  -- the whole frame stands
  abbrev ripe : World
  ripe = framed (16 + length m) (16 + length m) (at_request (roomed w.request h m) w)

  header_is : feeds g (emptied_at w) h ≡ ripens g headed
  header_is = header_done g w z h n (omega arith) ∙ ap (headed_by g (grown (emptied_at w) h)) next_is

  header_waits : 0 < length m → feeds g (emptied_at w) h ≡ out_of 0 headed
  unfolding ripens
  header_waits i = header_is ∙ ap (λ (b : Bool). cond b (out_of 0 headed) (execs g headed)) (lt-ltb 16 (16 + length m) (omega arith))

  want_data : want_by 0 headed.e.frame ≡ length m
  want_data = ap (λ (b : Bool). cond b (16 - 16) (16 + length m - 16)) (ne_eqb (16 + length m) 0 (λ e. omega arith)) ∙ omega arith

  ripe_execs : ripens g ripe ≡ execs g ripe
  unfolding ripens
  ripe_execs = ap (λ (b : Bool). cond b (out_of 0 ripe) (execs g ripe)) (le-ltb (16 + length m) (16 + length m) (omega arith))

  fills_data : fills g ripe ≡ ripens g ripe
  unfolding fills
  fills_data = ap (λ (b : Bool). cond b (cond (ltb (16 + length m) 16) (out_of 0 ripe) (heads g ripe)) (ripens g ripe)) (ne_eqb (16 + length m) 0 (λ e. omega arith))

  execs_done : execs g ripe ≡ answered c (runs g c m (at_e (begun c w.e) (at_request (roomed w.request h m) w)))
  unfolding execs performs
  execs_done =
      let q = roomed w.request h m in
      let l : length (h ++ m) ≡ 16 + length m = length-append h m ∙ ap (λ (k : ℕ). k + length m) n in
      ap (λ (f : List ℕ). exec_by g ripe (order_by f (parsed f))) (roomed_front w.request h m n r)
      ∙ ap (λ (x : Option Header). exec_by g ripe (order_by (h ++ m) x)) (parsed_front h m n ∙ p)
      ∙ ap (λ (b : Bool). exec_by g ripe (cond {A = Option (ℕ × ℕ)} b (Some (c, length m)) None)) (le-leb (16 + length m) (length (h ++ m)) (omega arith))
      ∙ ap (λ (d : List ℕ). answered c (runs g c d (at_e (begun c w.e) (at_request q w)))) (roomed_data w.request h m n r)

  -- the data of a frame, or none
  data_done : (d : List ℕ) → d ≡ m → feeds g (emptied_at w) (h ++ d) ≡ execs g ripe
  data_done [] e =
      ap (feeds g (emptied_at w)) (append-nil h) ∙ header_is
      ∙ ap (λ (d : List ℕ). ripens g (framed (16 + length d) (16 + length m) (at_request (roomed w.request h d) w))) e ∙ ripe_execs
  data_done (x ∷ xs) e =
      let i : 0 < length m = omega (arith, ap length e) in
      let k = header_waits i in
      ap (λ (d : List ℕ). feeds g (emptied_at w) (h ++ d)) e
      ∙ cut_unaimed g (emptied_at w) h m (ap (λ (v : Out). v.status) k) (λ f. absurd (f (ap (λ (v : Out). v.w.e.up.left) k ∙ z)))
      ∙ ap (λ (v : Out). feeds g v.w m) k
      ∙ turns_whole g headed m z i (sym want_data)
      ∙ fills_data
      ∙ ripe_execs

  -- THE LAW: between frames, a header and the data that it tells of are the command run on its data, and answered
  pub frame_done : feeds g (emptied_at w) (h ++ m) ≡ answered c (runs g c m (at_e (begun c w.e) (at_request (roomed w.request h m) w)))
  frame_done = data_done m refl ∙ execs_done

-- ---- a front of a frame

-- where two ways to cut the same bytes overlap
pub lead : (a b h m : List ℕ) → a ++ b ≡ h ++ m → length h ≤ length a → (a ≡ h ++ drop (length h) a) × (drop (length h) a ++ b ≡ m)
lead a b h m e i =
    let t : take (length h) a ≡ h = sym (take-append-le (length h) a b i) ∙ ap (take (length h)) e ∙ take_at h m (length h) refl in
    let d : drop (length h) a ++ b ≡ m = sym (drop-append-le (length h) a b i) ∙ ap (drop (length h)) e ∙ drop_at h m (length h) refl in
    (sym (take-append-drop (length h) a) ∙ ap (λ (l : List ℕ). l ++ drop (length h) a) t, d)

-- bytes were only gathered: the request and its lengths are others, all else is as it was
abbrev pub gathered : Frame → List ℕ → World → Out
gathered f q w = out_of 0 (at_e (with_frame f w.e) (at_request q w))

-- so they are, in the same way wherever the waiting reply is read to
abbrev pub Gathers : Given → List ℕ → World → Type 0
Gathers g a w = (f : Frame) × (q : List ℕ) × ((s : Said) → feeds g (emptied_at (at_said s w)) a ≡ gathered f q (at_said s w))

module _ (g : Given) (w : World) (z : w.e.up.left ≡ 0) where
  -- a part of a header is
  pub header_front : (a : List ℕ) → length a < 16 → Gathers g a w
  header_front [] i = (record { len = 0; total = 0 }, w.request, λ s. feed_nil g (emptied_at (at_said s w)))
  header_front (x ∷ xs) i =
      let a = x ∷ xs in
      (record { len = 0 + length a; total = 0 }, sets w.request 0 a, λ s. gathers_on g (emptied_at (at_said s w)) a z (omega arith) i)

  module _ (h m : List ℕ) (n : length h ≡ 16) (r : 16 + length m ≤ length w.request) (c k : ℕ)
      (p : parsed h ≡ request_of c k (length m)) (o : c ≡ 0x12 → ⊥) (t : length m ≤ 8192) where
    data_front : (a b : List ℕ) → a ++ b ≡ m → 0 < length b → (s : Said)
        → feeds g (headed g (at_said s w) z h m n r c k p o t) a ≡ gathered (record { len = 16 + length a; total = 16 + length m }) (roomed w.request h a) (at_said s w)
    data_front [] b e i s = feed_nil g (headed g (at_said s w) z h m n r c k p o t)
    data_front (x ∷ xs) b e i s =
        let l : length (x ∷ xs) + length b ≡ length m = sym (length-append (x ∷ xs) b) ∙ ap length e in
        gathers_on g (headed g (at_said s w) z h m n r c k p o t) (x ∷ xs) z (omega arith) (omega (arith, want_data g (at_said s w) z h m n r c k p o t))

    -- and so is any front of a frame that is not all of it
    pub frame_front : (a b : List ℕ) → a ++ b ≡ h ++ m → 0 < length b → Gathers g a w
    frame_front a b e i = go (ltb (length a) 16) refl
      where
        go : (u : Bool) → ltb (length a) 16 ≡ u → Gathers g a w
        go true j = header_front a (ltb-true (length a) 16 j)
        go false j =
            let y = ltb-false (length a) 16 j in
            let d = lead a b h m e (omega arith) in
            let v = drop (length h) a in
            let l : length v + length b ≡ length m = sym (length-append v b) ∙ ap length d.1 in (
              record { len = 16 + length v; total = 16 + length m },
              roomed w.request h v,
              λ s.
                  let x = at_said s w in
                  let k = header_waits g x z h m n r c k p o t (omega arith) in
                  ap (feeds g (emptied_at x)) d.0
                  ∙ cut_unaimed g (emptied_at x) h v (ap (λ (v : Out). v.status) k) (λ f. absurd (f (ap (λ (v : Out). v.w.e.up.left) k ∙ z)))
                  ∙ ap (λ (u : Out). feeds g u.w v) k
                  ∙ data_front v b d.1 i s,
            )
