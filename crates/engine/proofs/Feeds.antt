-- Turn after turn: a write's first piece and then the rest.
use Rattle.std.proofs.Common.{◌≡◌, ℕ, zero, suc, ◌-◌, ◌<◌, ◌≤◌, min, Bool, true, false, cond, eqb, List, [], ◌∷◌, length, take, drop, sym, refl, ap, ◌∙◌, arith, length-drop, length-take, eqb-true, eq-eqb, ne_eqb}
use borrow.Author.Tests.{eqb-false}
use Rattle.std.proofs.lemmas.List.{take_min, drop_min, nil_from_length}
use Rattle.storage.specs.World.{call_number}
use Rattle.storage.specs.declared.types.CallError.{CallError}
use Rattle.storage.specs.declared.types.CallError.TheVariants.{Failed, Refused}
use Rattle.engine.specs.declared.rooms.Rooms.{Rooms}
use Rattle.engine.specs.World.{Given, World, Out, out_of, KeepsRooms}
use Rattle.engine.specs.Frame.{gathers}
use Rattle.engine.specs.Stream.{streams}
use Rattle.engine.specs.Feed.{Fit, want_of, turns, cut_of, then_by, goes, feeds}
use Rattle.engine.proofs.Fits.{want_some, turn_fit}

module _ (g : Given) where
  goes_nil : (k : ℕ) (w : World) → goes g k w [] ≡ out_of 0 w
  unfolding goes
  goes_nil zero w = refl
  goes_nil (suc k) w = refl

  goes_cons : (k : ℕ) (w : World) (b : ℕ) (bs : List ℕ)
      → goes g (suc k) w (b ∷ bs) ≡ then_by (turns g (take (cut_of w) (b ∷ bs)) w) (λ v. goes g k v (drop (want_of w.e - 1) bs))
  unfolding goes
  goes_cons k w b bs = refl

  then_same : (o : Out) (k m : World → Out) → ((v : World) → k v ≡ m v) → then_by o k ≡ then_by o m
  unfolding then_by
  then_same o k m h = ap (λ (x : Out). cond (eqb o.status 0) x o) (h o.w)

  abbrev Same : ℕ → Type 0
  Same k = (m : ℕ) (v : World) (d : List ℕ) → length d ≤ k → length d ≤ m → goes g k v d ≡ goes g m v d

  same_zero : Same zero
  same_zero m w [] h i = goes_nil zero w ∙ sym (goes_nil m w)
  same_zero m w (b ∷ bs) h i = absurd (omega arith)

  same_suc : (k : ℕ) → Same k → Same (suc k)
  same_suc k r m w [] h i = goes_nil (suc k) w ∙ sym (goes_nil m w)
  same_suc k r zero w (b ∷ bs) h i = absurd (omega arith)
  same_suc k r (suc m) w (b ∷ bs) h i =
      goes_cons k w b bs
      ∙ then_same (turns g (take (cut_of w) (b ∷ bs)) w) _ _
      (λ v. r m v (drop (want_of w.e - 1) bs) (simp length-drop (omega arith)) (simp length-drop (omega arith)))
      ∙ sym (goes_cons m w b bs)

  -- a larger bound than there are bytes changes nothing
  goes_fuel : (k : ℕ) → Same k
  goes_fuel zero = same_zero
  goes_fuel (suc k) = same_suc k (goes_fuel k)

  -- the first piece, and then the rest
  pub feed_step : (w : World) (d : List ℕ) → 0 < length d → feeds g w d ≡ then_by (turns g (take (cut_of w) d) w) (λ v. feeds g v (drop (cut_of w) d))
  unfolding feeds
  feed_step w [] h = absurd (omega arith)
  feed_step w (b ∷ bs) h =
      goes_cons (length bs) w b bs
      ∙ then_same (turns g (take (cut_of w) (b ∷ bs)) w) _ _
      (λ v. goes_fuel (length bs) (length (drop (want_of w.e - 1) bs)) v (drop (want_of w.e - 1) bs) (simp length-drop (omega arith)) (omega arith))

  pub feed_nil : (w : World) → feeds g w [] ≡ out_of 0 w
  unfolding feeds
  feed_nil w = goes_nil zero w

  pub then_go : (o : Out) (k : World → Out) → o.status ≡ 0 → then_by o k ≡ k o.w
  unfolding then_by
  then_go o k h = ap (λ (t : Bool). cond t (k o.w) o) (eq-eqb o.status 0 h)

  pub then_stop : (o : Out) (k : World → Out) → (o.status ≡ 0 → ⊥) → then_by o k ≡ o
  unfolding then_by
  then_stop o k h = ap (λ (t : Bool). cond t (k o.w) o) (ne_eqb o.status 0 h)

  -- ---- one turn of the loop

  -- it takes what is wanted, or all that is left, and leaves a world that fits
  pub feed_turn : (w : World) (d : List ℕ) → 0 < length d → {k : ℕ} → k ≡ min (want_of w.e) (length d) → Fit w
      → feeds g w d ≡ then_by (turns g (take k d) w) (λ v. feeds g v (drop k d))
  feed_turn w d h {k} e f =
      let n = want_of w.e in
      let some = want_some w f in
      let c : suc (n - 1) ≡ n = omega arith in
      let t : take (cut_of w) d ≡ take k d = ap (λ (m : ℕ). take m d) c ∙ sym (take_min n d) ∙ ap (λ (m : ℕ). take m d) (sym e) in
      let r : drop (cut_of w) d ≡ drop k d = ap (λ (m : ℕ). drop m d) c ∙ sym (drop_min n d) ∙ ap (λ (m : ℕ). drop m d) (sym e) in
      feed_step w d h ∙ rw (r, t)

  pub feed_fit : (w : World) (d : List ℕ) {k : ℕ} → k ≡ min (want_of w.e) (length d) → Fit w → Fit (turns g (take k d) w).w
  feed_fit w d {k} e f = let z = length-take k d in turn_fit g (take k d) w (omega arith) f

-- ---- a turn, as the code goes

module _ (g : Given) (p : List ℕ) (w : World) where
  turn_is : (b : Bool) → eqb w.e.up.left 0 ≡ b → turns g p w ≡ cond b (gathers g p w) (streams g.lent p w)
  unfolding turns
  turn_is b h = ap (λ (b : Bool). cond b (gathers g p w) (streams g.lent p w)) h

  pub turn_frame : w.e.up.left ≡ 0 → {o : Out} → o ≡ gathers g p w → o ≡ turns g p w
  turn_frame h q = q ∙ sym (turn_is true (eq-eqb w.e.up.left 0 h))

  pub turn_stream : (w.e.up.left ≡ 0 → ⊥) → streams g.lent p w ≡ turns g p w
  turn_stream h = sym (turn_is false (ne_eqb w.e.up.left 0 h))

-- ---- the loop

-- what is left gives the same answer, in the same rooms
pub record Going (g : Given) (w : World) (d : List ℕ) (v : World) (rest : List ℕ) (old new : Rooms) : Type 0 where
  pub fit : Fit v
  pub rooms : KeepsRooms old new
  pub same : feeds g v rest ≡ feeds g w d

-- over two steps
rooms_on : (a b c : Rooms) → KeepsRooms a b → KeepsRooms b c → KeepsRooms a c
rooms_on a b c h k =
    record { reply = k.reply ∙ h.reply; chip = k.chip ∙ h.chip; buffer = k.buffer ∙ h.buffer; scratch = k.scratch ∙ h.scratch }

module _ (g : Given) (w : World) (d : List ℕ) (v : World) (rest : List ℕ) (old new : Rooms) (h : Going g w d v rest old new) where
  pub going_end : length rest ≡ 0 → out_of 0 v ≡ feeds g w d
  going_end e = sym (feed_nil g v) ∙ ap (feeds g v) (sym (nil_from_length rest e)) ∙ h.same

  -- a turn
  module _ (some : 0 < length rest) {n k : ℕ} {p r : List ℕ} (a : n ≡ want_of v.e) (b : k ≡ min n (length rest)) (p_is : p ≡ take k rest) (r_is : r ≡ drop k rest)
      {s : ℕ} {u : World} (t : out_of s u ≡ turns g p v) where
    cut : k ≡ min (want_of v.e) (length rest)
    cut = b ∙ ap (λ (m : ℕ). min m (length rest)) a

    turned : out_of s u ≡ turns g (take k rest) v
    turned = t ∙ ap (λ (x : List ℕ). turns g x v) p_is

    step : feeds g v rest ≡ then_by (out_of s u) (λ z. feeds g z r)
    step = feed_turn g v rest some cut h.fit ∙ rw (← turned, ← r_is)

    pub going_stop : (s ≡ 0 → ⊥) → out_of s u ≡ feeds g w d
    going_stop e = sym (then_stop g (out_of s u) (λ z. feeds g z r) e) ∙ sym step ∙ h.same

    pub going_on : s ≡ 0 → {next : Rooms} → KeepsRooms new next → Going g w d u r old next
    going_on e {next} q =
        record {
          fit = rw (← turned) at (feed_fit g v rest cut h.fit);
          rooms = rooms_on old new next h.rooms q;
          same = sym (then_go g (out_of s u) (λ z. feeds g z r) e) ∙ sym step ∙ h.same;
        }

-- a call that failed has a status
pub failed_some : (e : CallError) → call_number e ≡ 0 → ⊥
failed_some Failed h = absurd (omega arith)
failed_some Refused h = absurd (omega arith)

-- what the loop's test says
pub some_left : (d : List ℕ) {b : Bool} → b ≡ eqb (length d) 0 → b ≡ false → 0 < length d
some_left d p q = let i = eqb-false (length d) 0 (sym p ∙ q) in omega arith

pub none_left : (d : List ℕ) {b : Bool} → b ≡ eqb (length d) 0 → b ≡ true → length d ≡ 0
none_left d p q = eqb-true (length d) 0 (sym p ∙ q)
