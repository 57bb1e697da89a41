-- The exported calls, case by case, as the code goes.
use mathlib.Core.Path.{◌≡◌, refl, sym, ap, ◌∙◌}
use mathlib.Core.Bool.{Bool, true, false}
use mathlib.Core.List.{List, ◌++◌}
use Rattle.std.specs.Prelude.{Result, Ok}
use Rattle.std.specs.Int.{from_bool}
use Prim.Native.Nat.{ℕ, ◌-◌, ◌^◌, ◌≤◌, ◌<◌}
use Rattle.std.proofs.lemmas.Bool.{cond-true, cond-false}
use borrow.Author.Tests.{le-leb, lt-leb, ne_eqb}
use lib.ListN.{length, replicate}
use Rattle.wire.specs.Bytes.{laid}
use Rattle.engine.specs.declared.types.Engine.{Engine}
use Rattle.engine.specs.World.{Given, world, Out}
use Rattle.engine.specs.Api.{Opening, opening, writes, cleared}
use Rattle.storage.specs.declared.types.Refusal.{Refusal}
use Rattle.lamjhotu.specs.State.{flag_of, pack_over, unpack_of}
use Rattle.lamjhotu.proofs.Fronts.{kept_front, zeros_front, zeros_long}
use Rattle.lamjhotu.specs.Calls.{Told, told, kept, open_by, opens, saved_by, Wrote, wrote, wrote_by, writes_in, took, reads_in, resets, upgrading_of, asked_of}

-- ---- openings

module _ (s : List ℕ) where
  pub open_short : (o : Opening) → length s < 652 → told 9 s ≡ opens s o
  unfolding opens
  open_short o h = sym (cond-false _ _ _ (lt-leb 652 (length s) h))

  pub open_long : {o w : Opening} {z : List ℕ} → 652 ≤ length s → z ≡ s → o ≡ w → {t : Told} → t ≡ open_by z o → t ≡ opens s w
  unfolding opens
  open_long {o} h i q r = r ∙ ap (λ (z : List ℕ). open_by z o) i ∙ ap (open_by s) q ∙ sym (cond-true _ _ _ (le-leb 652 (length s) h))

  -- a record packed over zeros, at the front of longer bytes
  pub opened_front : (t : List ℕ) → length s ≡ 652 → (e : Engine) {q p : List ℕ} {o : Result Engine Refusal} → length p ≡ 652 → o ≡ Ok e → q ≡ laid s 0 (replicate 140 0) → p ≡ pack_over q e
      → told 0 (p ++ t) ≡ open_by (s ++ t) (opening o)
  opened_front t h e {q} i j k l =
      rw j
      (ap (told 0) (kept_front q t (ap length k ∙ zeros_long s t h) e i l ∙ ap (λ (z : List ℕ). kept z e) (ap (λ (z : List ℕ). z ++ t) k ∙ zeros_front s t h)))

-- ---- write

module _ (s : List ℕ) (n : ℕ) (e : Engine) where
  pub saved_yes : {p : List ℕ} → (n ≡ 9 → ⊥) → p ≡ kept s e → told n p ≡ saved_by s n e
  saved_yes h q = ap (told n) (q ∙ sym (cond-false _ _ _ (ne_eqb n 9 h)))

module _ (g : Given) (s q p c b x d : List ℕ) where
  pub write_short : length s < 652 → wrote 9 s q p c b x ≡ writes_in g s q p c b x d
  unfolding writes_in
  write_short h = sym (cond-false _ _ _ (lt-leb 652 (length s) h))

  pub write_long : 652 ≤ length s → {e : Engine} → e ≡ unpack_of s → {o : Out} → o ≡ writes g (world e q p c b x) d → {m n : ℕ} {t : List ℕ}
      → m ≡ o.status → told n t ≡ saved_by s m o.w.e
      → wrote n t o.w.request o.w.reply o.w.chip o.w.buffer o.w.scratch ≡ writes_in g s q p c b x d
  unfolding writes_in
  write_long h i {o} j l k =
      ap (λ (t : Told). wrote t.number t.state o.w.request o.w.reply o.w.chip o.w.buffer o.w.scratch) (k ∙ ap (λ (m : ℕ). saved_by s m o.w.e) l)
      ∙ ap (wrote_by s) (j ∙ ap (λ (e : Engine). writes g (world e q p c b x) d) i)
      ∙ sym (cond-true _ _ _ (le-leb 652 (length s) h))

  -- a write of the same bytes
  pub write_same : {z : List ℕ} → z ≡ s → {w : Wrote} → w ≡ writes_in g z q p c b x d → w ≡ writes_in g s q p c b x d
  write_same i r = r ∙ ap (λ (z : List ℕ). writes_in g z q p c b x d) i

-- ---- read

module _ (g : Given) (s q p c b x room : List ℕ) where
  pub read_short : length s < 652 → took (2 ^ 32 - 1) s room ≡ reads_in g s q p c b x room
  unfolding reads_in
  read_short h = sym (cond-false _ _ _ (lt-leb 652 (length s) h))

-- ---- reset and the flags

flag_is : (b : Bool) → from_bool b ≡ flag_of b
flag_is true = refl
flag_is false = refl

module _ (s : List ℕ) where
  pub reset_short : length s < 652 → told 9 s ≡ resets s
  unfolding resets
  reset_short h = sym (cond-false _ _ _ (lt-leb 652 (length s) h))

  pub reset_long : 652 ≤ length s → {e f : Engine} → e ≡ unpack_of s → f ≡ cleared e → {p : List ℕ} → p ≡ kept s f → told 0 p ≡ resets s
  unfolding resets
  reset_long h i j k = ap (told 0) (k ∙ ap (kept s) (j ∙ ap cleared i)) ∙ sym (cond-true _ _ _ (le-leb 652 (length s) h))

  pub upgrading_short : length s < 652 → 9 ≡ upgrading_of s
  unfolding upgrading_of
  upgrading_short h = sym (cond-false _ _ _ (lt-leb 652 (length s) h))

  pub upgrading_long : 652 ≤ length s → {e : Engine} → e ≡ unpack_of s → {b : Bool} → b ≡ e.upgrading → {n : ℕ} → n ≡ from_bool b → n ≡ upgrading_of s
  unfolding upgrading_of
  upgrading_long h i {b} j k = k ∙ flag_is b ∙ ap flag_of (j ∙ ap (λ (e : Engine). e.upgrading) i) ∙ sym (cond-true _ _ _ (le-leb 652 (length s) h))

  pub asked_short : length s < 652 → 9 ≡ asked_of s
  unfolding asked_of
  asked_short h = sym (cond-false _ _ _ (lt-leb 652 (length s) h))

  pub asked_long : 652 ≤ length s → {e : Engine} → e ≡ unpack_of s → {b : Bool} → b ≡ e.asked → {n : ℕ} → n ≡ from_bool b → n ≡ asked_of s
  unfolding asked_of
  asked_long h i {b} j k = k ∙ flag_is b ∙ ap flag_of (j ∙ ap (λ (e : Engine). e.asked) i) ∙ sym (cond-true _ _ _ (le-leb 652 (length s) h))
