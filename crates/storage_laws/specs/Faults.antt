-- Chip calls of a NOR that are told to fail. One that is met fails what it is part of; and where no call from a number on is told to
-- fail, none is met from there on.
use Rattle.std.specs.Prelude.{◌≡◌, refl, Bool, true, false, cond, List, [], ◌⊎◌, ℕ, ◌+◌, ◌≤◌, leb, length}
use Rattle.std.proofs.Common.{sym, ap, ◌∙◌, inl, inr, ⊎_elim, le_refl, le_trans, arith}
use Rattle.storage.specs.declared.types.Store.{Store}
use Rattle.storage.specs.World.{Dev, dev, Out, out}
use Rattle.storage.specs.Chip.{failing, able, next_call, called}
use Rattle.storage.proofs.Fold.{false_true}
use Rattle.nand_laws.specs.Made.{Made, Failed, failed_wide}
use Rattle.storage_laws.specs.Counted.{made_on}

-- ---- none is told to fail

-- no call from number n on is told to fail
abbrev pub QuietFrom : List ℕ → ℕ → Type 0
QuietFrom F n = (k : ℕ) → n ≤ k → failing F k ≡ false

-- as with an empty list
pub quiet_none : (n : ℕ) → QuietFrom [] n
unfolding failing
quiet_none n k h = refl

-- nor from a later number on
pub quiet_later : (F : List ℕ) (m n : ℕ) → m ≤ n → QuietFrom F m → QuietFrom F n
quiet_later F m n h q k l = q k (le_trans h l)

-- so after any chip calls
pub quiet_made : (F : List ℕ) {d e : Dev} {n : ℕ} → d.store.calls ≤ 18446744073709551615 → Made d n e → QuietFrom F d.store.calls → QuietFrom F e.store.calls
quiet_made F h m = quiet_later F _ _ (made_on h m).0

-- and none is met from a state with that number on
pub unmet : {A : Type 0} {F : List ℕ} {d e : Dev} → QuietFrom F d.store.calls → A ⊎ Failed F d e → A
unmet q = ⊎_elim (λ a. a) (λ x. false_true (sym (q x.number x.after) ∙ x.fails))

-- ---- one is told to fail

-- a step from d that left e failed, and met a call that is told to fail
pub record Stopped (F : List ℕ) (d : Dev) (ok : Bool) (e : Dev) : Type 0 where
  pub fails : ok ≡ false
  pub met : Failed F d e

-- and so from a state before
pub stopped_wide : {F : List ℕ} {c d e : Dev} {ok : Bool} → c.store.calls ≤ d.store.calls → Stopped F d ok e → Stopped F c ok e
stopped_wide h x = record { fails = x.fails; met = failed_wide h (le_refl _) x.met }

-- what a chip call from the record s left that is told to fail
pub meets : {F : List ℕ} {d e : Dev} (s : Store) → d.store.calls ≤ s.calls → failing F s.calls ≡ true → e.store ≡ called s → Failed F d e
meets {F} {d} {e} s h t q =
    let k : e.store.calls ≡ next_call s.calls = ap (λ (r : Store). r.calls) q in
    record { number = s.calls; after = h; before = omega arith; fails = t }

-- a step that such a call ended
pub stop : {F : List ℕ} {d : Dev} {o : Out} (s : Store) {c b : List ℕ} → d.store.calls ≤ s.calls → failing F s.calls ≡ true → out false (dev (called s) c b) ≡ o
    → Stopped F d o.ok o.dev
stop s h t q = record { fails = ap (λ (r : Out). r.ok) (sym q); met = meets s h t (ap (λ (r : Out). r.dev.store) (sym q)) }

-- a chip call that is told to fail does not succeed
pub able_told : (F : List ℕ) (s : Store) (chip : List ℕ) (a n : ℕ) → failing F s.calls ≡ true → able F s chip a n ≡ false
unfolding able
able_told F s chip a n t = rw t (go (leb (a + n) (length chip)))
  where
    go : (b : Bool) → cond b false false ≡ false
    go true = refl
    go false = refl

-- a call is told to fail or it is not
pub asked : (F : List ℕ) (n : ℕ) → (failing F n ≡ false) ⊎ (failing F n ≡ true)
asked F n = go (failing F n)
  where
    go : (b : Bool) → (b ≡ false) ⊎ (b ≡ true)
    go true = inr refl
    go false = inl refl
