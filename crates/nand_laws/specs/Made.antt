-- What both kinds of device share of the chip calls that lead from one state to another: how many there were, which the call counter
-- tells, and that one of them was told to fail.
use Rattle.std.specs.Prelude.{◌≡◌, List, true, ℕ, suc, ◌+◌, ◌≤◌, min}
use Rattle.std.proofs.Common.{ap, ◌∙◌, arith}
use Rattle.std.proofs.Math.Numerals.{unary_clauses}
use Rattle.storage.specs.declared.types.Store.{Store}
use Rattle.storage.specs.World.{Dev}
use Rattle.storage.specs.Chip.{failing, next_call}
use Rattle.storage.proofs.Programs.{Call}

-- ---- how many calls there were

-- n chip calls lead from d to e. Between them no byte of the chip changes and no number is taken
pub data Made (d : Dev) : ℕ → Dev → Type 0 where
  none : Made d 0 d
  call : {n : ℕ} {e f : Dev} → Made d n e → Call e f → Made d (suc n) f
  aside : {n : ℕ} {e f : Dev} → Made d n e → f.chip ≡ e.chip → f.store.calls ≡ e.store.calls → Made d n f

-- chip calls, and then more
pub made_then : {d e f : Dev} {m n : ℕ} → Made d m e → Made e n f → Made d (m + n) f
made_then m none = simp unary_clauses m
made_then m (call n c) = simp unary_clauses (call (made_then m n) c)
made_then m (aside n p q) = aside (made_then m n) p q

-- the counter has grown by as many, up to its largest number
pub made_count : {d : Dev} {n : ℕ} {e : Dev} → d.store.calls ≤ 18446744073709551615 → Made d n e → e.store.calls ≡ min (d.store.calls + n) 18446744073709551615
made_count h none = omega arith
made_count {d} h (call {n} {e} {f} m c) =
    let i = made_count h m in
    let k : f.store.calls ≡ next_call e.store.calls = ap (λ (s : Store). s.calls) c.number in
    omega arith
made_count h (aside m p q) = q ∙ made_count h m

-- ---- one of them was told to fail

-- a call made between d and e has a number that is told to fail
pub record Failed (F : List ℕ) (d e : Dev) : Type 0 where
  pub number : ℕ
  pub after : d.store.calls ≤ number
  pub before : next_call number ≤ e.store.calls
  pub fails : failing F number ≡ true

-- and so between any states before and behind them
pub failed_wide : {F : List ℕ} {c d e f : Dev} → c.store.calls ≤ d.store.calls → e.store.calls ≤ f.store.calls → Failed F d e → Failed F c f
failed_wide h k x = record { number = x.number; after = omega (arith, x.after); before = omega (arith, x.before); fails = x.fails }
