-- What holds of a state and is kept by bringing a page in, by setting a byte of the buffer and by closing a page is kept by a whole
-- write, whatever fails. Once for every kind of device.
use mathlib.Core.Bool.{Bool, true, false}
use mathlib.Core.List.{List, [], ◌∷◌}
use Prim.Native.Nat.{ℕ, ◌+◌, ◌%◌, ◌≤◌, ◌<◌}
use native.Mathlib.Omega.{arith}
use lib.ListN.{length, set}
use Rattle.std.proofs.lemmas.Bool.{cond_both}
use Rattle.storage.specs.World.{Dev, dev, Out}
use Rattle.storage.specs.Fold.{Run, run, seals, step, writes}
use Rattle.storage.proofs.Fold.{no_more}

-- P is kept by loads below the address `top`
module _ (p : ℕ) (load seal : ℕ → Dev → Out) (P : Dev → Type 0) (top : ℕ) (loading : (a : ℕ) (d : Dev) → a < top → P d → P (load a d).dev)
    (sealing : (a : ℕ) (d : Dev) → P d → P (seal a d).dev) (setting : (i x : ℕ) (d : Dev) → P d → P (dev d.store d.chip (set d.buf i x))) where
  step_along : (x : ℕ) (b : Bool) (a : ℕ) (d : Dev) → a < top → P d → P (step p load seal (run b a d) x).dev
  unfolding step seals
  step_along x true a d h k =
      let l = loading a d h k in
      cond_both (load a d).ok _ _ (λ (o : Run). P o.dev) (λ t. sealing (a + 1) _ (setting (a % p) x (load a d).dev l)) (λ t. l)
  step_along x false a d h k = k

  pub writes_along : (xs : List ℕ) (o : Run) → o.at + length xs ≤ top → P o.dev → P (writes p load seal xs o).dev
  unfolding writes
  writes_along [] o h k = k
  writes_along (x ∷ xs) o h k =
      let m : (step p load seal o x).at ≤ o.at + 1 = no_more p load seal (x ∷ []) o in
      writes_along xs (step p load seal o x) (omega arith) (step_along x o.ok o.at o.dev (omega arith) k)
