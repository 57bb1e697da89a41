-- Laws of the chip calls: a call that succeeds is in range; a part of the chip that is read.
use mathlib.Core.Path.{◌≡◌, refl}
use mathlib.Core.Bool.{Bool, true, false, cond}
use mathlib.Core.List.{List}
use Prim.Native.Nat.{ℕ, ◌+◌, ◌-◌, ◌≤◌}
use native.Mathlib.Omega.{arith}
use borrow.Author.Tests.{leb-true}
use lib.Dec.{leb}
use lib.ListN.{length, take, drop, length-take, length-drop}
use Rattle.storage.specs.declared.types.Store.{Store}
use Rattle.storage.specs.Chip.{able, called, got, fetched}

-- ---- calls

cond_true : (b x : Bool) → cond b x false ≡ true → b ≡ true
cond_true true x e = refl
cond_true false x e = e

-- a call that succeeds is in range
pub able_fits : (F : List ℕ) (s : Store) (chip : List ℕ) (a n : ℕ) → able F s chip a n ≡ true → a + n ≤ length chip
unfolding able
able_fits F s chip a n e = leb-true (a + n) (length chip) (cond_true (leb (a + n) (length chip)) _ e)

-- a part of n bytes within l has n bytes
pub part_length : (a e n : ℕ) (l : List ℕ) → e ≡ a + n → a + n ≤ length l → length (take (e - a) (drop a l)) ≡ n
part_length a e n l q h = simp (length-take, length-drop) (omega arith)

module _ (F : List ℕ) (s : Store) (chip : List ℕ) (a : ℕ) (room : List ℕ) {st : Store} (q : st ≡ called s) where
  pub fetch_fails : able F s chip a (length room) ≡ false → got false st room ≡ fetched F a s chip room
  unfolding fetched
  fetch_fails e = rw (q, e)
