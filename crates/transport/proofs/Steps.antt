-- How many bytes a read copies.
use mathlib.Core.Path.{◌≡◌}
use mathlib.Core.Bool.{Bool, true, false, cond}
use mathlib.Core.List.{List}
use Rattle.std.specs.Prelude.{Err}
use Rattle.std.specs.Result.{result_unwrap_or}
use Prim.Native.Nat.{ℕ, ◌-◌, ◌≤◌, min}
use native.Mathlib.Omega.{arith}
use lib.ListN.{length, take, length-take}
use Rattle.storage.specs.declared.types.CallError.TheVariants.{Refused}
use Rattle.engine.specs.World.{Given, World}
use Rattle.engine.specs.Api.{fits, Read, read_by, reads}

-- no more than its room has, and one that is refused none
read_most : (g : Given) (w : World) (room : List ℕ) → result_unwrap_or (reads g w room).got 0 ≤ length room
unfolding reads
read_most g w room = go (fits g w)
  where
    n : ℕ
    n = min (w.e.said.len - w.e.said.pos) (length room)

    refused : Read
    refused = record { got = Err Refused; e = w.e; room = room }

    go : (b : Bool) → result_unwrap_or (cond b (read_by w room n) refused).got 0 ≤ length room
    go true = omega arith
    go false = omega arith

-- the room of a READ is the first n bytes of a longer one
pub read_count : (g : Given) (w : World) (sent : List ℕ) {n k : ℕ} {r : Read} → r ≡ reads g w (take n sent) → k ≡ result_unwrap_or r.got 0 → k ≤ n
read_count g w sent {n} {k} {r} a b =
    let h : result_unwrap_or r.got 0 ≤ length (take n sent) = rw a (read_most g w (take n sent)) in
    let l = length-take n sent in
    omega arith
