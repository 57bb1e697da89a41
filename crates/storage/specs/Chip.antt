-- What all modelled chips share (01, 'Chips and buffering'): calls are numbered from 0 at opening; a call that is told to fail, or
-- is out of range, takes its number, errs and does nothing.
use Rattle.std.specs.Prelude.{Bool, true, false, cond, List, ◌++◌, ℕ, ◌+◌, ◌-◌, min, ltb, leb, length, take, drop, get_or}
use Rattle.storage.specs.declared.types.Store.{Store}
use Rattle.storage.specs.World.{Dev, dev, Out, out}

-- is call number n told to fail: the last byte stands for every later call, and an empty list fails none
unfoldable pub failing : List ℕ → ℕ → Bool
failing faults n = ltb 0 (get_or faults (min n (length faults - 1)) 0)

-- the number of the next call; numbers stop at the largest
abbrev pub next_call : ℕ → ℕ
next_call n = min (n + 1) 18446744073709551615

-- one more call was made
abbrev pub called : Store → Store
called s = record { shape = s.shape; held = s.held; at = s.at; erased = s.erased; calls = next_call s.calls }

-- does a chip call on n bytes at a succeed: in range, and not told to fail
unfoldable pub able : List ℕ → Store → List ℕ → ℕ → ℕ → Bool
able faults s chip a n = cond (leb (a + n) (length chip)) (cond (failing faults s.calls) false true) false

-- l, with xs in the place of as many bytes from a on
unfoldable pub over : ℕ → List ℕ → List ℕ → List ℕ
over a xs l = take a l ++ (xs ++ drop (length xs) (drop a l))

-- a chip call that puts the bytes xs at a
unfoldable pub programs : List ℕ → ℕ → List ℕ → Dev → Out
programs faults a xs d =
    cond (able faults d.store d.chip a (length xs))
    (out true (dev (called d.store) (over a xs d.chip) d.buf))
    (out false (dev (called d.store) d.chip d.buf))

-- what a chip read leaves: whether it succeeded, the record, and the room
pub record Got : Type 0 where
  pub ok : Bool
  pub store : Store
  pub room : List ℕ

abbrev pub got : Bool → Store → List ℕ → Got
got ok s room = record { ok = ok; store = s; room = room }

-- a chip read that fills the room from a on
unfoldable pub fetched : List ℕ → ℕ → Store → List ℕ → List ℕ → Got
fetched faults a s chip room =
    cond (able faults s chip a (length room))
    (got true (called s) (take (length room) (drop a chip)))
    (got false (called s) room)
