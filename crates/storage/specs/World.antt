-- The whole state of a store and what calls leave of it, as every kind of device has it.
use Rattle.std.specs.Prelude.{Result, Ok, Err, Bool, true, false, cond, List, ℕ}
use Rattle.storage.specs.declared.types.Store.{Store}
use Rattle.storage.specs.declared.types.CallError.{CallError}
use Rattle.storage.specs.declared.types.CallError.TheVariants.{Failed, Refused}

-- what is lent and never changed: which chip calls fail, and the marks of a NAND's blocks
pub record Lent : Type 0 where
  pub faults : List ℕ
  pub marks : List ℕ

abbrev pub lent : List ℕ → List ℕ → Lent
lent faults marks = record { faults = faults; marks = marks }

-- the record, the chip's bytes and the buffer's
pub record Dev : Type 0 where
  pub store : Store
  pub chip : List ℕ
  pub buf : List ℕ

abbrev pub dev : Store → List ℕ → List ℕ → Dev
dev s chip buf = record { store = s; chip = chip; buf = buf }

-- what a step leaves: whether it succeeded, and the state
pub record Out : Type 0 where
  pub ok : Bool
  pub dev : Dev

abbrev pub out : Bool → Dev → Out
out ok d = record { ok = ok; dev = d }

-- go on after a success; a failure stands
abbrev pub and_then : Out → (Dev → Out) → Out
and_then o f = cond o.ok (f o.dev) o

-- what is told to the caller: a status (0 done, 1 failed, 9 refused), a count of bytes moved, and the state
pub record Told : Type 0 where
  pub status : ℕ
  pub count : ℕ
  pub dev : Dev

abbrev pub told : ℕ → ℕ → Dev → Told
told status count d = record { status = status; count = count; dev = d }

abbrev pub status_of : Bool → ℕ
status_of true = 0
status_of false = 1

abbrev pub report : Out → Told
report o = told (status_of o.ok) 0 o.dev

-- what is told of a read, and the room
pub record Seen : Type 0 where
  pub told : Told
  pub room : List ℕ

abbrev pub seen : Told → List ℕ → Seen
seen t room = record { told = t; room = room }

-- ---- a call's `Result` as what is told

-- 01's number of an error
abbrev pub call_number : CallError → ℕ
call_number Failed = 1
call_number Refused = 9

-- its status: 0 where it succeeded
abbrev pub status_in : {A : Type 0} → Result A CallError → ℕ
status_in (Ok a) = 0
status_in (Err e) = call_number e

-- the bytes that it moved: none where it did not succeed
abbrev pub count_in : Result ℕ CallError → ℕ
count_in (Ok n) = n
count_in (Err e) = 0
