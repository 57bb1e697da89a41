-- The call counter of a store of either kind, over its public calls (storage/specs/Store.antt, storage/specs/Scratch.antt): each call,
-- whatever its chip does, is a number n of chip calls, and the counter, from at most 2^64 - 1 on, has grown by n, up to 2^64 - 1. A
-- call that is refused makes none. There are no conditions on the record or on what is lent.
use Rattle.std.specs.Prelude.{◌≡◌, Bool, true, false, cond, List, ◌++◌, ℕ, zero, suc, ◌+◌, ◌≤◌, min, eqb, length, take, drop}
use Rattle.storage.specs.declared.types.Kind.{Kind}
use Rattle.storage.specs.declared.types.Kind.TheVariants.{Nor, Nand}
use Rattle.storage.specs.World.{Lent, Dev, Told, told, Seen, seen}
use Rattle.storage.specs.Nor.{pages_of, sat_add}
use Rattle.storage.specs.Open.{by_kind}
use Rattle.storage.specs.Store.{good, by_good, flushing, erasing, writing, reading}
use Rattle.storage.specs.Scratch.{plus, out_k, in_k, part, from_scratch, into_scratch}
use Rattle.nand_laws.specs.Made.{Made, none, made_then, made_count}
use Rattle.nand_laws.specs.Counted as NandCounted
use Rattle.storage_laws.specs.Counted as NorCounted
use Rattle.storage_laws.specs.Bounds.{either}

-- some number of chip calls leads from d to e
abbrev pub From : Dev → Dev → Type 0
From d e = (n : ℕ) × Made d n e

-- these, and then more
from_then : {d e f : Dev} → From d e → From e f → From d f
from_then m n = (m.0 + n.0, made_then m.1 n.1)

-- what holds of each kind's answer and of a refusal holds of a call's answer
answers : {A : Type 0} (P : A → Type 0) (l : Lent) (d : Dev) (x y z : A) → P x → P y → P z → P (by_good l d x y z)
unfolding by_good
answers {A} P l d x y z p q r = go (good l d) d.store.shape.kind
  where
    go : (b : Bool) (k : Kind) → P (cond b (by_kind k x y) z)
    go true Nor = p
    go true Nand = q
    go false k = r

-- ---- every call is a number of chip calls

module _ (l : Lent) (d : Dev) where
  -- a flush is
  pub flushing_made : From d (flushing l d).dev
  unfolding flushing
  flushing_made = answers (λ (t : Told). From d t.dev) l d _ _ _ (NorCounted.flushes_made l.faults d) (NandCounted.flushed_made l d) (0, none)

  -- an erase is
  pub erasing_made : (start size : ℕ) → From d (erasing l start size d).dev
  unfolding erasing
  erasing_made start size =
      answers (λ (t : Told). From d t.dev) l d _ _ _ (NorCounted.erased_made l.faults start size d) (NandCounted.erased_made l d start size) (0, none)

  -- a write is
  pub writing_made : (off : ℕ) (xs : List ℕ) → From d (writing l off xs d).dev
  unfolding writing
  writing_made off xs =
      answers (λ (t : Told). From d t.dev) l d _ _ _ (NorCounted.written_made l.faults off xs d) (NandCounted.written_made l d off xs) (0, none)

  -- a read is
  pub reading_made : (off : ℕ) (room : List ℕ) → From d (reading l off room d).told.dev
  unfolding reading
  reading_made off room =
      answers (λ (s : Seen). From d s.told.dev) l d _ _ _ (NorCounted.read_out_made l.faults off room d) (NandCounted.read_out_made l d off room) (0, none)

-- pieces out of scratch are
pub out_made : (k : ℕ) (l : Lent) (off : ℕ) (xs : List ℕ) (d : Dev) → From d (out_k k l off xs d).dev
unfolding out_k
out_made zero l off xs d = (0, none)
out_made (suc k) l off xs d =
    let t = writing l off (take 256 xs) d in
    let m = writing_made l d off (take 256 xs) in
    either (λ (u : Told). From d u.dev) (eqb t.count (length (take 256 xs)))
    (plus t.count (out_k k l (sat_add off t.count) (drop 256 xs) t.dev)) (told 0 t.count t.dev)
    (from_then m (out_made k l (sat_add off t.count) (drop 256 xs) t.dev)) m

-- pieces into scratch are
pub in_made : (k : ℕ) (l : Lent) (off : ℕ) (room : List ℕ) (d : Dev) → From d (in_k k l off room d).told.dev
unfolding in_k
in_made zero l off room d = (0, none)
in_made (suc k) l off room d =
    let s = reading l off (take 256 room) d in
    let t = s.told in
    let m = reading_made l d off (take 256 room) in
    let r = in_k k l (sat_add off t.count) (drop 256 room) t.dev in
    either (λ (u : Seen). From d u.told.dev) (eqb t.count (length (take 256 room)))
    (seen (plus t.count r.told) (s.room ++ r.room)) (seen (told 0 t.count t.dev) (s.room ++ drop 256 room))
    (from_then m (in_made k l (sat_add off t.count) (drop 256 room) t.dev)) m

module _ (l : Lent) (d : Dev) (off at n : ℕ) (scratch : List ℕ) where
  -- a move out of scratch is
  pub from_made : From d (from_scratch l off at n scratch d).dev
  unfolding from_scratch
  from_made = either (λ (t : Told). From d t.dev) (good l d) _ _ (out_made (pages_of 256 (length (part scratch at n))) l off (part scratch at n) d) (0, none)

  -- a move into scratch is
  pub into_made : From d (into_scratch l off at n scratch d).told.dev
  unfolding into_scratch
  into_made = either (λ (s : Seen). From d s.told.dev) (good l d) _ _ (in_made (pages_of 256 (length (part scratch at n))) l off (part scratch at n) d) (0, none)

-- ---- and the counter has grown by that number, up to its largest

module _ (l : Lent) (d : Dev) (most : d.store.calls ≤ 18446744073709551615) where
  -- the counter has grown by the chip calls made, up to its largest number
  abbrev pub Grown : (e : Dev) → From d e → Type 0
  Grown e m = e.store.calls ≡ min (d.store.calls + m.0) 18446744073709551615

  -- after a flush
  pub flushing_count : Grown (flushing l d).dev (flushing_made l d)
  flushing_count = made_count most (flushing_made l d).1

  -- after an erase
  pub erasing_count : (start size : ℕ) → Grown (erasing l start size d).dev (erasing_made l d start size)
  erasing_count start size = made_count most (erasing_made l d start size).1

  -- after a write
  pub writing_count : (off : ℕ) (xs : List ℕ) → Grown (writing l off xs d).dev (writing_made l d off xs)
  writing_count off xs = made_count most (writing_made l d off xs).1

  -- after a read
  pub reading_count : (off : ℕ) (room : List ℕ) → Grown (reading l off room d).told.dev (reading_made l d off room)
  reading_count off room = made_count most (reading_made l d off room).1

  -- after a move out of scratch
  pub from_count : (off at n : ℕ) (scratch : List ℕ) → Grown (from_scratch l off at n scratch d).dev (from_made l d off at n scratch)
  from_count off at n scratch = made_count most (from_made l d off at n scratch).1

  -- after a move into scratch
  pub into_count : (off at n : ℕ) (scratch : List ℕ) → Grown (into_scratch l off at n scratch d).told.dev (into_made l d off at n scratch)
  into_count off at n scratch = made_count most (into_made l d off at n scratch).1
