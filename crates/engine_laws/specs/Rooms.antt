-- Reads give back rooms of the lengths that they were given, whatever the chip does; so a move into scratch keeps scratch's length.
use Rattle.std.specs.Prelude.{◌≡◌, List, ◌++◌, eqb, length, take, drop}
use Rattle.std.proofs.Math.Path.{refl}
use Rattle.std.proofs.Common.{◌∙◌, arith, length-append, length-take, length-drop}
use Prim.Native.Nat.{ℕ, zero, suc, ◌-◌, ◌≤◌, min}
use Rattle.storage.specs.declared.types.Kind.{Kind}
use Rattle.storage.specs.declared.types.Kind.TheVariants.{Nor, Nand}
use Rattle.storage.specs.declared.types.Store.{Store}
use Rattle.storage.specs.World.{Lent, Dev, told, Seen, seen}
use Rattle.storage.specs.Chip.{over, fetched}
use Rattle.storage.specs.Nor as NorOf
use Rattle.storage.specs.Nor.{pages_of, sat_add}
use Rattle.storage.specs.Nand as NandOf
use Rattle.storage.specs.Open.{by_kind}
use Rattle.storage.specs.Store.{good, by_good, reading}
use Rattle.storage.specs.Scratch.{plus, in_k, part, into_scratch}
use Rattle.storage.proofs.Programs.{fetched_length}
use Rattle.storage_laws.specs.Bounds.{either}

-- a room of which the first n bytes were fetched
front_length : (F : List ℕ) (off n : ℕ) (s : Store) (chip room : List ℕ) → n ≤ length room
    → length ((fetched F off s chip (take n room)).room ++ drop n room) ≡ length room
front_length F off n s chip room h =
    let f = (fetched F off s chip (take n room)).room in
    length-append f (drop n room) ∙ omega (arith, fetched_length F off s chip (take n room), length-take n room, length-drop n room)

module _ (room : List ℕ) where
  abbrev Same : Seen → Type 0
  Same s = length s.room ≡ length room

  nor_length : (F : List ℕ) (off : ℕ) (d : Dev) → Same (NorOf.read_out F off room d)
  unfolding NorOf.read_out
  nor_length F off d =
      let f = NorOf.flushes F d in
      let n = min (length room) (f.dev.store.shape.capacity - off) in
      either Same f.ok _ _
      (either Same (eqb n 0) (seen (told 0 0 f.dev) room) _ refl (front_length F off n f.dev.store f.dev.chip room (omega arith)))
      refl

  nand_length : (l : Lent) (off : ℕ) (d : Dev) → Same (NandOf.read_out l off room d)
  unfolding NandOf.read_out
  nand_length l off d =
      let f = NandOf.flushes l d in
      let n = min (length room) (f.dev.store.shape.capacity - off) in
      either Same f.ok _ _
      (either Same (eqb n 0) (seen (told 0 0 f.dev) room) _ refl (front_length l.faults off n f.dev.store f.dev.chip room (omega arith)))
      refl

  -- a read gives back a room of the same length
  pub reading_length : (l : Lent) (off : ℕ) (d : Dev) → length (reading l off room d).room ≡ length room
  unfolding reading by_good
  reading_length l off d = either Same (good l d) _ (seen (told 9 0 d) room) (go d.store.shape.kind) refl
    where
      go : (k : Kind) → Same (by_kind k (NorOf.read_out l.faults off room d) (NandOf.read_out l off room d))
      go Nor = nor_length l.faults off d
      go Nand = nand_length l off d

-- so do the pieces of a move into scratch
in_length : (k : ℕ) (l : Lent) (off : ℕ) (room : List ℕ) (d : Dev) → length (in_k k l off room d).room ≡ length room
unfolding in_k
in_length zero l off room d = refl
in_length (suc k) l off room d =
    let s = reading l off (take 256 room) d in
    let t = s.told in
    let r = in_k k l (sat_add off t.count) (drop 256 room) t.dev in
    let a = reading_length (take 256 room) l off d in
    let b = in_length k l (sat_add off t.count) (drop 256 room) t.dev in
    let m = length-take 256 room in
    let n = length-drop 256 room in
    either (Same room) (eqb t.count (length (take 256 room)))
    (seen (plus t.count r.told) (s.room ++ r.room)) (seen (told 0 t.count t.dev) (s.room ++ drop 256 room))
    (length-append s.room r.room ∙ omega arith) (length-append s.room (drop 256 room) ∙ omega arith)

-- a part laid back into scratch
over_length : (at n : ℕ) (xs scratch : List ℕ) → length xs ≡ length (part scratch at n) → length (over at xs scratch) ≡ length scratch
unfolding over
over_length at n xs scratch h =
    let a = length-take n (drop at scratch) in
    let b = length-drop at scratch in
    simp (length-append, length-take, length-drop) (omega arith)

-- a move into scratch keeps its length
pub into_length : (l : Lent) (off at n : ℕ) (scratch : List ℕ) (d : Dev) → length (into_scratch l off at n scratch d).room ≡ length scratch
unfolding into_scratch
into_length l off at n scratch d =
    let r = in_k (pages_of 256 (length (part scratch at n))) l off (part scratch at n) d in
    either (Same scratch) (good l d) (seen r.told (over at r.room scratch)) (seen (told 9 0 d) scratch)
    (over_length at n r.room scratch (in_length (pages_of 256 (length (part scratch at n))) l off (part scratch at n) d)) refl
