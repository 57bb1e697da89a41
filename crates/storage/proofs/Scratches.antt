-- Moves in pieces of 256 bytes: one turn of the loop, as the code goes.
use mathlib.Core.Path.{◌≡◌, refl, sym, ap, ap₂, ◌∙◌}
use mathlib.Core.Bool.{Bool, true, false, ◌&&◌, cond}
use mathlib.Core.List.{List, ◌++◌, append-nil, append_assoc}
use Prim.Native.Nat.{ℕ, zero, suc, ◌+◌, ◌-◌, ◌≤◌, ◌<◌, min, zero-le}
use native.Mathlib.Nat.{zero-add, add-zero, le_of_lt}
use native.Mathlib.Omega.{arith}
use borrow.Author.Tests.{eq-eqb, ne_eqb}
use lib.Dec.{leb, eqb}
use lib.ListN.{length, take, drop, length-take, length-drop, length-append, drop_of_length-le}
use lib.Seq.{take_all, take_at, drop_at, length-take-le}
use borrow.Rule.Slice.PartMut.{put_mid}
use Rattle.std.proofs.lemmas.List.{take_min, drop_min}
use Rattle.std.specs.Prelude.{Result, Ok, Err}
use Rattle.std.specs.Result.{result_unwrap_or}
use Rattle.storage.specs.declared.types.CallError.{CallError}
use Rattle.storage.specs.declared.types.Kind.{Kind}
use Rattle.storage.specs.declared.types.Kind.TheVariants.{Nor, Nand}
use Rattle.storage.specs.World.{Lent, Dev, dev, Told, told, Seen, seen, count_in}
use Rattle.storage.specs.Chip.{over, fetched}
use Rattle.storage.specs.Fold.{run}
use Rattle.storage.specs.Nor as NorOf
use Rattle.storage.specs.Nor.{pages_of, sat_add}
use Rattle.storage.specs.Nand as NandOf
use Rattle.storage.specs.Open.{by_kind, in_bounds, parts_fit}
use Rattle.storage.specs.Store.{good, by_good, writing, reading}
use Rattle.storage.specs.Scratch.{plus, out_k, in_k, from_scratch, into_scratch}
use Rattle.storage.proofs.Fold.{no_more}
use Rattle.storage.proofs.Nors.{counts, read_count}

-- ---- pieces of a list

-- the pieces of n bytes are one and those of the rest
pub pages_suc : (n : ℕ) → 0 < n → pages_of 256 n ≡ suc (pages_of 256 (n - 256))
pages_suc n h = omega arith

-- ---- what a write tells

-- no more bytes are counted than were given
counted : (b : Bool) (k : Kind) (u v : Bool) (x y n : ℕ) (d e f : Dev) → x ≤ n → y ≤ n
    → (cond b (by_kind k (cond u (told 0 x e) (told 0 0 d)) (cond v (told 0 y f) (told 0 0 d))) (told 9 0 d)).count ≤ n
counted true Nor true v x y n d e f h i = h
counted true Nor false v x y n d e f h i = zero-le
counted true Nand u true x y n d e f h i = i
counted true Nand u false x y n d e f h i = zero-le
counted false k u v x y n d e f h i = zero-le

pub write_count : (l : Lent) (off : ℕ) (xs : List ℕ) (d : Dev) {t : Told} → t ≡ writing l off xs d → t.count ≤ length xs
unfolding writing by_good NorOf.written NandOf.written
write_count l off xs d q =
    let p = d.store.shape.page in
    let a = no_more 4096 (NorOf.loads l.faults) (NorOf.closes l.faults) xs (run true off d) in
    let b = no_more p (NandOf.loads l p) NandOf.stays xs (run true off d) in
    let c = leb (off + length xs) d.store.shape.capacity in
    rw q (counted (good l d) d.store.shape.kind c c _ _ (length xs) d _ _ (omega arith) (omega arith))

-- ---- out of scratch

done : (b : Bool) (t u : Told) → (cond b (told 0 t.count t.dev) (told 0 u.count u.dev)).status ≡ 0
done true t u = refl
done false t u = refl

out_status : (k : ℕ) (l : Lent) (off : ℕ) (xs : List ℕ) (d : Dev) → (out_k k l off xs d).status ≡ 0
unfolding out_k
out_status zero l off xs d = refl
out_status (suc k) l off xs d =
    let t = writing l off (take 256 xs) d in
    done (eqb t.count (length (take 256 xs))) (plus t.count (out_k k l (sat_add off t.count) (drop 256 xs) t.dev)) t

-- nothing counted yet
pub plus_none : (k : ℕ) (l : Lent) (off : ℕ) (xs : List ℕ) (d : Dev) → plus 0 (out_k k l off xs d) ≡ out_k k l off xs d
plus_none k l off xs d =
    λ i. record { status = sym (out_status k l off xs d) i; count = zero-add (out_k k l off xs d).count i; dev = (out_k k l off xs d).dev }

-- a piece of n bytes is the definition's
module _ (xs : List ℕ) {n : ℕ} (h : 0 < length xs) (m : n ≡ min 256 (length xs)) where
  piece : take n xs ≡ take 256 xs
  piece = ap (λ (k : ℕ). take k xs) m ∙ take_min 256 xs

  long : length (take 256 xs) ≡ n
  long = length-take 256 xs ∙ sym m

  rest : drop 256 xs ≡ drop n xs
  rest = sym (ap (λ (k : ℕ). drop k xs) m ∙ drop_min 256 xs)

  fewer : pages_of 256 (length xs) ≡ suc (pages_of 256 (length (drop n xs)))
  fewer =
      let e : length xs - 256 ≡ length (drop n xs) = omega (arith, length-drop n xs) in
      pages_suc (length xs) h ∙ ap (λ (k : ℕ). suc (pages_of 256 k)) e

module _ (l : Lent) (off : ℕ) (xs : List ℕ) (d : Dev) {t : Told} {n : ℕ} (h : 0 < length xs) (m : n ≡ min 256 (length xs))
    (q : t ≡ writing l off (take n xs) d) where
  wrote_piece : t ≡ writing l off (take 256 xs) d
  wrote_piece = q ∙ ap (λ (ys : List ℕ). writing l off ys d) (piece xs h m)

  pub out_short : (t.count ≡ n → ⊥) → told 0 t.count t.dev ≡ out_k (pages_of 256 (length xs)) l off xs d
  unfolding out_k
  out_short z = rw (fewer xs h m, ← wrote_piece, long xs h m, ne_eqb t.count n z)

  pub out_went : t.count ≡ n
      → plus n (out_k (pages_of 256 (length (drop n xs))) l (sat_add off n) (drop n xs) t.dev) ≡ out_k (pages_of 256 (length xs)) l off xs d
  unfolding out_k
  out_went z = rw (fewer xs h m, ← wrote_piece, long xs h m, rest xs h m, z, eq-eqb n n refl)

-- ---- the loop: `done` bytes are counted, and the bytes that are left give the rest of the answer

module _ (l : Lent) (at : ℕ) (xs : List ℕ) (done : ℕ) (d : Dev) {w : Told} (inv : plus done (out_k (pages_of 256 (length xs)) l at xs d) ≡ w) where
  pub out_end : length xs ≡ 0 → told 0 done d ≡ w
  unfolding out_k
  out_end h = sym (ap (λ (k : ℕ). told 0 k d) (add-zero done)) ∙ (rw h at inv)

  module _ (piece left : List ℕ) {t : Told} {v : ℕ} (parts : xs ≡ piece ++ left) (m : length piece ≡ min 256 (length xs)) (h : 0 < length xs)
      (q : t ≡ writing l at piece d) (k : v ≡ t.count) where
    piece_is : piece ≡ take (length piece) xs
    piece_is = sym (ap (take (length piece)) parts ∙ take_at piece left (length piece) refl)

    left_is : left ≡ drop (length piece) xs
    left_is = sym (ap (drop (length piece)) parts ∙ drop_at piece left (length piece) refl)

    wrote : t ≡ writing l at (take (length piece) xs) d
    wrote = q ∙ ap (λ (ys : List ℕ). writing l at ys d) piece_is

    pub out_few : (v ≤ length piece) × (length piece + length left ≡ length xs)
    out_few = (let z = write_count l at piece d q in omega arith, sym (ap length parts ∙ length-append piece left))

    pub out_stop : (v ≡ length piece → ⊥) → told 0 (done + v) t.dev ≡ w
    out_stop z = ap (λ (j : ℕ). told 0 (done + j) t.dev) k ∙ ap (plus done) (out_short l at xs d h m wrote (λ e. z (k ∙ e))) ∙ inv

    pub out_again : {a : ℕ} → v ≡ length piece → a ≡ sat_add at v
        → plus (done + v) (out_k (pages_of 256 (length left)) l a left t.dev) ≡ w
    out_again z s =
        let n = length piece in
        let r = out_k (pages_of 256 (length (drop n xs))) l (sat_add at n) (drop n xs) t.dev in
        let e : done + v + r.count ≡ done + (n + r.count) = omega arith in
        ap₂ (λ (ys : List ℕ) (o : ℕ). plus (done + v) (out_k (pages_of 256 (length ys)) l o ys t.dev)) left_is (s ∙ ap (sat_add at) z)
        ∙ ap (λ (j : ℕ). told 0 j r.dev) e
        ∙ ap (plus done) (out_went l at xs d h m wrote (sym k ∙ z))
        ∙ inv

-- what is counted of a call's `Result`
pub count_is : (r : Result ℕ CallError) {n : ℕ} → n ≡ result_unwrap_or r 0 → n ≡ count_in r
count_is (Ok k) e = e
count_is (Err x) e = e

-- ---- the part of scratch that the code takes is the definition's

module _ (scratch : List ℕ) (at n : ℕ) {i e : ℕ} (hi : i ≡ min at (length scratch)) (he : e ≡ min (min (at + n) 18446744073709551615) (length scratch))
    (h : length scratch ≤ 18446744073709551615) where
  part_size : e - i ≡ min n (length (drop at scratch))
  part_size = rw length-drop (omega arith)

  after : drop i scratch ≡ drop at scratch
  after = ap (λ (k : ℕ). drop k scratch) hi ∙ drop_min at scratch

  part_is : take (e - i) (drop i scratch) ≡ take n (drop at scratch)
  part_is = ap₂ (λ (k : ℕ) (ys : List ℕ). take k ys) part_size after ∙ take_min n (drop at scratch)

  laid : (r : List ℕ) → length r ≡ e - i → put_mid i (e - i) scratch r ≡ over at r scratch
  unfolding over
  laid r z =
      let a : take i scratch ≡ take at scratch = ap (λ (k : ℕ). take k scratch) hi ∙ take_min at scratch in
      rw (a, after, z)

  module _ (l : Lent) (off : ℕ) (d : Dev) {g : Bool} (p : g ≡ (in_bounds d.store && parts_fit d.store (length d.chip) (length l.marks) (length d.buf))) (y : g ≡ true) where
    pub from_told : {t : Told} → t ≡ out_k (pages_of 256 (length (take (e - i) (drop i scratch)))) l off (take (e - i) (drop i scratch)) d
        → t ≡ from_scratch l off at n scratch d
    unfolding from_scratch good
    from_told r = r ∙ rw (part_is, ← p, y)

    pub into_told : {s : Seen} → length s.room ≡ e - i → s ≡ in_k (pages_of 256 (length (take (e - i) (drop i scratch)))) l off (take (e - i) (drop i scratch)) d
        → seen s.told (put_mid i (e - i) scratch s.room) ≡ into_scratch l off at n scratch d
    unfolding into_scratch good
    into_told {s} z r =
        ap (seen s.told) (laid s.room z)
        ∙ ap (λ (x : Seen). seen x.told (over at x.room scratch)) (r ∙ ap (λ (ys : List ℕ). in_k (pages_of 256 (length ys)) l off ys d) part_is)
        ∙ rw (← p, y)

module _ (l : Lent) (off at n : ℕ) (scratch : List ℕ) (d : Dev) {g : Bool}
    (p : g ≡ (in_bounds d.store && parts_fit d.store (length d.chip) (length l.marks) (length d.buf))) where
  pub from_none : g ≡ false → told 9 0 d ≡ from_scratch l off at n scratch d
  unfolding from_scratch good
  from_none h = rw (← p, h)

  pub into_none : g ≡ false → seen (told 9 0 d) scratch ≡ into_scratch l off at n scratch d
  unfolding into_scratch good
  into_none h = rw (← p, h)

-- ---- into scratch

module _ (l : Lent) (off : ℕ) (xs : List ℕ) (d : Dev) {s : Seen} {n : ℕ} (h : 0 < length xs) (m : n ≡ min 256 (length xs))
    (q : s ≡ reading l off (take n xs) d) where
  read_piece : s ≡ reading l off (take 256 xs) d
  read_piece = q ∙ ap (λ (ys : List ℕ). reading l off ys d) (piece xs h m)

  pub in_short : (s.told.count ≡ n → ⊥) → seen (told 0 s.told.count s.told.dev) (s.room ++ drop n xs) ≡ in_k (pages_of 256 (length xs)) l off xs d
  unfolding in_k
  in_short z = rw (fewer xs h m, ← read_piece, long xs h m, rest xs h m, ne_eqb s.told.count n z)

  pub in_went : s.told.count ≡ n
      → (let r = in_k (pages_of 256 (length (drop n xs))) l (sat_add off n) (drop n xs) s.told.dev in seen (plus n r.told) (s.room ++ r.room))
      ≡ in_k (pages_of 256 (length xs)) l off xs d
  unfolding in_k
  in_went z = rw (fewer xs h m, ← read_piece, long xs h m, rest xs h m, z, eq-eqb n n refl)

-- a read counts no more bytes than its room has
counted_in : (b : Bool) (k : Kind) (x y : Seen) (n : ℕ) (d : Dev) (room : List ℕ) → x.told.count ≤ n → y.told.count ≤ n
    → (cond b (by_kind k x y) (seen (told 9 0 d) room)).told.count ≤ n
counted_in true Nor x y n d room h i = h
counted_in true Nand x y n d room h i = i
counted_in false k x y n d room h i = zero-le

nand_count : (l : Lent) (off : ℕ) (room : List ℕ) (d : Dev) → (NandOf.read_out l off room d).told.count ≤ length room
unfolding NandOf.read_out
nand_count l off room d =
    let f = NandOf.flushes l d in
    let n = min (length room) (f.dev.store.shape.capacity - off) in
    let g = fetched l.faults off f.dev.store f.dev.chip (take n room) in
    counts f.ok (eqb n 0) g.ok (length room) n f.dev (dev g.store f.dev.chip f.dev.buf) room (g.room ++ drop n room) (omega arith)

pub reading_count : (l : Lent) (off : ℕ) (room : List ℕ) (d : Dev) {s : Seen} → s ≡ reading l off room d → s.told.count ≤ length room
unfolding reading by_good
reading_count l off room d q =
    rw q
    (counted_in (good l d) d.store.shape.kind (NorOf.read_out l.faults off room d) (NandOf.read_out l off room d) (length room) d room
    (read_count l.faults off room d refl) (nand_count l off room d))

-- ---- the loop: `done` bytes are counted and stand in the room's front, and what is left of the room gives the rest of the answer

abbrev pub rest_of : ℕ → Lent → ℕ → List ℕ → Dev → Seen
rest_of done l at rs d =
    let r = in_k (pages_of 256 (length (drop done rs))) l at (drop done rs) d in seen (plus done r.told) (take done rs ++ r.room)

finished : (b : Bool) (t u : Told) (x y : List ℕ) → (cond b (seen (told 0 t.count t.dev) x) (seen (told 0 u.count u.dev) y)).told.status ≡ 0
finished true t u x y = refl
finished false t u x y = refl

in_status : (k : ℕ) (l : Lent) (off : ℕ) (xs : List ℕ) (d : Dev) → (in_k k l off xs d).told.status ≡ 0
unfolding in_k
in_status zero l off xs d = refl
in_status (suc k) l off xs d =
    let s = reading l off (take 256 xs) d in
    let t = s.told in
    let r = in_k k l (sat_add off t.count) (drop 256 xs) t.dev in
    finished (eqb t.count (length (take 256 xs))) (plus t.count r.told) t (s.room ++ r.room) (s.room ++ drop 256 xs)

pub in_start : (k : ℕ) (l : Lent) (off : ℕ) (xs : List ℕ) (d : Dev) → (let r = in_k k l off xs d in seen (plus 0 r.told) r.room) ≡ in_k k l off xs d
in_start k l off xs d =
    let r = in_k k l off xs d in
    λ i. record {
      told = record { status = sym (in_status k l off xs d) i; count = zero-add r.told.count i; dev = r.told.dev };
      room = r.room;
    }

module _ (l : Lent) (at : ℕ) (rs : List ℕ) (done : ℕ) (d : Dev) {w : Seen} (inv : rest_of done l at rs d ≡ w) where
  pub in_end : length rs ≤ done → seen (told 0 done d) rs ≡ w
  unfolding in_k
  in_end h =
      (λ i. seen (told 0 (sym (add-zero done) i) d) ((sym (append-nil (take done rs) ∙ take_all done rs h)) i))
      ∙ (rw (drop_of_length-le rs h) at inv)

  module _ {s : Seen} {n e v : ℕ} (h : done < length rs) (m : n ≡ min (length rs - done) 256) (p : e ≡ done + n)
      (q : s ≡ reading l at (take (e - done) (drop done rs)) d) (k : v ≡ s.told.count) where
    in_some : 0 < length (drop done rs)
    in_some = rw length-drop (omega arith)

    in_least : n ≡ min 256 (length (drop done rs))
    in_least = rw length-drop (omega arith)

    gone : e - done ≡ n
    gone = omega arith

    was_read : s ≡ reading l at (take n (drop done rs)) d
    was_read = q ∙ ap (λ (j : ℕ). reading l at (take j (drop done rs)) d) gone

    pub in_few : done + v ≤ length rs
    in_few =
        let z = reading_count l at (take n (drop done rs)) d was_read in
        omega (arith, length-take n (drop done rs), length-drop done rs)

    -- the room with what was read in its place
    now_room : List ℕ
    now_room = put_mid done (e - done) rs s.room

    room_is : now_room ≡ take done rs ++ (s.room ++ drop n (drop done rs))
    unfolding now_room
    room_is = ap (λ (j : ℕ). take done rs ++ (s.room ++ drop j (drop done rs))) gone

    pub in_stop : (v ≡ n → ⊥) → seen (told 0 (done + v) s.told.dev) (put_mid done (e - done) rs s.room) ≡ w
    unfolding now_room
    in_stop z =
        ap₂ (λ (j : ℕ) (r : List ℕ). seen (told 0 (done + j) s.told.dev) r) k room_is
        ∙ ap (λ (r : Seen). seen (plus done r.told) (take done rs ++ r.room)) (in_short l at (drop done rs) d in_some in_least was_read (λ f. z (k ∙ f)))
        ∙ inv

    module _ (g : length s.room ≡ n) where
      front : length (take done rs ++ s.room) ≡ e
      front = length-append (take done rs) s.room ∙ omega (arith, length-take-le done rs (le_of_lt h))

      grouped : now_room ≡ (take done rs ++ s.room) ++ drop n (drop done rs)
      grouped = room_is ∙ sym (append_assoc (take done rs) s.room (drop n (drop done rs)))

      taken : take e now_room ≡ take done rs ++ s.room
      taken = ap (take e) grouped ∙ take_at (take done rs ++ s.room) (drop n (drop done rs)) e front

      left : drop e now_room ≡ drop n (drop done rs)
      left = ap (drop e) grouped ∙ drop_at (take done rs ++ s.room) (drop n (drop done rs)) e front

      pub in_again : {a : ℕ} → v ≡ n → a ≡ sat_add at n
          → rest_of e l a (put_mid done (e - done) rs s.room) s.told.dev ≡ w
      unfolding now_room
      in_again z f =
          let r = in_k (pages_of 256 (length (drop n (drop done rs)))) l (sat_add at n) (drop n (drop done rs)) s.told.dev in
          let c : e + r.told.count ≡ done + (n + r.told.count) = omega arith in
          ap₂ (λ (o : ℕ) (ys : List ℕ). let x = in_k (pages_of 256 (length ys)) l o ys s.told.dev in seen (plus e x.told) (take e now_room ++ x.room)) f left
          ∙ ap₂ (λ (j : ℕ) (g : List ℕ). seen (told 0 j r.told.dev) (g ++ r.room)) c taken
          ∙ ap (seen (told 0 (done + (n + r.told.count)) r.told.dev)) (append_assoc (take done rs) s.room r.room)
          ∙ ap (λ (x : Seen). seen (plus done x.told) (take done rs ++ x.room)) (in_went l at (drop done rs) d in_some in_least was_read (sym k ∙ z))
          ∙ inv
