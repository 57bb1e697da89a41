-- Moves of scratch (storage/specs/Scratch.antt) fall short only for a reason too: from a store in order, a move of bytes below the
-- capacity and below the chip's end is done in full, or one of its pieces met a chip call that is told to fail or, on a NAND, a block
-- that is marked bad and that the move may have to erase. The store is in order behind it.
use Rattle.std.specs.Prelude.{◌≡◌, refl, Bool, true, false, cond, List, ◌++◌, ◌⊎◌, ℕ, zero, suc, ◌+◌, ◌-◌, ◌*◌, ◌/◌, ◌≤◌, ◌<◌, min, eqb, length, take, drop}
use Rattle.std.proofs.Common.{sym, ap, subst, ◌∙◌, inl, inr, ⊎_elim, le_refl, mul-le-mul, div-mul-le_self, le-div_iff_mul-le, arith, eqb-true, length-take, length-drop, get_or-drop}
use Rattle.std.proofs.lemmas.Bool.{eqb-false}
use Rattle.storage.specs.declared.types.Kind.TheVariants.{Nand}
use Rattle.storage.specs.declared.types.Shape.{Shape}
use Rattle.storage.specs.World.{Lent, Dev, Told, told, Seen, seen}
use Rattle.storage.specs.Nor.{pages_of, sat_add}
use Rattle.storage.specs.Nand.{block_size}
use Rattle.storage.specs.Store.{good, writing, reading}
use Rattle.storage.specs.Scratch.{plus, out_k, in_k, part, from_scratch, into_scratch}
use Rattle.storage.proofs.Opens.{sound}
use Rattle.nand_laws.specs.Within.{Bytes, Within, Inside, bytes_take}
use Rattle.nand_laws.specs.Kept as NandKept
use Rattle.nand_laws.specs.Reasons as OfNand
use Rattle.nand_laws.specs.Reasons.{Held, Touched, HeldOrTouched, reason_wide}
use Rattle.storage_laws.specs.Kept as NorKept
use Rattle.storage_laws.specs.Bounds.{chosen, page_fits}
use Rattle.storage_laws.specs.Reasons.{InOrder, Done, Met, nor_nand, within, writing_or_met, reading_or_met, writing_order, reading_order}

-- ---- what a piece leaves for the others

-- e is behind d: of the same shape and size, with no fewer chip calls made
record Behind (d e : Dev) : Type 0 where
  shape : e.store.shape ≡ d.store.shape
  size : length e.chip ≡ length d.chip
  on : d.store.calls ≤ e.store.calls

-- the bytes behind the first n
bytes_drop : (n : ℕ) (xs : List ℕ) → Bytes xs → Bytes (drop n xs)
bytes_drop n xs h i = rw (get_or-drop n xs i 0) (h (n + i))

module _ {d e : Dev} (b : Behind d e) where
  -- the rest of a range is inside again
  rest_inside : (off n m k : ℕ) → Inside d off n → m + k ≡ n → Inside e (off + m) k
  rest_inside off n m k i h =
      let c : e.store.shape.capacity ≡ d.store.shape.capacity = ap (λ (x : Shape). x.capacity) b.shape in
      record { low = omega (arith, i.low); short = omega (arith, i.short, b.size) }

  -- what is met later is met
  met_behind : {l : Lent} {A B : ℕ → Type 0} {f : Dev} → ((k : ℕ) → d.store.shape.kind ≡ Nand → A k → B k) → Met l A e f → Met l B d f
  met_behind g =
      reason_wide b.on (le_refl _) (λ k a. let q = ap (λ (x : Shape). x.kind) (sym b.shape) ∙ a.0 in (q, g k q a.1))

  -- a block that the rest of a range touches is one that the range touches
  rest_touches : {l : Lent} → Within l d → (off n m j k : ℕ) → m + j ≡ n → Touched e (off + m) j k → Touched d off n k
  rest_touches w off n m j k h t =
      let z = block_size d.store in
      let some : 0 < z = mul-le-mul w.page_some w.pages_some in
      let u = subst (λ (x : Shape). ((off + m) / (x.page * x.pages) ≤ k) × (k * (x.page * x.pages) < off + m + j)) b.shape t in
      let first : off / z ≤ (off + m) / z = (le-div_iff_mul-le {k = z} {x = off / z} {y = off + m} some).1 (omega (arith, div-mul-le_self off z)) in
      (omega (arith, u.0), omega (arith, u.1))

-- a block of the front of a range is one of the range
front_asks : (d : Dev) (off m n k : ℕ) → m ≤ n → HeldOrTouched d off m k → HeldOrTouched d off n k
front_asks d off m n k h = ⊎_elim inl (λ t. inr (t.0, omega (arith, t.1)))

module _ (l : Lent) (d : Dev) (o : InOrder l d) where
  -- addresses below the capacity are summed as they are
  summed : (off n m : ℕ) → Inside d off n → m ≤ n → sat_add off m ≡ off + m
  unfolding good
  summed off n m i h = let c = (sound d.store (length d.chip) (length l.marks) (length d.buf) o.taken).capacity_most in omega (arith, i.low)

  wrote_behind : (off : ℕ) (xs : List ℕ) → Behind d (writing l off xs d).dev
  unfolding writing
  wrote_behind off xs =
      chosen l d o.taken (λ (t : Told). Behind d t.dev) _ _ _
      (λ q. let k = NorKept.written_kept l.faults off xs d in record { shape = k.shape; size = k.chip; on = (k.calls o.calls).0 })
      (λ q. let k = NandKept.written_kept l d (page_fits l d o.taken q) off xs in record { shape = k.shape; size = k.chip; on = (k.calls o.calls).0 })

  read_behind : (off : ℕ) (room : List ℕ) → Behind d (reading l off room d).told.dev
  unfolding reading
  read_behind off room =
      chosen l d o.taken (λ (s : Seen). Behind d s.told.dev) _ _ _
      (λ q. let k = NorKept.read_out_kept l.faults off room d in record { shape = k.shape; size = k.chip; on = (k.calls o.calls).0 })
      (λ q. let k = NandKept.read_out_kept l d off room in record { shape = k.shape; size = k.chip; on = (k.calls o.calls).0 })

  -- the block of a page that is held behind a piece
  wrote_held : (off : ℕ) (xs : List ℕ) → Inside d off (length xs) → Bytes xs → (k : ℕ) → d.store.shape.kind ≡ Nand → Held (writing l off xs d).dev k
      → HeldOrTouched d off (length xs) k
  unfolding writing
  wrote_held off xs i b k n =
      chosen l d o.taken (λ (t : Told). Held t.dev k → HeldOrTouched d off (length xs) k) _ _ _ (λ q. nor_nand q n)
      (λ q. OfNand.write_held l d (within l d o q) off xs i b k)

  read_held : (off : ℕ) (room : List ℕ) (k : ℕ) → d.store.shape.kind ≡ Nand → Held (reading l off room d).told.dev k → Held d k
  unfolding reading
  read_held off room k n =
      chosen l d o.taken (λ (s : Seen). Held s.told.dev k → Held d k) _ _ _ (λ q. nor_nand q n) (λ q. OfNand.read_held l d (within l d o q) off room k)

-- ---- pieces out of scratch

-- what a move of n bytes did or met
abbrev pub Moved : Lent → (ℕ → Type 0) → ℕ → Dev → Told → Type 0
Moved l Asks n d t = Done n t ⊎ Met l Asks d t.dev

-- the bytes were taken, or the move met a reason; and the store is in order
abbrev Went : Lent → ℕ → List ℕ → Dev → Told → Type 0
Went l off xs d t = Moved l (HeldOrTouched d off (length xs)) (length xs) d t × InOrder l t.dev

-- so it is of pieces that are enough for their bytes
out_or_met : (k : ℕ) (l : Lent) (off : ℕ) (xs : List ℕ) (d : Dev) → InOrder l d → Inside d off (length xs) → Bytes xs → length xs ≤ k * 256
    → Went l off xs d (out_k k l off xs d)
unfolding out_k
out_or_met zero l off xs d o i b h = (inl (refl, omega arith), o)
out_or_met (suc k) l off xs d o i b h =
    let n = length-drop 256 xs in
    go (λ a p q. out_or_met k l a (drop 256 xs) t.dev p q (bytes_drop 256 xs b) (omega arith)) (eqb t.count m) refl
  where
    x : List ℕ
    x = take 256 xs

    m : ℕ
    m = length x

    t : Told
    t = writing l off x d

    long : m ≡ min 256 (length xs)
    long = length-take 256 xs

    left : length (drop 256 xs) ≡ length xs - 256
    left = length-drop 256 xs

    front : Inside d off m
    front = record { low = omega (arith, long, i.low); short = omega (arith, long, i.short) }

    order : InOrder l t.dev
    order = writing_order l d o off x front (bytes_take 256 xs b)

    behind : Behind d t.dev
    behind = wrote_behind l d o off x

    first : Moved l (HeldOrTouched d off m) m d t
    first = writing_or_met l d o off x front (bytes_take 256 xs b)

    rest : (a : ℕ) → a ≡ off + m → Inside t.dev a (length (drop 256 xs))
    rest a e = subst (λ (z : ℕ). Inside t.dev z (length (drop 256 xs))) (sym e) (rest_inside behind off (length xs) m (length (drop 256 xs)) i (omega (arith, long, left)))

    asks : (a : ℕ) → a ≡ off + m → (j : ℕ) → d.store.shape.kind ≡ Nand → HeldOrTouched t.dev a (length (drop 256 xs)) j → HeldOrTouched d off (length xs) j
    asks a e j n =
        ⊎_elim (λ c. front_asks d off m (length xs) j (omega (arith, long, left)) (wrote_held l d o off x front (bytes_take 256 xs b) j n c))
        (λ c. inr (rest_touches behind (within l d o n) off (length xs) m (length (drop 256 xs)) j (omega (arith, long, left)) (subst (λ (z : ℕ). Touched t.dev z (length (drop 256 xs)) j) e c)))

    go : ((a : ℕ) → InOrder l t.dev → Inside t.dev a (length (drop 256 xs)) → Went l a (drop 256 xs) t.dev (out_k k l a (drop 256 xs) t.dev))
        → (c : Bool) → eqb t.count m ≡ c
        → Went l off xs d (cond c (plus t.count (out_k k l (sat_add off t.count) (drop 256 xs) t.dev)) (told 0 t.count t.dev))
    go more true q =
        let n : t.count ≡ m = eqb-true t.count m q in
        let a : sat_add off t.count ≡ off + m = ap (sat_add off) n ∙ summed l d o off (length xs) m i (omega (arith, long, left)) in
        let r = more (sat_add off t.count) order (rest (sat_add off t.count) a) in
        (⊎_elim (λ w. inl (refl, omega (arith, long, left, n, w.1))) (λ w. inr (met_behind behind (asks (sat_add off t.count) a) w)) r.0, r.1)
    go more false q = (
      ⊎_elim (λ w. absurd (eqb-false t.count m q w.1))
          (λ w. inr (reason_wide (le_refl _) (le_refl _) (λ j a. (a.0, front_asks d off m (length xs) j (omega (arith, long, left)) a.1)) w)) first,
      order,
    )

-- ---- pieces into scratch

-- the room was filled, or the move met a reason; and the store is in order
abbrev Came : Lent → List ℕ → Dev → Told → Type 0
Came l room d t = Moved l (Held d) (length room) d t × InOrder l t.dev

-- so it is of pieces that are enough for their room
in_or_met : (k : ℕ) (l : Lent) (off : ℕ) (room : List ℕ) (d : Dev) → InOrder l d → Inside d off (length room) → length room ≤ k * 256
    → Came l room d (in_k k l off room d).told
unfolding in_k
in_or_met zero l off room d o i h = (inl (refl, omega arith), o)
in_or_met (suc k) l off room d o i h =
    let n = length-drop 256 room in
    go (λ a p q. in_or_met k l a (drop 256 room) t.dev p q (omega arith)) (eqb t.count m) refl
  where
    x : List ℕ
    x = take 256 room

    m : ℕ
    m = length x

    s : Seen
    s = reading l off x d

    t : Told
    t = s.told

    long : m ≡ min 256 (length room)
    long = length-take 256 room

    left : length (drop 256 room) ≡ length room - 256
    left = length-drop 256 room

    order : InOrder l t.dev
    order = reading_order l d o off x

    behind : Behind d t.dev
    behind = read_behind l d o off x

    first : Moved l (Held d) m d t
    first = reading_or_met l d o off x (record { low = omega (arith, long, i.low); short = omega (arith, long, i.short) })

    rest : (a : ℕ) → a ≡ off + m → Inside t.dev a (length (drop 256 room))
    rest a e = subst (λ (z : ℕ). Inside t.dev z (length (drop 256 room))) (sym e) (rest_inside behind off (length room) m (length (drop 256 room)) i (omega (arith, long, left)))

    u : Bool → Seen
    u c = let r = in_k k l (sat_add off t.count) (drop 256 room) t.dev in cond c (seen (plus t.count r.told) (s.room ++ r.room)) (seen (told 0 t.count t.dev) (s.room ++ drop 256 room))

    go : ((a : ℕ) → InOrder l t.dev → Inside t.dev a (length (drop 256 room)) → Came l (drop 256 room) t.dev (in_k k l a (drop 256 room) t.dev).told)
        → (c : Bool) → eqb t.count m ≡ c → Came l room d (u c).told
    go more true q =
        let n : t.count ≡ m = eqb-true t.count m q in
        let a : sat_add off t.count ≡ off + m = ap (sat_add off) n ∙ summed l d o off (length room) m i (omega (arith, long, left)) in
        let r = more (sat_add off t.count) order (rest (sat_add off t.count) a) in
        (⊎_elim (λ w. inl (refl, omega (arith, long, left, n, w.1))) (λ w. inr (met_behind behind (read_held l d o off x) w)) r.0, r.1)
    go more false q = (⊎_elim (λ w. absurd (eqb-false t.count m q w.1)) inr first, order)

-- ---- the theorems

module _ (l : Lent) (d : Dev) (o : InOrder l d) (off at n : ℕ) (scratch : List ℕ) (i : Inside d off (length (part scratch at n))) where
  -- a move out of scratch takes every byte, or one of its chip calls was told to fail, or the held page's block or one that the bytes
  -- touch is marked bad
  pub from_or_met : Bytes (part scratch at n)
      → (let m = length (part scratch at n) in Moved l (HeldOrTouched d off m) m d (from_scratch l off at n scratch d))
  unfolding from_scratch
  from_or_met b = rw o.taken (out_or_met (pages_of 256 (length (part scratch at n))) l off (part scratch at n) d o i b (omega arith)).0

  -- and leaves the store in order
  pub from_order : Bytes (part scratch at n) → InOrder l (from_scratch l off at n scratch d).dev
  unfolding from_scratch
  from_order b = rw o.taken (out_or_met (pages_of 256 (length (part scratch at n))) l off (part scratch at n) d o i b (omega arith)).1

  -- a move into scratch fills its part, or one of its chip calls was told to fail, or the held page's block is marked bad
  pub into_or_met : Moved l (Held d) (length (part scratch at n)) d (into_scratch l off at n scratch d).told
  unfolding into_scratch
  into_or_met = rw o.taken (in_or_met (pages_of 256 (length (part scratch at n))) l off (part scratch at n) d o i (omega arith)).0

  -- and leaves the store in order
  pub into_order : InOrder l (into_scratch l off at n scratch d).told.dev
  unfolding into_scratch
  into_order = rw o.taken (in_or_met (pages_of 256 (length (part scratch at n))) l off (part scratch at n) d o i (omega arith)).1
