-- A record that was packed is unpacked again, whatever it was packed over and whatever lies behind its 652 bytes (`unpack_laid`). And a
-- record that was unpacked, packed again, writes nothing new: with another place in the reply it is two numbers (`pack_said`).
use Rattle.std.specs.Prelude.{◌≡◌, Bool, true, false, not, cond, eqb, length, get_or, drop}
use Rattle.std.proofs.Math.Path.{refl, ap}
use Rattle.std.proofs.Common.{sym, ap₂, ◌∙◌, mod-eq_of_lt, pow-suc, arith, eqb-true, lit<, length-append, length-take, take-append-drop, take-add, drop-cons, drop-drop, get_or-drop}
use mathlib.Core.List.{List, [], ◌∷◌, ◌++◌, append_assoc}
use Prim.Native.Nat.{ℕ, zero, suc, ◌+◌, ◌*◌, ◌/◌, ◌%◌, ◌^◌, ◌<◌, ◌≤◌}
use Rattle.std.proofs.Math.ListN.{take, length-drop}
use Rattle.std.proofs.Math.Seq.{take_at}
use Rattle.wire.specs.Bytes.{bytes_of, le, word_at, laid}
use Rattle.wire.proofs.Copies.{laid_fits}
use Rattle.wire.proofs.Words.{le_bytes_of}
use Rattle.storage.specs.declared.types.Kind.{Kind}
use Rattle.storage.specs.declared.types.Kind.TheVariants.{Nor, Nand}
use Rattle.storage.specs.declared.types.Shape.{Shape}
use Rattle.storage.specs.declared.types.Store.{Store}
use Rattle.engine.specs.declared.types.Engine.{Engine}
use Rattle.engine.specs.declared.types.Update.{Update}
use Rattle.engine.specs.World.{with_said}
use Rattle.lamjhotu.specs.State.{mark_over, is_nor, is_block, block_over, four_of, words_over, smalls_of, marks_over, pack_over, set_of, kind_of, erased_of, meta_at, shape_at, store_at, update_at, unpack_of}
use Rattle.std.specs.Prelude.{Option, None, Some}

-- ---- a field alone

word8 : (x : ℕ) → x < 2 ^ 64 → le (bytes_of 8 x) ≡ x
word8 x h = le_bytes_of 8 x ∙ mod-eq_of_lt h

word4 : (x : ℕ) → x < 2 ^ 32 → le (bytes_of 4 x) ≡ x
word4 x h = le_bytes_of 4 x ∙ mod-eq_of_lt h

mark_back : (old : ℕ) (b : Bool) → set_of (mark_over old b) ≡ b
unfolding mark_over
mark_back old true = go (eqb old 0) refl
  where
    go : (t : Bool) → eqb old 0 ≡ t → set_of (cond t 1 old) ≡ true
    go true h = refl
    go false h = ap not h
mark_back old false = refl

kind_back : (old : ℕ) (k : Kind) → kind_of (set_of (mark_over old (is_nor k))) ≡ k
kind_back old Nor = ap kind_of (mark_back old true)
kind_back old Nand = ap kind_of (mark_back old false)

erased_back : (old w : ℕ) (x : Option ℕ) {n : ℕ} → n ≡ block_over w x → erased_of (set_of (mark_over old (is_block x))) n ≡ x
erased_back old w None {n} h = ap (λ (b : Bool). erased_of b n) (mark_back old false)
erased_back old w (Some n) h = ap₂ erased_of (mark_back old true) h

-- ---- a record by its fields

shape_is : (p : Shape) {k : Kind} {a b c d f g : ℕ} → k ≡ p.kind → a ≡ p.page → b ≡ p.pages → c ≡ p.blocks → d ≡ p.capacity → f ≡ p.stage → g ≡ p.device
    → ◌≡◌ {A = Shape} (record { kind = k; page = a; pages = b; blocks = c; capacity = d; stage = f; device = g }) p
shape_is p h i j l m n o = rw (h, i, j, l, m, n, o)

store_is : (t : Store) {p : Shape} {h : Bool} {a : ℕ} {x : Option ℕ} {n : ℕ} → p ≡ t.shape → h ≡ t.held → a ≡ t.at → x ≡ t.erased → n ≡ t.calls
    → ◌≡◌ {A = Store} (record { shape = p; held = h; at = a; erased = x; calls = n }) t
store_is t h i j k l = rw (h, i, j, k, l)

update_is : (u : Update) {m : List ℕ} {v w : Bool} {a b c d f g : ℕ} → m ≡ u.meta → v ≡ u.valid → w ≡ u.aimed → a ≡ u.target → b ≡ u.written → c ≡ u.crc
    → d ≡ u.burn → f ≡ u.run → g ≡ u.left
    → ◌≡◌ {A = Update} (record { meta = m; valid = v; aimed = w; target = a; written = b; crc = c; burn = d; run = f; left = g }) u
update_is u h i j k l m n o p = rw (h, i, j, k, l, m, n, o, p)

engine_is : (e : Engine) {a b c d : ℕ} {u : Update} {v w : Bool} {f : ℕ} {t : Store} → a ≡ e.frame.len → b ≡ e.frame.total → c ≡ e.said.len → d ≡ e.said.pos
    → u ≡ e.up → v ≡ e.upgrading → w ≡ e.asked → f ≡ e.base → t ≡ e.store
    → ◌≡◌ {A = Engine} (record { frame = record { len = a; total = b }; said = record { len = c; pos = d }; up = u; upgrading = v; asked = w; base = f; store = t }) e
engine_is e h i j k l m n o p = rw (h, i, j, k, l, m, n, o, p)

-- ---- the whole

-- every number is in the range of its type, and the metadata are 512 bytes. The code's records all are so, as their types say
pub record Ranged (e : Engine) : Type 0 where
  pub len : e.frame.len < 2 ^ 64
  pub total : e.frame.total < 2 ^ 64
  pub said : e.said.len < 2 ^ 64
  pub pos : e.said.pos < 2 ^ 64
  pub meta : length e.up.meta ≡ 512
  pub target : e.up.target < 2 ^ 64
  pub written : e.up.written < 2 ^ 64
  pub left : e.up.left < 2 ^ 64
  pub crc : e.up.crc < 2 ^ 32
  pub burn : e.up.burn < 2 ^ 32
  pub run : e.up.run < 2 ^ 32
  pub base : e.base < 2 ^ 32
  pub page : e.store.shape.page < 2 ^ 64
  pub pages : e.store.shape.pages < 2 ^ 64
  pub blocks : e.store.shape.blocks < 2 ^ 64
  pub capacity : e.store.shape.capacity < 2 ^ 64
  pub stage : e.store.shape.stage < 2 ^ 8
  pub device : e.store.shape.device < 2 ^ 32
  pub at : e.store.at < 2 ^ 64
  pub erased : block_over 0 e.store.erased < 2 ^ 64
  pub calls : e.store.calls < 2 ^ 64

-- every element is a byte
abbrev pub Bytes : List ℕ → Type 0
Bytes s = (k : ℕ) → get_or s k 0 < 256

powers : (n : ℕ) → 0 < 256 ^ n
powers zero = lit< tt
powers (suc n) = rw pow-suc (omega (arith, powers n))

le_below : (n : ℕ) (s : List ℕ) → Bytes s → le (take n s) < 256 ^ n
unfolding le
le_below zero s h = lit< tt
le_below (suc n) [] h = powers (suc n)
le_below (suc n) (b ∷ s) h = rw pow-suc (omega (arith, h 0, le_below n s (λ k. h (suc k))))

drop_bytes : (at : ℕ) (s : List ℕ) → Bytes s → Bytes (drop at s)
drop_bytes at s h k = rw get_or-drop (h (at + k))

block_below : (w : ℕ) (x : Option ℕ) → w < 2 ^ 64 → block_over 0 x < 2 ^ 64 → block_over w x < 2 ^ 64
block_below w None h i = h
block_below w (Some n) h i = i

module _ (s : List ℕ) (e : Engine) (rest : List ℕ) (r : Ranged e) (b : Bytes s) where
  word_below : word_at 8 s 96 < 2 ^ 64
  unfolding word_at
  word_below = le_below 8 (drop 96 s) (drop_bytes 96 s b)

  shape_back : shape_at (pack_over s e ++ rest) ≡ e.store.shape
  unfolding shape_at pack_over words_over smalls_of marks_over four_of bytes_of word_at
  shape_back =
      shape_is e.store.shape (kind_back (get_or s 138 0) e.store.shape.kind) (word8 _ r.page) (word8 _ r.pages) (word8 _ r.blocks) (word8 _ r.capacity) refl
      (word4 _ r.device)

  store_back : store_at (pack_over s e ++ rest) ≡ e.store
  unfolding store_at pack_over words_over smalls_of marks_over four_of bytes_of word_at
  store_back =
      store_is e.store shape_back (mark_back (get_or s 137 0) e.store.held) (word8 _ r.at)
      (erased_back (get_or s 139 0) (word_at 8 s 96) e.store.erased (word8 _ (block_below (word_at 8 s 96) e.store.erased word_below r.erased))) (word8 _ r.calls)

  meta_back : meta_at (pack_over s e ++ rest) ≡ e.up.meta
  unfolding meta_at pack_over words_over smalls_of marks_over four_of bytes_of
  meta_back = take_at e.up.meta rest 512 r.meta

  update_back : update_at (pack_over s e ++ rest) ≡ e.up
  unfolding update_at pack_over words_over smalls_of marks_over four_of bytes_of word_at
  update_back =
      update_is e.up meta_back (mark_back (get_or s 133 0) e.up.valid) (mark_back (get_or s 134 0) e.up.aimed) (word8 _ r.target) (word8 _ r.written) (word4 _ r.crc)
      (word4 _ r.burn) (word4 _ r.run) (word8 _ r.left)

  pub unpack_pack : unpack_of (pack_over s e ++ rest) ≡ e
  unfolding unpack_of pack_over words_over smalls_of marks_over four_of bytes_of word_at
  unpack_pack =
      engine_is e (word8 _ r.len) (word8 _ r.total) (word8 _ r.said) (word8 _ r.pos) update_back (mark_back (get_or s 135 0) e.upgrading) (mark_back (get_or s 136 0) e.asked)
      (word4 _ r.base) store_back

-- it is 652 bytes
pub length_pack : (s : List ℕ) (e : Engine) → length e.up.meta ≡ 512 → length (pack_over s e) ≡ 652
unfolding pack_over words_over smalls_of marks_over four_of bytes_of
length_pack s e h = omega arith

-- what a call leaves in a state is what the next one finds there
pub unpack_laid : (e : Engine) (s : List ℕ) → Ranged e → Bytes s → 652 ≤ length s → unpack_of (laid s 0 (pack_over s e)) ≡ e
unpack_laid e s r b h =
    let n : length (pack_over s e) ≡ 652 = length_pack s e r.meta in
    ap unpack_of (laid_fits s 0 (pack_over s e) (omega arith)) ∙ unpack_pack s e (drop (length (pack_over s e)) s) r b

-- ---- packed over what it was unpacked from

-- the bytes of a number that bytes make
le_back : (n : ℕ) (s : List ℕ) → Bytes s → n ≤ length s → bytes_of n (le (take n s)) ≡ take n s
unfolding bytes_of le
le_back zero s b h = refl
le_back (suc n) [] b h = absurd (omega arith)
le_back (suc n) (x ∷ s) b h =
    let i : (x + 256 * le (take n s)) % 256 ≡ x = omega (arith, b 0) in
    let j : (x + 256 * le (take n s)) / 256 ≡ le (take n s) = omega (arith, b 0) in
    ap₂ (λ (y : ℕ) (l : List ℕ). y ∷ l) i (ap (bytes_of n) j ∙ le_back n s (λ k. b (suc k)) (omega arith))

mark_same : (old : ℕ) → mark_over old (set_of old) ≡ old
unfolding mark_over
mark_same old = go (eqb old 0) refl
  where
    go : (t : Bool) → eqb old 0 ≡ t → cond (not t) (cond t 1 old) 0 ≡ old
    go true h = sym (eqb-true old 0 h)
    go false h = refl

pub kind_same : (b : Bool) → is_nor (kind_of b) ≡ b
kind_same true = refl
kind_same false = refl

block_same : (b : Bool) (n : ℕ) → is_block (erased_of b n) ≡ b
block_same true n = refl
block_same false n = refl

number_same : (b : Bool) (n : ℕ) → block_over n (erased_of b n) ≡ n
number_same true n = refl
number_same false n = refl

module _ (s : List ℕ) (b : Bytes s) (h : 652 ≤ length s) where
  -- a number's bytes where it was read
  pub piece : (n at : ℕ) → at + n ≤ 652 → bytes_of n (word_at n s at) ≡ take n (drop at s)
  unfolding word_at
  piece n at i = le_back n (drop at s) (drop_bytes at s b) (rw length-drop (omega arith))

  -- a part of the state and the part behind it
  pub on : (n m at : ℕ) {k : ℕ} {p q : List ℕ} → k ≡ at + n → p ≡ take n (drop at s) → q ≡ take m (drop k s) → p ++ q ≡ take (n + m) (drop at s)
  on n m at i j l = ap₂ (λ (x y : List ℕ). x ++ y) j (l ∙ ap (λ (k : ℕ). take m (drop k s)) i ∙ ap (take m) (sym (drop-drop n at s))) ∙ sym (take-add n m (drop at s))

  pub fours : (at : ℕ) → at + 32 ≤ 652 → four_of (word_at 8 s at) (word_at 8 s (at + 8)) (word_at 8 s (at + 16)) (word_at 8 s (at + 24)) ≡ take 32 (drop at s)
  unfolding four_of
  fours at i =
      on 8 24 at refl (piece 8 at (omega arith))
      (on 8 16 (at + 8) {k = at + 16} (omega arith) (piece 8 (at + 8) (omega arith))
      (on 8 8 (at + 16) {k = at + 24} (omega arith) (piece 8 (at + 16) (omega arith)) (piece 8 (at + 24) (omega arith))))

  -- bytes 32 to 112
  numbers : List ℕ
  numbers =
      four_of (word_at 8 s 32) (word_at 8 s 40) (word_at 8 s 48) (word_at 8 s 56)
      ++ (four_of (word_at 8 s 64) (word_at 8 s 72) (word_at 8 s 80) (word_at 8 s 88)
      ++ (bytes_of 8 (block_over (word_at 8 s 96) (erased_of (set_of (get_or s 139 0)) (word_at 8 s 96))) ++ bytes_of 8 (word_at 8 s 104)))

  numbers_same : numbers ≡ take 80 (drop 32 s)
  unfolding numbers
  numbers_same =
      on 32 48 32 refl (fours 32 (omega arith))
      (on 32 16 64 refl (fours 64 (omega arith))
      (on 8 8 96 refl (ap (bytes_of 8) (number_same (set_of (get_or s 139 0)) (word_at 8 s 96)) ∙ piece 8 96 (omega arith)) (piece 8 104 (omega arith))))

  smalls_same : smalls_of (unpack_of s) ≡ take 20 (drop 112 s)
  unfolding smalls_of unpack_of update_at store_at shape_at
  smalls_same =
      on 4 16 112 refl (piece 4 112 (omega arith))
      (on 4 12 116 refl (piece 4 116 (omega arith))
      (on 4 8 120 refl (piece 4 120 (omega arith)) (on 4 4 124 refl (piece 4 124 (omega arith)) (piece 4 128 (omega arith)))))

  -- a byte alone, and a mark over the byte that it was read from
  pub one : (k : ℕ) → k < 652 → get_or s k 0 ∷ [] ≡ take 1 (drop k s)
  one k i = sym (ap (take 1) (drop-cons s k 0 (omega arith)))

  pub marked : (k : ℕ) {m : Bool} → k < 652 → m ≡ set_of (get_or s k 0) → mark_over (get_or s k 0) m ∷ [] ≡ take 1 (drop k s)
  marked k i e = ap (λ (m : Bool). mark_over (get_or s k 0) m ∷ []) e ∙ ap (λ (x : ℕ). x ∷ []) (mark_same (get_or s k 0)) ∙ one k i

  marks_same : marks_over s (unpack_of s) ≡ take 8 (drop 132 s)
  unfolding marks_over unpack_of update_at store_at shape_at
  marks_same =
      on 1 7 132 refl (one 132 (omega arith))
      (on 1 6 133 refl (marked 133 (omega arith) refl)
      (on 1 5 134 refl (marked 134 (omega arith) refl)
      (on 1 4 135 refl (marked 135 (omega arith) refl)
      (on 1 3 136 refl (marked 136 (omega arith) refl)
      (on 1 2 137 refl (marked 137 (omega arith) refl)
      (on 1 1 138 refl (marked 138 (omega arith) (kind_same (set_of (get_or s 138 0)))) (marked 139 (omega arith) (block_same (set_of (get_or s 139 0)) (word_at 8 s 96)))))))))

  -- all behind the place in the reply
  behind_same : numbers ++ (smalls_of (unpack_of s) ++ (marks_over s (unpack_of s) ++ meta_at s)) ≡ take 620 (drop 32 s)
  unfolding meta_at
  behind_same = on 80 540 32 refl numbers_same (on 20 520 112 refl smalls_same (on 8 512 132 refl marks_same refl))

  -- all before it
  before_same : bytes_of 8 (word_at 8 s 0) ++ bytes_of 8 (word_at 8 s 8) ≡ take 16 s
  before_same = on 8 8 0 refl (piece 8 0 (omega arith)) (piece 8 8 (omega arith))

  -- the record with another place in the reply
  abbrev said_so : ℕ → ℕ → Engine
  said_so l p = with_said (record { len = l; pos = p }) (unpack_of s)

  pack_parts : (l p : ℕ) → pack_over s (said_so l p) ≡ take 16 s ++ ((bytes_of 8 l ++ bytes_of 8 p) ++ take 620 (drop 32 s))
  unfolding pack_over words_over smalls_of marks_over numbers four_of unpack_of update_at store_at shape_at
  pack_parts l p =
      let x : List ℕ = bytes_of 8 (word_at 8 s 0) in
      let y : List ℕ = bytes_of 8 (word_at 8 s 8) in
      let w : List ℕ = bytes_of 8 l ++ bytes_of 8 p in
      let t : List ℕ = take 620 (drop 32 s) in
      append_assoc (x ++ (y ++ w)) numbers (smalls_of (unpack_of s) ++ (marks_over s (unpack_of s) ++ meta_at s))
      ∙ ap (λ (z : List ℕ). (x ++ (y ++ w)) ++ z) behind_same
      ∙ ap (λ (z : List ℕ). z ++ t) (sym (append_assoc x y w))
      ∙ append_assoc (x ++ y) w t
      ∙ ap (λ (z : List ℕ). z ++ (w ++ t)) before_same

  -- bytes laid with what stands before and behind them
  pub over : (a m : ℕ) (xs : List ℕ) → a + length xs + m ≤ length s → laid s 0 (take a s ++ (xs ++ take m (drop (a + length xs) s))) ≡ laid s a xs
  over a m xs i =
      let k : ℕ = a + length xs in
      let t : List ℕ = take m (drop k s) in
      let ys : List ℕ = take a s ++ (xs ++ t) in
      let n : length ys ≡ k + m = rw (length-append, length-append, length-take, length-take, length-drop) (omega arith) in
      let d : List ℕ = drop (length ys) s in
      let r : t ++ d ≡ drop k s = ap (λ (j : ℕ). t ++ drop j s) n ∙ ap (λ (l : List ℕ). t ++ l) (sym (drop-drop m k s)) ∙ take-append-drop m (drop k s) in
      laid_fits s 0 ys (omega arith)
      ∙ append_assoc (take a s) (xs ++ t) d
      ∙ ap (λ (l : List ℕ). take a s ++ l) (append_assoc xs t d ∙ ap (λ (l : List ℕ). xs ++ l) (r ∙ sym (drop-drop (length xs) a s)))
      ∙ sym (laid_fits s a xs (omega arith))

  pub pack_said : (l p : ℕ) → laid s 0 (pack_over s (said_so l p)) ≡ laid s 16 (bytes_of 8 l ++ bytes_of 8 p)
  unfolding bytes_of
  pack_said l p = ap (laid s 0) (pack_parts l p) ∙ over 16 620 (bytes_of 8 l ++ bytes_of 8 p) h
