-- The record's bytes as the code lays and reads them.
use mathlib.Core.Path.{◌≡◌, refl, sym, ap, ◌∙◌}
use mathlib.Core.Bool.{Bool, cond}
use Rattle.std.specs.Prelude.{Option, None, Some, max}
use Rattle.std.specs.Option.{unwrap_or}
use Rattle.std.specs.Int.{w32, w64, from_le_bytes}
use Rattle.std.proofs.Math.Nat.{max-eq_left}
use lib.Dec.{eqb}
use borrow.Author.Tests.{ne_eqb}
use mathlib.Core.List.{List, [], ◌∷◌, ◌++◌}
use Prim.Native.Nat.{ℕ, zero, suc, ◌+◌, ◌*◌, ◌≤◌}
use native.Mathlib.Nat.{add-zero}
use native.Mathlib.Omega.{arith}
use lib.ListN.{length, set, get_or, drop, length-set}
use lib.Seq.{get_or-drop}
use Rattle.wire.specs.Bytes.{bytes_of, word_at, laid}
use Rattle.wire.proofs.Copies.{laid_whole}
use Rattle.wire.proofs.Words.{four, eight_at}
use Rattle.std.proofs.Common.{length-take, length-drop}
use Rattle.storage.specs.declared.types.Store.{Store}
use Rattle.engine.specs.declared.types.Engine.{Engine}
use Rattle.engine.specs.World.{with_said}
use Rattle.lamjhotu.specs.State.{mark_over, is_block, block_over, meta_at, update_at, four_of, words_over, smalls_of, marks_over, pack_over, shape_at, unpack_of, counted}
use Rattle.lamjhotu.specs.StateLaws.{Bytes, length_pack, pack_said}
use Rattle.lamjhotu.specs.PieceLaws.{laid_fit, skip, pack_counted}

-- ---- a word from its bytes

-- four bytes from a, at places that are told by their distance from another
four_at : (s : List ℕ) (a b c d : ℕ) → b ≡ a + 1 → c ≡ a + 2 → d ≡ a + 3
    → get_or s a 0 + 256 * (get_or s b 0 + 256 * (get_or s c 0 + 256 * get_or s d 0)) ≡ word_at 4 s a
unfolding word_at
four_at s a b c d h i j =
    let z : get_or (drop a s) 0 0 ≡ get_or s a 0 = get_or-drop a s 0 0 ∙ ap (λ (k : ℕ). get_or s k 0) (add-zero a) in
    rw (h, i, j) (omega (arith, four (drop a s), z, get_or-drop a s 1 0, get_or-drop a s 2 0, get_or-drop a s 3 0))

eight : (s : List ℕ) (at : ℕ) → word_at 4 s at + 0x1_0000_0000 * word_at 4 s (at + 4) ≡ word_at 8 s at
unfolding word_at
eight s at = eight_at s at

pub small_told : (s : List ℕ) (at : ℕ) → from_le_bytes w32 (get_or s at 0 ∷ get_or s (at + 1) 0 ∷ get_or s (at + 2) 0 ∷ get_or s (at + 3) 0 ∷ []) ≡ word_at 4 s at
small_told s at = omega (arith, four_at s at (at + 1) (at + 2) (at + 3) refl refl refl)

pub word_told : (s : List ℕ) (at : ℕ)
    → from_le_bytes w64 (get_or s at 0 ∷ get_or s (at + 1) 0 ∷ get_or s (at + 2) 0 ∷ get_or s (at + 3) 0 ∷ get_or s (at + 4) 0 ∷ get_or s (at + 5) 0 ∷ get_or s (at + 6) 0 ∷ get_or s (at + 7) 0 ∷ []) ≡ word_at 8 s at
word_told s at =
    omega (arith, four_at s at (at + 1) (at + 2) (at + 3) refl refl refl, four_at s (at + 4) (at + 5) (at + 6) (at + 7) (omega arith) (omega arith) (omega arith), eight s at)

-- ---- a field from its parts, and over those that stand there

pub one_more : (old : ℕ) → max old 1 ≡ cond (eqb old 0) 1 old
one_more zero = refl
one_more (suc n) = max-eq_left (omega arith) ∙ ap (λ (b : Bool). cond b 1 (suc n)) (sym (ne_eqb (suc n) 0 (λ h. omega (arith, h))))

pub block_told : (x : Option ℕ) {w b old : ℕ} → w ≡ old → b ≡ unwrap_or x w → b ≡ block_over old x
block_told None h i = i ∙ h
block_told (Some n) h i = i

-- the bytes that are laid are those of a number
pub put_as : (s : List ℕ) (at : ℕ) {x y p : List ℕ} → x ≡ y → p ≡ laid s at x → p ≡ laid s at y
put_as s at h i = i ∙ ap (laid s at) h

-- ---- one piece behind another

-- ys laid right behind xs
pub behind : (s : List ℕ) (at : ℕ) (xs ys : List ℕ) {p q : List ℕ} → at + (length xs + length ys) ≤ length s → p ≡ laid s at xs → q ≡ laid p (at + length xs) ys
    → q ≡ laid s at (xs ++ ys)
behind s at xs ys h a b =
    let k : ℕ = at + length xs in
    b
    ∙ ap (λ (l : List ℕ). laid l k ys) a
    ∙ ap (λ (k : ℕ). laid (laid s at xs) k ys) (sym (add-zero k))
    ∙ sym (skip s at xs [] refl ys (omega arith))

-- ---- four numbers, the twenty, and the whole

module _ (s : List ℕ) (at a b c d : ℕ) (h : at + 32 ≤ length s) where
  pub four_told : {p q r t : List ℕ} → p ≡ laid s at (bytes_of 8 a) → q ≡ laid p (at + 8) (bytes_of 8 b) → r ≡ laid q (at + 16) (bytes_of 8 c) → t ≡ laid r (at + 24) (bytes_of 8 d)
      → t ≡ laid s at (four_of a b c d)
  unfolding four_of bytes_of
  four_told i j k l =
      behind s at (bytes_of 8 a ++ (bytes_of 8 b ++ bytes_of 8 c)) (bytes_of 8 d) h
      (behind s at (bytes_of 8 a ++ bytes_of 8 b) (bytes_of 8 c) (omega arith) (behind s at (bytes_of 8 a) (bytes_of 8 b) (omega arith) i j) k)
      l

module _ (s : List ℕ) (e : Engine) (h : 652 ≤ length s) where
  abbrev w₁ : List ℕ
  w₁ = four_of e.frame.len e.frame.total e.said.len e.said.pos

  abbrev w₂ : List ℕ
  w₂ = four_of e.up.target e.up.written e.up.left e.store.shape.capacity

  abbrev w₃ : List ℕ
  w₃ = four_of e.store.shape.page e.store.shape.pages e.store.shape.blocks e.store.at

  pub words_told : {b : ℕ} {p q r t : List ℕ} → b ≡ block_over (word_at 8 s 96) e.store.erased → p ≡ laid s 0 w₁ → q ≡ laid p 32 w₂ → r ≡ laid q 64 w₃
      → t ≡ laid r 96 (bytes_of 8 b ++ bytes_of 8 e.store.calls) → t ≡ laid s 0 (words_over s e)
  unfolding words_over four_of bytes_of
  words_told {r = r} x i j k l =
      let z : ℕ → List ℕ = λ (b : ℕ). bytes_of 8 b ++ bytes_of 8 e.store.calls in
      behind s 0 (w₁ ++ (w₂ ++ w₃)) (z (block_over (word_at 8 s 96) e.store.erased)) (omega arith) (behind s 0 (w₁ ++ w₂) w₃ (omega arith) (behind s 0 w₁ w₂ (omega arith) i j) k)
      (l ∙ ap (λ (b : ℕ). laid r 96 (z b)) x)

  pub smalls_told : {p q r t u : List ℕ} → p ≡ laid s 112 (bytes_of 4 e.up.crc) → q ≡ laid p 116 (bytes_of 4 e.up.burn) → r ≡ laid q 120 (bytes_of 4 e.up.run)
      → t ≡ laid r 124 (bytes_of 4 e.base) → u ≡ laid t 128 (bytes_of 4 e.store.shape.device) → u ≡ laid s 112 (smalls_of e)
  unfolding smalls_of bytes_of
  smalls_told i j k l m =
      let a : List ℕ = bytes_of 4 e.up.crc in
      let b : List ℕ = bytes_of 4 e.up.burn in
      let c : List ℕ = bytes_of 4 e.up.run in
      let d : List ℕ = bytes_of 4 e.base in
      behind s 112 (a ++ (b ++ (c ++ d))) (bytes_of 4 e.store.shape.device) (omega arith)
      (behind s 112 (a ++ (b ++ c)) d (omega arith) (behind s 112 (a ++ b) c (omega arith) (behind s 112 a b (omega arith) i j) k) l)
      m

  all_laid : {x : List ℕ} {p q r t : List ℕ} → length e.up.meta ≡ 512 → x ≡ marks_over s e → p ≡ laid s 0 (words_over s e) → q ≡ laid p 112 (smalls_of e) → r ≡ laid q 132 x
      → t ≡ laid r 140 e.up.meta → t ≡ laid s 0 (pack_over s e)
  unfolding pack_over words_over smalls_of marks_over four_of bytes_of
  all_laid {q = q} n x i j k l =
      behind s 0 (words_over s e ++ (smalls_of e ++ marks_over s e)) e.up.meta (omega arith)
      (behind s 0 (words_over s e ++ smalls_of e) (marks_over s e) (omega arith) (behind s 0 (words_over s e) (smalls_of e) (omega arith) i j)
      (k ∙ ap (λ (m : List ℕ). laid q 132 m) x))
      l

-- a record is 652 bytes, so what is laid over all of it is what comes of it
module _ (s : List ℕ) (e : Engine) (h : length s ≡ 652) where
  all : length e.up.meta ≡ 512 → laid s 0 (pack_over s e) ≡ pack_over s e
  all n = laid_whole s (pack_over s e) (length_pack s e n ∙ sym h)

  pub pack_told : {x : List ℕ} {p q r t : List ℕ} → length e.up.meta ≡ 512 → x ≡ marks_over s e → p ≡ laid s 0 (words_over s e) → q ≡ laid p 112 (smalls_of e) → r ≡ laid q 132 x
      → t ≡ laid r 140 e.up.meta → t ≡ pack_over s e
  pack_told n x i j k l = all_laid s e (omega (arith, h)) n x i j k l ∙ all n

-- the metadata that a record's bytes hold
meta_in : (s : List ℕ) → length s ≡ 652 → length (unpack_of s).up.meta ≡ 512
unfolding unpack_of update_at meta_at
meta_in s h = rw (length-take, length-drop) (omega (arith, h))

-- two numbers, one behind the other, are all that another place in the reply changes
pub said_told : (s : List ℕ) (l p : ℕ) {q : List ℕ} → length s ≡ 652 → Bytes s → q ≡ laid s 16 (bytes_of 8 l ++ bytes_of 8 p)
    → q ≡ pack_over s (with_said (record { len = l; pos = p }) (unpack_of s))
said_told s l p h b i = i ∙ sym (pack_said s b (omega (arith, h)) l p) ∙ all s (with_said (record { len = l; pos = p }) (unpack_of s)) h (meta_in s h)

-- ---- a piece of a stream counted

pub two_told : (s : List ℕ) (at a b : ℕ) {p q : List ℕ} → at + 16 ≤ length s → p ≡ laid s at (bytes_of 8 a) → q ≡ laid p (at + 8) (bytes_of 8 b)
    → q ≡ laid s at (bytes_of 8 a ++ bytes_of 8 b)
unfolding bytes_of
two_told s at a b h i j = behind s at (bytes_of 8 a) (bytes_of 8 b) h i j

pub moves_told : (s : List ℕ) (a b c d e : ℕ) {p q r t : List ℕ} → 652 ≤ length s → p ≡ laid s 88 (bytes_of 8 a ++ bytes_of 8 b) → q ≡ laid p 104 (bytes_of 8 c)
    → r ≡ laid q 112 (bytes_of 4 d) → t ≡ laid r 116 (bytes_of 4 e) → t ≡ laid s 88 (bytes_of 8 a ++ (bytes_of 8 b ++ (bytes_of 8 c ++ (bytes_of 4 d ++ bytes_of 4 e))))
unfolding bytes_of
moves_told s a b c d e h i j k l =
    let x : List ℕ = bytes_of 8 a ++ bytes_of 8 b in
    let y : List ℕ = bytes_of 8 c in
    let z : List ℕ = bytes_of 4 d in
    behind s 88 (x ++ (y ++ z)) (bytes_of 4 e) (omega arith) (behind s 88 (x ++ y) z (omega arith) (behind s 88 x y (omega arith) i j) k) l

-- the store's numbers and marks over those that stand there, and two bytes set behind them
pub counted_told : (s : List ℕ) (w l c n : ℕ) (t : Store) {k x y : ℕ} {z : Bool} {p q : List ℕ} → length s ≡ 652 → t.shape ≡ shape_at s → Bytes s → k ≡ block_over (word_at 8 s 96) t.erased
    → x ≡ mark_over (get_or s 137 0) t.held → z ≡ is_block t.erased → y ≡ mark_over (get_or s 139 0) z → p ≡ laid s 40 (bytes_of 8 w ++ bytes_of 8 l)
    → q ≡ laid p 88 (bytes_of 8 t.at ++ (bytes_of 8 k ++ (bytes_of 8 t.calls ++ (bytes_of 4 c ++ bytes_of 4 n)))) → 652 ≤ length q
    → set (set q 137 x) 139 y ≡ pack_over s (counted w l c n t (unpack_of s))
counted_told s w l c n t {x = x} {y} {q = q} h a b e f g i j m u =
    sym (laid_fit (set q 137 x) 139 (y ∷ []) (rw length-set (omega arith)))
    ∙ ap (λ (r : List ℕ). laid r 139 (y ∷ [])) (sym (laid_fit q 137 (x ∷ []) (omega arith)))
    ∙ rw (m, j, f, i, g, e) (sym (pack_counted s b (omega (arith, h)) w l c n t a))
    ∙ all s (counted w l c n t (unpack_of s)) h (meta_in s h)
