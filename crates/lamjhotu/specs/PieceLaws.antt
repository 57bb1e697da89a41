-- A piece of a stream, counted in the state. The record that was unpacked, packed again with the piece counted, is seven numbers and two
-- marks laid over the bytes (`pack_counted`): all between them stands, since the piece leaves the store's shape as it was.
use Rattle.std.specs.Prelude.{◌≡◌, Bool, cond, length, set, get_or, take, drop}
use Rattle.std.proofs.Math.Path.{refl, ap}
use Rattle.std.proofs.Common.{sym, ap₂, ◌∙◌, add-zero, arith, le-leb, length-append, take-append-drop, drop-drop}
use mathlib.Core.List.{List, [], ◌∷◌, ◌++◌, append_assoc}
use Prim.Native.Nat.{ℕ, suc, ◌+◌, ◌≤◌}
use Rattle.std.proofs.lemmas.List.Edits.{sets, sets-eq}
use Rattle.std.proofs.Math.Seq.{length-sets}
use Rattle.wire.specs.Bytes.{bytes_of, word_at, laid}
use Rattle.storage.specs.declared.types.Shape.{Shape}
use Rattle.storage.specs.declared.types.Store.{Store}
use Rattle.lamjhotu.specs.State.{mark_over, is_nor, is_block, block_over, four_of, words_over, smalls_of, marks_over, pack_over, set_of, meta_at, shape_at, update_at, unpack_of, counted}
use Rattle.lamjhotu.specs.StateLaws.{Bytes, kind_same, piece, on, fours, one, marked, over}

-- ---- bytes laid over others

pub laid_fit : (s : List ℕ) (at : ℕ) (xs : List ℕ) → at + length xs ≤ length s → laid s at xs ≡ sets s at xs
unfolding laid
laid_fit s at xs h = ap (λ (t : Bool). cond t (sets s at xs) s) (le-leb (at + length xs) (length s) h)

sets_then : (xs ys s : List ℕ) (i : ℕ) → sets (sets s i xs) (i + length xs) ys ≡ sets s i (xs ++ ys)
sets_then [] ys s i = ap (λ (k : ℕ). sets s k ys) (add-zero i)
sets_then (x ∷ xs) ys s i =
    let k : i + suc (length xs) ≡ suc i + length xs = omega arith in
    ap (λ (k : ℕ). sets (sets (set s i x) (suc i) xs) k ys) k ∙ sets_then xs ys (set s i x) (suc i)

module _ (s : List ℕ) (a : ℕ) (xs zs : List ℕ) (e : zs ≡ take (length zs) (drop (a + length xs) s)) where
  abbrev end : ℕ
  end = a + length xs

  ends : a + length (xs ++ zs) ≡ end + length zs
  ends = omega (arith, length-append xs zs)

  -- bytes that stand behind xs, laid there again
  stood : a + (length xs + length zs) ≤ length s → sets s a (xs ++ zs) ≡ sets s a xs
  stood h =
      let n : ℕ = length zs in
      let r : zs ++ drop (end + n) s ≡ drop end s =
      ap (λ (l : List ℕ). zs ++ l) (sym (drop-drop n end s)) ∙ ap (λ (l : List ℕ). l ++ drop n (drop end s)) e ∙ take-append-drop n (drop end s) in
      sets-eq (xs ++ zs) s a (omega (arith, ends))
      ∙ ap (λ (j : ℕ). (take a s ++ (xs ++ zs)) ++ drop j s) ends
      ∙ simp append_assoc (ap (λ (l : List ℕ). take a s ++ (xs ++ l)) r)
      ∙ sym (sets-eq xs s a (omega arith) ∙ append_assoc (take a s) xs (drop end s))

  -- so they may be left out between xs and ys
  pub skip : (ys : List ℕ) → a + (length xs + (length zs + length ys)) ≤ length s → laid s a (xs ++ (zs ++ ys)) ≡ laid (laid s a xs) (a + length xs + length zs) ys
  skip ys h =
      let j : ℕ = end + length zs in
      laid_fit s a (xs ++ (zs ++ ys)) (omega (arith, length-append xs (zs ++ ys), length-append zs ys))
      ∙ ap (sets s a) (sym (append_assoc xs zs ys))
      ∙ sym (sets_then (xs ++ zs) ys s a)
      ∙ ap₂ (λ (l : List ℕ) (i : ℕ). sets l i ys) (stood (omega arith)) ends
      ∙ sym (laid_fit (sets s a xs) j ys (omega (arith, length-sets s a xs)))
      ∙ ap (λ (l : List ℕ). laid l j ys) (sym (laid_fit s a xs (omega arith)))

-- ---- the record with a piece counted

module _ (s : List ℕ) (b : Bytes s) (h : 652 ≤ length s) (w l c n : ℕ) (t : Store) (e : t.shape ≡ shape_at s) where
  -- bytes 0 to 40 stand
  abbrev front : List ℕ
  front = four_of (word_at 8 s 0) (word_at 8 s 8) (word_at 8 s 16) (word_at 8 s 24) ++ bytes_of 8 (word_at 8 s 32)

  front_same : front ≡ take 40 s
  front_same = on s b h 32 8 0 refl (fours s b h 0 (omega arith)) (piece s b h 8 32 (omega arith))

  -- 40 to 56: what is written and what is left
  abbrev sums : List ℕ
  sums = bytes_of 8 w ++ bytes_of 8 l

  -- 56 to 88 stand
  abbrev sizes : Shape → List ℕ
  sizes p = four_of p.capacity p.page p.pages p.blocks

  sizes_same : sizes t.shape ≡ take 32 (drop 56 s)
  unfolding shape_at
  sizes_same = ap sizes e ∙ fours s b h 56 (omega arith)

  -- 88 to 120: what the store and the burning have come to
  abbrev moves : List ℕ
  moves = bytes_of 8 t.at ++ (bytes_of 8 (block_over (word_at 8 s 96) t.erased) ++ (bytes_of 8 t.calls ++ (bytes_of 4 c ++ bytes_of 4 n)))

  -- 120 to 137 stand
  abbrev mark : ℕ → ℕ
  mark k = mark_over (get_or s k 0) (set_of (get_or s k 0))

  abbrev fixed : Shape → List ℕ
  fixed p =
      bytes_of 4 (word_at 4 s 120) ++ (bytes_of 4 (word_at 4 s 124) ++ (bytes_of 4 p.device ++ (p.stage ∷ mark 133 ∷ mark 134 ∷ mark 135 ∷ mark 136 ∷ [])))

  fixed_same : fixed t.shape ≡ take 17 (drop 120 s)
  unfolding shape_at
  fixed_same =
      ap fixed e
      ∙ on s b h 4 13 120 refl (piece s b h 4 120 (omega arith))
      (on s b h 4 9 124 refl (piece s b h 4 124 (omega arith))
      (on s b h 4 5 128 refl (piece s b h 4 128 (omega arith))
      (on s b h 1 4 132 refl (one s b h 132 (omega arith))
      (on s b h 1 3 133 refl (marked s b h 133 (omega arith) refl)
      (on s b h 1 2 134 refl (marked s b h 134 (omega arith) refl)
      (on s b h 1 1 135 refl (marked s b h 135 (omega arith) refl) (marked s b h 136 (omega arith) refl)))))))

  -- 138 stands
  abbrev kind : Shape → List ℕ
  kind p = mark_over (get_or s 138 0) (is_nor p.kind) ∷ []

  kind_stands : kind t.shape ≡ take 1 (drop 138 s)
  unfolding shape_at
  kind_stands = ap kind e ∙ marked s b h 138 (omega arith) (kind_same (set_of (get_or s 138 0)))

  -- 137 and 139: the store's marks
  abbrev held : List ℕ
  held = mark_over (get_or s 137 0) t.held ∷ []

  abbrev erased : List ℕ
  erased = mark_over (get_or s 139 0) (is_block t.erased) ∷ []

  pub pack_counted : laid s 0 (pack_over s (counted w l c n t (unpack_of s))) ≡ laid (laid (laid (laid s 40 sums) 88 moves) 137 held) 139 erased
  unfolding pack_over words_over smalls_of marks_over four_of bytes_of unpack_of update_at meta_at
  pack_counted =
      let z : List ℕ = sizes t.shape in
      let f : List ℕ = fixed t.shape in
      let k : List ℕ = kind t.shape in
      let new : List ℕ = sums ++ (z ++ (moves ++ (f ++ (held ++ (k ++ erased))))) in
      ap (λ (x : List ℕ). laid s 0 (x ++ (new ++ meta_at s))) front_same
      ∙ over s b h 40 512 new h
      ∙ skip s 40 (sums ++ (z ++ (moves ++ (f ++ held)))) k kind_stands erased (omega arith)
      ∙ ap (λ (x : List ℕ). laid x 139 erased)
      (skip s 40 (sums ++ (z ++ moves)) f fixed_same held (omega arith) ∙ ap (λ (x : List ℕ). laid x 137 held) (skip s 40 sums z sizes_same moves (omega arith)))
