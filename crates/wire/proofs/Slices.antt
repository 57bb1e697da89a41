-- A word of eight bytes goes into the register at once, and each byte's shifts are one lookup: the shift is linear, so the 64
-- shifts of eight bytes are the sum of what each byte becomes alone, and a byte that is j bytes up has 8 * j shifts less to go.
use Rattle.std.proofs.Common.{◌≡◌, ℕ, zero, suc, ◌+◌, ◌-◌, ◌*◌, ◌/◌, ◌%◌, ◌^◌, ◌<◌, ◌≤◌, List, [], ◌∷◌, ◌++◌, length, get_or, take, drop, sym, refl, ap, ◌∙◌, ap₂, zero-mul, arith, lit<, take-append-drop, get_or-drop, drop-cons, drop_of_length-le, shr-shr}
use Rattle.std.proofs.Math.Seq.{take-add}
use Rattle.std.specs.List.{concat}
use Rattle.std.specs.Simd.{first_chunks}
use Rattle.wire.specs.Bytes.{le}
use Rattle.wire.specs.Crc.{◌⊕◌, shifts, byte_in, crc_from}
use Rattle.wire.specs.Slices.{entry, slice_table}
use Rattle.wire.specs.Table.{at}
use Rattle.wire.proofs.Words.{four, halves}
use Rattle.wire.proofs.Xor.{⊕_assoc, ⊕_comm, ⊕_zero, ⊕_shr, ⊕_shifted}
use Rattle.wire.proofs.Register.{shifts_add, shifts-⊕, shifts_out, shifts_split, crc_append}

-- ---- eight bytes at once

-- a register takes a number in after n shifts as before them
before : (n x b : ℕ) → shifts n x ⊕ b ≡ shifts n (x ⊕ b * 2 ^ n)
before n x b = ap (λ (k : ℕ). shifts n x ⊕ k) (sym (shifts_out n b)) ∙ sym (shifts-⊕ n x (b * 2 ^ n))

-- a run of bytes goes in as one number
crc_word : (l : List ℕ) (r : ℕ) → ((k : ℕ) → get_or l k 0 < 256) → crc_from r l ≡ shifts (8 * length l) (r ⊕ le l)
unfolding crc_from byte_in le
crc_word [] r h = sym (unfold shifts in ⊕_zero r)
crc_word (b ∷ l) r h =
    crc_word l (shifts 8 (r ⊕ b)) (λ k. h (suc k))
    ∙ ap (shifts (8 * length l)) (before 8 (r ⊕ b) (le l) ∙ ap (shifts 8) (⊕_assoc r b (le l * 256) ∙ ap (λ (x : ℕ). r ⊕ x) low))
    ∙ shifts_add 8 (8 * length l) (r ⊕ (b + 256 * le l))
    ∙ ap (λ (n : ℕ). shifts n (r ⊕ (b + 256 * le l))) count
  where
    low : b ⊕ le l * 256 ≡ b + 256 * le l
    low = ⊕_comm b (le l * 256) ∙ ⊕_shifted (le l) 8 b (h 0) ∙ omega arith

    count : 8 + 8 * length l ≡ 8 * suc (length l)
    count = omega arith

-- the sum that the code forms of eight bytes
pub eight : (l : List ℕ)
    → get_or l 0 0 + 256 * (get_or l 1 0 + 256 * (get_or l 2 0 + 256 * get_or l 3 0))
    + 0x1_0000_0000 * (get_or l 4 0 + 256 * (get_or l 5 0 + 256 * (get_or l 6 0 + 256 * get_or l 7 0)))
    ≡ le (take 8 l)
eight l = ap₂ (λ (x y : ℕ). x + 0x1_0000_0000 * y) (four l) (simp get_or-drop at (four (drop 4 l))) ∙ halves l

-- eight bytes
pub crc_eight : (l : List ℕ) (r : ℕ) → length l ≡ 8 → ((k : ℕ) → get_or l k 0 < 256) → shifts 64 (r ⊕ le l) ≡ crc_from r l
crc_eight l r long small = sym (crc_word l r small ∙ ap (λ (n : ℕ). shifts (8 * n) (r ⊕ le l)) long)

-- the words of a run, by a place among them
module _ (ws : List (List ℕ)) (i r : ℕ) where
  pub crc_turn : i < length ws → crc_from (crc_from r (get_or ws i [])) (concat (drop (i + 1) ws)) ≡ crc_from r (concat (drop i ws))
  crc_turn h =
      sym (crc_append (get_or ws i []) (concat (drop (i + 1) ws)) r)
      ∙ ap (λ (l : List (List ℕ)). crc_from r (concat l)) (sym (drop-cons ws i [] h ∙ ap (λ (n : ℕ). get_or ws i [] ∷ drop n ws) one))
    where
      one : suc i ≡ i + 1
      one = omega arith

  pub crc_done : length ws ≤ i → crc_from r (concat (drop i ws)) ≡ r
  unfolding crc_from
  crc_done h = ap (λ (l : List (List ℕ)). crc_from r (concat l)) (drop_of_length-le ws h)

-- the words of a list, and what is behind them
words_front : (k : ℕ) (s : List ℕ) → concat (first_chunks 8 k s) ≡ take (k * 8) s
words_front zero s = refl
words_front (suc k) s =
    let n : suc k * 8 ≡ 8 + k * 8 = omega arith in
    ap (λ (l : List ℕ). take 8 s ++ l) (words_front k (drop 8 s)) ∙ sym (take-add 8 (k * 8) s) ∙ ap (λ (m : ℕ). take m s) (sym n)

pub words_rest : (s : List ℕ) (k : ℕ) → concat (first_chunks 8 k s) ++ drop (k * 8) s ≡ s
words_rest s k = ap (λ (l : List ℕ). l ++ drop (k * 8) s) (words_front k s) ∙ take-append-drop (k * 8) s

-- ---- the table

-- the lowest bits apart
peel : (m n x : ℕ) → shifts (m + n) x ≡ shifts n (x / 2 ^ m) ⊕ shifts (m + n) (x % 2 ^ m)
peel m n x =
    sym (shifts_add m n x) ∙ ap (shifts n) (shifts_split m x) ∙ shifts-⊕ n (x / 2 ^ m) (shifts m (x % 2 ^ m))
    ∙ ap (λ (k : ℕ). shifts n (x / 2 ^ m) ⊕ k) (shifts_add m n (x % 2 ^ m))

-- eight bytes in halves
pub in_halves : (x : ℕ) → shifts 32 (x / 2 ^ 32) ⊕ shifts 64 (x % 2 ^ 32) ≡ shifts 64 x
in_halves x = sym (peel 32 32 x)

-- what stands in row j
row : (j y : ℕ) → j < 8 → get_or slice_table (j * 256 + y % 256) 0 ≡ shifts (64 - 8 * j) (y % 256)
unfolding slice_table entry
row j y h = at entry 2048 (j * 256 + y % 256) (omega arith) ∙ ap₂ (λ (a b : ℕ). shifts (64 - 8 * a) b) line place
  where
    line : (j * 256 + y % 256) / 256 ≡ j
    line = omega arith

    place : (j * 256 + y % 256) % 256 ≡ y % 256
    place = omega arith

-- a lookup
row_turn : (r y j : ℕ) → j < 8
    → (r ⊕ get_or slice_table (j * 256 + y % 256) 0) ⊕ shifts (64 - 8 * (j + 1)) (y / 256) ≡ r ⊕ shifts (64 - 8 * j) y
row_turn r y j h =
    ⊕_assoc r (get_or slice_table (j * 256 + y % 256) 0) (shifts (64 - 8 * (j + 1)) (y / 256))
    ∙ ap (λ (x : ℕ). r ⊕ x)
    (⊕_comm (get_or slice_table (j * 256 + y % 256) 0) (shifts (64 - 8 * (j + 1)) (y / 256))
    ∙ ap (λ (x : ℕ). shifts (64 - 8 * (j + 1)) (y / 256) ⊕ x) (row j y h ∙ ap (λ (n : ℕ). shifts n (y % 256)) (sym count))
    ∙ sym (peel 8 (64 - 8 * (j + 1)) y)
    ∙ ap (λ (n : ℕ). shifts n y) count)
  where
    count : 8 + (64 - 8 * (j + 1)) ≡ 64 - 8 * j
    count = omega arith

pub further : (x y j : ℕ) → y ≡ x / 2 ^ (8 * j) → y / 256 ≡ x / 2 ^ (8 * (j + 1))
further x y j e = ap (λ (k : ℕ). k / 256) e ∙ shr-shr x (8 * j) 8 ∙ ap (λ (k : ℕ). x / 2 ^ k) count
  where
    count : 8 * j + 8 ≡ 8 * (j + 1)
    count = omega arith

-- a turn of the loop over four bytes
pub rows_turn : (r y up j z : ℕ) → up ≤ 4 → j < 4 → r ⊕ shifts (64 - 8 * (up + j)) y ≡ z
    → (r ⊕ get_or slice_table ((up + j) * 256 + y % 256) 0) ⊕ shifts (64 - 8 * (up + (j + 1))) (y / 256) ≡ z
rows_turn r y up j z h i e =
    let k : up + (j + 1) ≡ up + j + 1 = omega arith in
    ap (λ (n : ℕ). (r ⊕ get_or slice_table ((up + j) * 256 + y % 256) 0) ⊕ shifts (64 - 8 * n) (y / 256)) k ∙ row_turn r y (up + j) (omega arith) ∙ e

-- after four bytes nothing is left
pub all_in : (r y x up j z : ℕ) → 4 ≤ j → j ≤ 4 → x < 2 ^ 32 → y ≡ x / 2 ^ (8 * j) → r ⊕ shifts (64 - 8 * (up + j)) y ≡ z → r ≡ z
all_in r y x up j z a b h e q =
    let k : j ≡ 4 = omega arith in
    let i : y ≡ x / 2 ^ 32 = e ∙ ap (λ (n : ℕ). x / 2 ^ (8 * n)) k in
    let n : ℕ = 64 - 8 * (up + j) in
    let o : y ≡ 0 * 2 ^ n = omega (arith, zero-mul (2 ^ n)) in
    sym (⊕_zero r) ∙ ap (λ (k : ℕ). r ⊕ k) (sym (ap (shifts n) o ∙ shifts_out n 0)) ∙ q

-- one byte, by the last row
pub byte_in_lem : (r b : ℕ) → b < 256 → r / 256 ⊕ get_or slice_table (1792 + (r ⊕ b) % 256) 0 ≡ byte_in r b
unfolding byte_in
byte_in_lem r b h =
    ap₂ ◌⊕◌ (sym (⊕_shr r b 8 ∙ ap (λ (x : ℕ). r / 256 ⊕ x) none ∙ ⊕_zero (r / 256))) (row 7 (r ⊕ b) (lit< tt)) ∙ sym (shifts_split 8 (r ⊕ b))
  where
    none : b / 256 ≡ 0
    none = omega arith
