-- The table of the slices is built row upon row: a row is the one behind it after eight more shifts, each by a lookup in the last
-- row. So what antt computes of the table is a sum and a lookup for each entry.
use Rattle.std.proofs.Common.{◌≡◌, ℕ, zero, suc, ◌+◌, ◌-◌, ◌*◌, ◌/◌, ◌%◌, ◌<◌, ◌≤◌, List, [], ◌∷◌, ◌++◌, get_or, sym, refl, ap, ◌∙◌, ap₂, add-zero, add-suc, mod-lt, zero-lt-suc, suc-add, zero-add, arith}
use Rattle.wire.specs.Crc.{◌⊕◌, shifts}
use Rattle.wire.specs.Slices.{entry, slice_table}
use Rattle.wire.specs.Table.{table_of, at}
use Rattle.wire.proofs.Register.{shifts_split, shifts_add}

-- eight shifts by a lookup
unfoldable pub eight_more : List ℕ → ℕ → ℕ
eight_more last x = x / 256 ⊕ get_or last (x % 256) 0

unfoldable pub each : (ℕ → ℕ) → List ℕ → List ℕ
each f [] = []
each f (x ∷ xs) = f x ∷ each f xs

-- k rows before a row, and it
unfoldable pub stack : List ℕ → ℕ → List ℕ → List ℕ
stack last zero row = row
stack last (suc k) row = stack last k (each (eight_more last) row) ++ row

eight_more_lem : (x : ℕ) → eight_more (table_of (shifts 8) 256 0) x ≡ shifts 8 x
unfolding eight_more
eight_more_lem x = ap (λ (y : ℕ). x / 256 ⊕ y) (at (shifts 8) 256 (x % 256) (mod-lt x (zero-lt-suc 255))) ∙ sym (shifts_split 8 x)

-- ---- tables

same : (f g : ℕ → ℕ) (n i k : ℕ) → ((d : ℕ) → d < n → f (i + d) ≡ g (k + d)) → table_of f n i ≡ table_of g n k
unfolding table_of
same f g zero i k h = refl
same f g (suc n) i k h =
    ap₂ (λ (x : ℕ) (l : List ℕ). x ∷ l)
    (ap f (sym (add-zero i)) ∙ h 0 (omega arith) ∙ ap g (add-zero k))
    (same f g n (suc i) (suc k) (λ d l. ap f (suc-add i d ∙ sym (add-suc i d)) ∙ h (suc d) (omega arith) ∙ ap g (add-suc k d ∙ sym (suc-add k d))))

joined : (f : ℕ → ℕ) (n m i : ℕ) → table_of f n i ++ table_of f m (i + n) ≡ table_of f (n + m) i
unfolding table_of
joined f zero m i = ap₂ (table_of f) (sym (zero-add m)) (add-zero i)
joined f (suc n) m i =
    ap (λ (l : List ℕ). f i ∷ l) (ap (λ (k : ℕ). table_of f n (suc i) ++ table_of f m k) (add-suc i n ∙ sym (suc-add i n)) ∙ joined f n m (suc i))
    ∙ ap (λ (k : ℕ). table_of f k i) (sym (suc-add n m))

each_of : (g f : ℕ → ℕ) (n i : ℕ) → each g (table_of f n i) ≡ table_of (λ x. g (f x)) n i
unfolding table_of each
each_of g f zero i = refl
each_of g f (suc n) i = ap (λ (l : List ℕ). g (f i) ∷ l) (each_of g f n (suc i))

-- the row before a row
before : (n : ℕ) → each (eight_more (table_of (shifts 8) 256 0)) (table_of (shifts n) 256 0) ≡ table_of (shifts (n + 8)) 256 0
before n =
    each_of (eight_more (table_of (shifts 8) 256 0)) (shifts n) 256 0
    ∙ same (λ x. eight_more (table_of (shifts 8) 256 0) (shifts n x)) (shifts (n + 8)) 256 0 0
    (λ d l. eight_more_lem (shifts n (0 + d)) ∙ shifts_add n 8 (0 + d))

-- row k stands at k * 256
row_at : (k : ℕ) → table_of (shifts (64 - 8 * k)) 256 0 ≡ table_of entry 256 (k * 256)
unfolding entry
row_at k =
    same (shifts (64 - 8 * k)) entry 256 0 (k * 256)
    (λ d l. ap₂ (λ (a b : ℕ). shifts (64 - 8 * a) b) (line d l) (place d l))
  where
    line : (d : ℕ) → d < 256 → k ≡ (k * 256 + d) / 256
    line d l = omega arith

    place : (d : ℕ) → d < 256 → 0 + d ≡ (k * 256 + d) % 256
    place d l = omega arith

stacked : (k : ℕ) → k ≤ 7 → stack (table_of (shifts 8) 256 0) k (table_of (shifts (64 - 8 * k)) 256 0) ≡ table_of entry (k * 256 + 256) 0
unfolding stack
stacked zero h = row_at 0
stacked (suc k) h =
    ap₂ (λ (r l : List ℕ). stack (table_of (shifts 8) 256 0) k r ++ l)
    (before (64 - 8 * suc k) ∙ ap (λ (n : ℕ). table_of (shifts n) 256 0) count)
    (row_at (suc k) ∙ ap (table_of entry 256) place)
    ∙ ap (λ (l : List ℕ). l ++ table_of entry 256 (0 + (k * 256 + 256))) (stacked k (omega arith))
    ∙ joined entry (k * 256 + 256) 256 0
    ∙ ap (λ (n : ℕ). table_of entry n 0) total
  where
    count : 64 - 8 * suc k + 8 ≡ 64 - 8 * k
    count = omega arith

    place : suc k * 256 ≡ 0 + (k * 256 + 256)
    place = omega arith

    total : k * 256 + 256 + 256 ≡ suc k * 256 + 256
    total = omega arith

-- THE LAW: seven rows before the last
pub slices : stack (table_of (shifts 8) 256 0) 7 (table_of (shifts 8) 256 0) ≡ slice_table
unfolding slice_table
slices = stacked 7 (omega arith)
