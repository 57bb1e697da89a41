-- A NAND chip that does as it is told: no call is told to fail and no block is marked bad. There a flush of a page within the chip
-- succeeds, into a block that has to be erased first or into a blank page of the block that was erased last; and reading the page
-- back gives what the page buffer held.
use Rattle.std.specs.Prelude.{◌≡◌, refl, true, false, List, [], ◌∷◌, ◌++◌, ℕ, zero, suc, ◌+◌, ◌-◌, ◌*◌, ◌/◌, ◌%◌, ◌≤◌, ◌<◌, min, length, take, get_or, replicate}
use Rattle.std.proofs.Common.{sym, ap, ap₂, ◌∙◌, append-nil, mod-eq_of_lt, div-add-mod', div-lt_iff_lt-mul, div-mul-le_self, mul-le-mul, mul-le-mul_right, mul_comm, mul_assoc, add-mul, one-mul, not-suc-le-zero, le_of_suc-le-suc, arith, drop_of_length-le, length-take-le, take_at, drop-drop}
use Rattle.std.proofs.Math.Nat.{div-div-eq-div-mul, lt-div-mul-add}
use borrow.Author.Tests.{le-leb, eq-eqb}
use Rattle.std.specs.Int.Bits.{bit_and}
use Rattle.std.proofs.lemmas.Nat.{and_comm, and_mask}
use Rattle.std.proofs.Math.ListN.{drop}
use Rattle.std.proofs.lemmas.List.{length-replicate, get_or-replicate, take-append-le, drop-append-le}
use Rattle.std.proofs.Math.Seq.{drop_at}
use Rattle.text.proofs.Tokens.{same_self}
use Rattle.storage.specs.declared.types.Shape.{Shape}
use Rattle.storage.specs.declared.types.Store.{Store}
use Rattle.storage.specs.World.{Lent, lent, Dev, dev, out, told, seen}
use Rattle.storage.specs.Chip.{failing, able, next_call, called, over}
use Rattle.storage.specs.Nor.{freed}
use Rattle.storage.specs.Nand.{block_size, blanks, kept, erase_block, program_page, asks_good, noting, is_erased, erase_checked, ready, burns, flushes, read_out}
use Rattle.storage.proofs.Over.{length_over}
use Rattle.storage.proofs.Programs.{programs_well, fetched_well}
use Rattle.storage.proofs.NandCalls.{length_blanks}
use Rattle.storage.proofs.NandSteps.{checked_done, ready_known, ready_now, burns_done, attempt_burns, once, flush_done}
use Rattle.storage.proofs.NandMoves.{read_told}
use Rattle.nand_laws.specs.Within.{Bytes, page_of, block_of, Within}
use Rattle.std.specs.Prelude.{Some}

-- no call is told to fail, and every block is marked good
pub record Good (l : Lent) : Type 0 where
  pub quiet : (n : ℕ) → failing l.faults n ≡ false
  pub good : (k : ℕ) → k < length l.marks → get_or l.marks k 0 ≡ 255

-- as with no list of faults and marks of 0xFF
pub good_blank : (n : ℕ) → Good (lent [] (blanks n))
unfolding failing blanks
good_blank n = record { quiet = λ k. refl; good = λ k h. get_or-replicate {A = ℕ} n k 255 0 (rw (length-replicate {A = ℕ} n 255) at h) }

-- ---- a program over 0xFF gives the bytes

and_all : (x : ℕ) → x < 256 → bit_and 255 x ≡ x
and_all x h = and_comm 255 x ∙ and_mask x 8 ∙ mod-eq_of_lt h

kept_blanks : (xs : List ℕ) → Bytes xs → kept (blanks (length xs)) xs ≡ xs
unfolding kept blanks
kept_blanks [] h = refl
kept_blanks (x ∷ xs) h = ap₂ (λ (y : ℕ) (ys : List ℕ). y ∷ ys) (and_all x (h 0)) (kept_blanks xs (λ i. h (suc i)))

-- ---- a part of what lies over, and of what lies over as 0xFF

take_same : (n m v : ℕ) → n ≤ m → take n (replicate m v) ≡ replicate n v
take_same zero m v h = refl
take_same (suc n) zero v h = absurd (not-suc-le-zero h)
take_same (suc n) (suc m) v h = ap (λ (t : List ℕ). v ∷ t) (take_same n m v (le_of_suc-le-suc h))

drop_same : (i n v : ℕ) → drop i (replicate (i + n) v) ≡ replicate n v
drop_same zero n v = let e : zero + n ≡ n = omega arith in rw e
drop_same (suc i) n v = let e : suc i + n ≡ suc (i + n) = omega arith in rw e (drop_same i n v)

module _ (a : ℕ) (xs l : List ℕ) (h : a ≤ length l) where
  behind : drop a (over a xs l) ≡ xs ++ drop (length xs) (drop a l)
  unfolding over
  behind = drop_at (take a l) (xs ++ drop (length xs) (drop a l)) a (length-take-le a l h)

  back : take (length xs) (drop a (over a xs l)) ≡ xs
  back = rw (behind, take_at xs (drop (length xs) (drop a l)) (length xs) refl)

within : (a i n m : ℕ) (l : List ℕ) → i + n ≤ m → a ≤ length l → take n (drop (a + i) (over a (blanks m) l)) ≡ blanks n
unfolding blanks
within a i n m l h k =
    let v : List ℕ = replicate m 255 in
    let u : List ℕ = replicate (m - i) 255 in
    let r : List ℕ = drop (length v) (drop a l) in
    let z : length v ≡ m = length-replicate {A = ℕ} m 255 in
    let w : length u ≡ m - i = length-replicate {A = ℕ} (m - i) 255 in
    let e : m ≡ i + (m - i) = omega arith in
    let d : drop i v ≡ u = ap (λ (j : ℕ). drop i (replicate j 255)) e ∙ drop_same i (m - i) 255 in
    rw (← drop-drop i a (over a v l), behind a v l k, drop-append-le i v r (omega arith), d, take-append-le n u r (omega arith), take_same n (m - i) 255 (omega arith))

-- ---- the chip's calls, where their number is not told to fail

module _ (l : Lent) (s : Store) (chip buf : List ℕ) (quiet : failing l.faults s.calls ≡ false) where
  able_good : (a n : ℕ) → a + n ≤ length chip → able l.faults s chip a n ≡ true
  unfolding able
  able_good a n h = rw (le-leb (a + n) (length chip) h, quiet)

  pub asks_good_lem : (k : ℕ) → get_or l.marks k 0 ≡ 255 → asks_good l k (dev s chip buf) ≡ out true (dev (called s) chip buf)
  unfolding asks_good
  asks_good_lem k m = rw (quiet, eq-eqb (get_or l.marks k 0) 255 m)

  pub erase_good : (k : ℕ) → k * block_size s + block_size s ≤ length chip
      → erase_block l.faults k (dev s chip buf) ≡ out true (dev (called s) (over (k * block_size s) (blanks (block_size s)) chip) buf)
  unfolding erase_block
  erase_good k h = programs_well l.faults s chip quiet (k * block_size s) (blanks (block_size s)) buf (rw (length_blanks (block_size s)) h)

  pub page_good : (a : ℕ) (xs : List ℕ) → Bytes xs → a + length xs ≤ length chip → take (length xs) (drop a chip) ≡ blanks (length xs)
      → program_page l.faults a xs (dev s chip buf) ≡ out true (dev (called s) (over a xs chip) buf)
  unfolding program_page
  page_good a xs b h e = rw (able_good a (length xs) h, e, kept_blanks xs b, same_self xs)

-- ---- the place of a page in its block

-- the block of a number ends where the next one starts
pub block_inside : (k b n : ℕ) → k < n → k * b + b ≤ n * b
block_inside k b n h =
    let m : (k + 1) * b ≤ n * b = mul-le-mul_right b (omega arith) in
    let e : (k + 1) * b ≡ k * b + b = add-mul k 1 b ∙ ap (λ (i : ℕ). k * b + i) (one-mul b) in
    omega arith

module _ (a p g : ℕ) (hp : 0 < p) (hg : 0 < g) where
  block_end : a % p ≡ 0 → a + p ≤ a / (p * g) * (p * g) + p * g
  block_end z =
      let q : ℕ = a / p in
      let k : ℕ = q / g in
      let s : q + 1 ≤ k * g + g = omega (arith, lt-div-mul-add {a = q} {b = g} hg) in
      let m : (q + 1) * p ≤ (k * g + g) * p = mul-le-mul_right p s in
      let e : (q + 1) * p ≡ q * p + p = add-mul q 1 p ∙ ap (λ (n : ℕ). q * p + n) (one-mul p) in
      let f : (k * g + g) * p ≡ k * (p * g) + p * g =
      add-mul (k * g) g p ∙ ap₂ (λ (i j : ℕ). i + j) (mul_assoc k g p ∙ ap (λ (n : ℕ). k * n) (mul_comm g p)) (mul_comm g p) in
      let u : q * p ≡ a = omega (arith, div-add-mod' a p) in
      rw (← div-div-eq-div-mul a p g) (omega arith)

  block_below : (n : ℕ) → a < n * (p * g) → a / (p * g) < n
  block_below n h = (div-lt_iff_lt-mul {k = p * g} {x = a} {y = n} (mul-le-mul hp hg)).1 h

  block_fits : (n : ℕ) → a < n * (p * g) → a / (p * g) * (p * g) + p * g ≤ n * (p * g)
  block_fits n h = block_inside (a / (p * g)) (p * g) n (block_below n h)

-- ---- a held page that lies within the chip

-- the chip with the held page's block set to 0xFF
abbrev pub blanked : Dev → List ℕ
blanked d = over (block_of d * block_size d.store) (blanks (block_size d.store)) d.chip

module _ (l : Lent) (d : Dev) (h : Within l d) (held : d.store.held ≡ true) where
  page_length : length (page_of d) ≡ d.store.shape.page
  page_length = length-take-le d.store.shape.page d.buf h.room

  in_chip : d.store.at < d.store.shape.blocks * block_size d.store
  in_chip = rw (← h.whole) (h.below held)

  block_ends : block_of d * block_size d.store + block_size d.store ≤ length d.chip
  block_ends = rw h.whole (block_fits d.store.at d.store.shape.page d.store.shape.pages h.page_some h.pages_some d.store.shape.blocks in_chip)

  page_ends : d.store.at + d.store.shape.page ≤ block_of d * block_size d.store + block_size d.store
  page_ends = block_end d.store.at d.store.shape.page d.store.shape.pages h.page_some h.pages_some (h.on held)

  pub page_fits : d.store.at + length (page_of d) ≤ length d.chip
  page_fits = rw page_length (omega (arith, page_ends, block_ends))

  pub block_on : block_of d < d.store.shape.blocks
  block_on = block_below d.store.at d.store.shape.page d.store.shape.pages h.page_some h.pages_some d.store.shape.blocks in_chip

  pub blanked_long : length (blanked d) ≡ length d.chip
  blanked_long = length_over (block_of d * block_size d.store) (blanks (block_size d.store)) d.chip (rw (length_blanks (block_size d.store)) block_ends)

  pub blanked_page : take (length (page_of d)) (drop d.store.at (blanked d)) ≡ blanks (length (page_of d))
  blanked_page =
      let b : ℕ = block_of d * block_size d.store in
      let m : b ≤ d.store.at = div-mul-le_self d.store.at (block_size d.store) in
      let e : d.store.at ≡ b + (d.store.at - b) = omega arith in
      let n = length (page_of d) in
      ap (λ (i : ℕ). take n (drop i (blanked d))) e
      ∙ within b (d.store.at - b) n (block_size d.store) d.chip (omega (arith, page_length, page_ends)) (omega (arith, block_ends))

  -- ---- on a chip that does as it is told

  module _ (g : Good l) where
    -- the block is ready: the page is programmed into the chip c at once, if it is blank there
    module _ (t : Store) (c : List ℕ) (r : ready l (block_of d) d ≡ out true (dev t c d.buf)) (same_at : t.at ≡ d.store.at) (same_shape : t.shape ≡ d.store.shape)
        (long : length c ≡ length d.chip) (blank : take (length (page_of d)) (drop d.store.at c) ≡ blanks (length (page_of d))) where
      pub burn_good : burns l (dev t c d.buf) ≡ out true (dev (called t) (over d.store.at (page_of d) c) d.buf)
      burn_good =
          let e : program_page l.faults t.at (take t.shape.page d.buf) (dev t c d.buf) ≡ out true (dev (called t) (over d.store.at (page_of d) c) d.buf) =
          ap₂ (λ (a : ℕ) (sh : Shape). program_page l.faults a (take sh.page d.buf) (dev t c d.buf)) same_at same_shape
          ∙ page_good l t c d.buf (g.quiet t.calls) d.store.at (page_of d) (h.bytes held) (rw long page_fits) blank in
          sym (burns_done l (dev t c d.buf) (sym e) refl)

      flush_good : flushes l d ≡ out true (dev (freed (called t)) (over d.store.at (page_of d) c) d.buf)
      flush_good =
          let a = attempt_burns l d (block_of d) refl (sym r) refl (sym burn_good) in
          sym (flush_done l d held (once l d a refl) refl)

    -- the block is not the one that was erased last: it is erased, and is so remembered
    module _ (other : is_erased d.store.erased (block_of d) ≡ false) where
      pub checked_good : erase_checked l (block_of d) d ≡ out true (dev (called (called d.store)) (blanked d) d.buf)
      checked_good =
          let a = asks_good_lem l d.store d.chip d.buf (g.quiet d.store.calls) (block_of d) (g.good (block_of d) (rw h.marked block_on)) in
          let e = erase_good l (called d.store) d.chip d.buf (g.quiet (next_call d.store.calls)) (block_of d) block_ends in
          sym (checked_done l (block_of d) d block_on (sym a) refl (sym e))

      pub flush_fresh : flushes l d
          ≡ out true (dev (freed (called (noting (Some (block_of d)) (called (called d.store))))) (over d.store.at (page_of d) (blanked d)) d.buf)
      flush_fresh =
          flush_good (noting (Some (block_of d)) (called (called d.store))) (blanked d) (sym (ready_now l (block_of d) d other (sym checked_good) refl refl)) refl refl blanked_long blanked_page

      -- the whole page comes back
      pub read_fresh : (room : List ℕ) → length room ≡ d.store.shape.page → d.store.at + d.store.shape.page ≤ d.store.shape.capacity
          → (e : Dev) × (read_out l d.store.at room d ≡ seen (told 0 d.store.shape.page e) (page_of d))
      read_fresh room q c =
          let t = freed (called (noting (Some (block_of d)) (called (called d.store)))) in
          let a = d.store.at in
          let p = d.store.shape.page in
          let new = over a (page_of d) (blanked d) in
          let n : p ≡ min (length room) (d.store.shape.capacity - a) = omega arith in
          let w : length (take p room) ≡ p = length-take-le p room (omega arith) in
          let long : length new ≡ length (blanked d) = length_over a (page_of d) (blanked d) (rw blanked_long page_fits) in
          let f : a + length (take p room) ≤ length new = omega (arith, blanked_long, page_fits, page_length) in
          let get = fetched_well l.faults t new (g.quiet t.calls) a (take p room) f in
          let z : p ≡ 0 → ⊥ = λ e. omega (arith, h.page_some) in
          let most : length room ≤ p = omega arith in
          let rest : drop p room ≡ [] = drop_of_length-le room most in
          let is : take (length (take p room)) (drop a new) ≡ page_of d = ap (λ (j : ℕ). take j (drop a new)) (w ∙ sym page_length) ∙ back a (page_of d) (blanked d) (omega (arith, blanked_long, h.below held)) in (
            dev (called t) new d.buf,
            sym (read_told l a room d (sym flush_fresh) refl p n z (sym get) refl)
                ∙ ap₂ (λ (xs ys : List ℕ). seen (told 0 p (dev (called t) new d.buf)) (xs ++ ys)) is rest
                ∙ ap (λ (xs : List ℕ). seen (told 0 p (dev (called t) new d.buf)) xs) (append-nil (page_of d)),
          )

    -- the block is the one that was erased last, and the page in it is blank
    pub flush_known : is_erased d.store.erased (block_of d) ≡ true → take (length (page_of d)) (drop d.store.at d.chip) ≡ blanks (length (page_of d))
        → flushes l d ≡ out true (dev (freed (called d.store)) (over d.store.at (page_of d) d.chip) d.buf)
    flush_known known blank = flush_good d.store d.chip (sym (ready_known l (block_of d) d known)) refl refl refl blank
