-- A NAND call fails or comes up short only for a reason of its own. On a store in order (Within), a flush succeeds, and a read, an
-- erase and a write of a range below the capacity and below the chip's end do so in full, or
--   one of the chip calls that this very call made has a number that is told to fail, or
--   a block is marked bad that this very call may have to erase: the block of the page that was held before it or, in an erase or a write,
--   a block that its range touches.
-- So faults with other numbers and bad blocks elsewhere fail no call, and where nothing is wrong with the chip (Good) none fails.
-- Whatever happens, the state behind the call is in order again. The number of the next call is at most 2^64 - 1, where it stays:
-- from there on calls share that number.
use Rattle.std.specs.Prelude.{◌≡◌, Bool, false, cond, ◌⊎◌, ltb, eqb, take, drop, set, get_or}
use Rattle.std.proofs.Math.Path.{refl, ap, subst}
use Rattle.std.proofs.Common.{sym, ◌∙◌, inl, inr, le_refl, add-mul, mul-div_cancel, div-lt_iff_lt-mul, le-div_iff_mul-le, le_of_mul-le-mul_right, mod-lt, ltb-true, ltb-false, eqb-true, lt-ltb, le-leb, length-take-le}
use Rattle.std.proofs.Math.Bool.{true}
use mathlib.Core.List.{List, [], ◌∷◌, ◌++◌}
use Prim.Native.Nat.{ℕ, zero, suc, ◌+◌, ◌-◌, ◌*◌, ◌/◌, ◌%◌, ◌≤◌, ◌<◌, min}
use Rattle.std.proofs.Math.Nat.{mul-le-mul, mul-mod_left, div-mul-le_self, div-div-eq-div-mul}
use native.Mathlib.Omega.{arith}
use Rattle.std.proofs.lemmas.Bool.{eqb-false}
use Rattle.std.proofs.Math.ListN.{length}
use Rattle.text.specs.Token.{same}
use Rattle.storage.specs.declared.types.Shape.{Shape}
use Rattle.storage.specs.declared.types.Store.{Store}
use Rattle.storage.specs.World.{Lent, lent, Dev, dev, Out, out, and_then, Told, told, Seen}
use Rattle.storage.specs.Chip.{failing, able, next_call, called, over, programs, Got, fetched}
use Rattle.storage.specs.Fold.{Run, run, base, seals, step, writes}
use Rattle.storage.specs.Nor.{freed, holding, holds, pages_of, sat_add}
use Rattle.storage.specs.Open.{nand_store}
use Rattle.storage.specs.Nand.{block_size, blanks, kept, erase_block, program_page, asks_good, noting, remember, is_erased, erase_checked, ready, burns, attempt, or_else, flushes, begins, flushed, loads, stays, written, erase_n, erase_range, erased, read_out}
use Rattle.storage.proofs.Chips.{able_fits}
use Rattle.storage.proofs.Fold.{false_true, stopped, reached}
use Rattle.storage.proofs.Over.{length_over}
use Rattle.storage.proofs.Programs.{Call, programs_call, fetched_number, fetched_well}
use Rattle.storage.proofs.NandCalls.{length_blanks, length_page}
use Rattle.storage.proofs.NandKeeps.{checked_keeps, flushes_keeps}
use Rattle.storage.proofs.NandMoves.{start_is, written_told, read_unflushed, read_none, read_told}
use Rattle.nand_laws.specs.Made.{Failed, failed_wide}
use Rattle.nand_laws.specs.Keeps.{either, next, flushed_keeps, erased_keeps, read_out_keeps}
use Rattle.nand_laws.specs.Kept.{Kept, flushes_kept, kept_refl, onward, noted, let_go, with_byte, begun}
use Rattle.nand_laws.specs.Within.{Bytes, page_of, block_of, Within, Inside, bytes_more, within_as, set_within, begin_within, within_free}
use Rattle.nand_laws.specs.Fresh.{Good, good_blank, block_inside, asks_good_lem, erase_good, page_good, block_on, page_fits, blanked_page}
use Rattle.std.specs.Prelude.{Option, None, Some}

-- ---- what is told of a failure

-- k is the block of the held page
abbrev pub Held : Dev → ℕ → Type 0
Held d k = (d.store.held ≡ true) × (k ≡ block_of d)

-- k is a block that n bytes from an address on touch, from the block of the address on
abbrev pub Touched : Dev → ℕ → ℕ → ℕ → Type 0
Touched d off n k = (off / block_size d.store ≤ k) × (k * block_size d.store < off + n)

-- either
abbrev pub HeldOrTouched : Dev → ℕ → ℕ → ℕ → Type 0
HeldOrTouched d off n k = Held d k ⊎ Touched d off n k

-- why a call that goes from d to e failed, where it may ask about the blocks `Asks`: a chip call that it made has a number that is told
-- to fail, or one of these blocks is marked bad
pub data Reason (l : Lent) (Asks : ℕ → Type 0) (d e : Dev) : Type 0 where
  error : Failed l.faults d e → Reason l Asks d e
  bad : (k : ℕ) → Asks k → k < length l.marks → (get_or l.marks k 0 ≡ 255 → ⊥) → Reason l Asks d e

-- a chip on which nothing is wrong gives none
pub no_reason : {l : Lent} {Asks : ℕ → Type 0} {d e : Dev} → Good l → Reason l Asks d e → ⊥
no_reason g (error x) = false_true (sym (g.quiet x.number) ∙ x.fails)
no_reason g (bad k a h n) = n (g.good k h)

-- a reason of a call is one of any longer run of calls that may ask about these blocks
pub reason_wide : {l : Lent} {A B : ℕ → Type 0} {c d e f : Dev} → c.store.calls ≤ d.store.calls → e.store.calls ≤ f.store.calls → ((k : ℕ) → A k → B k)
    → Reason l A d e → Reason l B c f
reason_wide h i g (error x) = error (failed_wide h i x)
reason_wide h i g (bad k a m n) = bad k (g k a) m n

-- what holds but for a reason holds where there is none
pub surely : {A B : Type 0} → (B → ⊥) → A ⊎ B → A
surely n (inl a) = a
surely n (inr b) = absurd (n b)

-- ---- the blocks of a range

-- the blocks that m bytes touch are no more than those that have room for them
pages_most : (b m j : ℕ) → 0 < b → m ≤ j * b → pages_of b m ≤ j
pages_most b m j h k = go (ltb m (j * b)) refl
  where
    go : (t : Bool) → ltb m (j * b) ≡ t → pages_of b m ≤ j
    go true e =
        let i : m / b < j = (div-lt_iff_lt-mul {k = b} {x = m} {y = j} h).1 (ltb-true m (j * b) e) in
        omega arith
    go false e =
        let i : j * b ≤ m = ltb-false m (j * b) e in
        let q : m ≡ j * b = omega arith in
        let x : m / b ≡ j = ap (λ (n : ℕ). n / b) q ∙ mul-div_cancel j h in
        let y : m % b ≡ 0 = ap (λ (n : ℕ). n % b) q ∙ mul-mod_left j b in
        omega arith

-- the blocks that a range touches lie below n, where the range ends within n blocks
range_inside : (b start end n : ℕ) → 0 < b → start ≤ n * b → end ≤ n * b → start / b + pages_of b (end - base b start) ≤ n
range_inside b start end n h s e =
    let k = start / b in
    let p : k * b ≡ base b start = start_is b start in
    let i : k * b ≤ n * b = omega (arith, div-mul-le_self start b) in
    let j : k ≤ n = le_of_mul-le-mul_right {m = k} {n = n} {k = b} i h in
    let q : n ≡ k + (n - k) = omega arith in
    let r : n * b ≡ k * b + (n - k) * b = ap (λ (x : ℕ). x * b) q ∙ add-mul k (n - k) b in
    let m = pages_most b (end - base b start) (n - k) h (omega arith) in
    omega arith

-- and each starts below any number that neither the range's start nor its end passes
range_touches : (b start end top k : ℕ) → 0 < b → start ≤ top → end ≤ top → k < start / b + pages_of b (end - base b start) → k * b < top
range_touches b start end top k h s e j = go (ltb (k * b) top) refl
  where
    go : (t : Bool) → ltb (k * b) top ≡ t → k * b < top
    go true u = ltb-true (k * b) top u
    go false u =
        let n : top ≤ k * b = ltb-false (k * b) top u in
        let m : start / b + pages_of b (end - base b start) ≤ k = range_inside b start end k h (omega arith) (omega arith) in
        absurd (omega arith)

-- the block of a page is the block of an address in it
page_block : (a p g : ℕ) → 0 < p → base p a / (p * g) ≡ a / (p * g)
page_block a p g h =
    let e : base p a / p ≡ a / p = ap (λ (n : ℕ). n / p) (sym (start_is p a)) ∙ mul-div_cancel (a / p) h in
    sym (div-div-eq-div-mul (base p a) p g) ∙ ap (λ (n : ℕ). n / g) e ∙ div-div-eq-div-mul a p g

-- ---- the single chip calls

asks_call : (l : Lent) (k : ℕ) (d : Dev) → Call d (asks_good l k d).dev
unfolding asks_good
asks_call l k d = record { number = refl; buf = refl; size = refl }

erase_call : (F : List ℕ) (k : ℕ) (d : Dev) → Call d (erase_block F k d).dev
unfolding erase_block
erase_call F k d = programs_call F (k * block_size d.store) (blanks (block_size d.store)) d

page_call : (F : List ℕ) (a : ℕ) (xs : List ℕ) (d : Dev) → Call d (program_page F a xs d).dev
unfolding program_page
page_call F a xs d = go (able F d.store d.chip a (length xs)) refl
  where
    new : List ℕ
    new = kept (take (length xs) (drop a d.chip)) xs

    go : (b : Bool) → able F d.store d.chip a (length xs) ≡ b
        → Call d (cond b (out (same new xs) (dev (called d.store) (over a new d.chip) d.buf)) (out false (dev (called d.store) d.chip d.buf))).dev
    go true t =
        let f : a + length xs ≤ length d.chip = able_fits F d.store d.chip a (length xs) t in
        record { number = refl; buf = refl; size = length_over a new d.chip (rw (length_page a xs d.chip f) f) }
    go false t = record { number = refl; buf = refl; size = refl }

-- where no block is remembered, none counts as erased
none_erased : (k : ℕ) → is_erased None k ≡ false
unfolding is_erased
none_erased k = refl

-- a checked erase that succeeded has set its block to 0xFF
checked_was : (l : Lent) (k : ℕ) (d : Dev) → k < d.store.shape.blocks → (erase_checked l k d).ok ≡ true
    → (erase_checked l k d).dev ≡ dev (called (called d.store)) (over (k * block_size d.store) (blanks (block_size d.store)) d.chip) d.buf
unfolding erase_checked asks_good erase_block programs
checked_was l k d h = rw (lt-ltb k d.store.shape.blocks h) (go (asks_good l k d).ok refl)
  where
    b : ℕ
    b = block_size d.store

    s : Store
    s = called d.store

    end : Dev
    end = dev (called s) (over (k * b) (blanks b) d.chip) d.buf

    late : (t : Bool) → (cond t (out true end) (out false (dev (called s) d.chip d.buf))).ok ≡ true → (cond t (out true end) (out false (dev (called s) d.chip d.buf))).dev ≡ end
    late true e = refl
    late false e = false_true e

    go : (t : Bool) → (asks_good l k d).ok ≡ t → (cond t (erase_block l.faults k (asks_good l k d).dev) (asks_good l k d)).ok ≡ true
        → (cond t (erase_block l.faults k (asks_good l k d).dev) (asks_good l k d)).dev ≡ end
    go true u e = late (able l.faults s d.chip (k * b) (length (blanks b))) e
    go false u e = false_true (sym u ∙ e)

-- ---- a call under way

-- the call started at d and may ask about the blocks `Asks`
module _ (l : Lent) (Asks : ℕ → Type 0) (d : Dev) where
  -- it has come to e, whose held page, if any, lies in one of these blocks
  record Still (e : Dev) : Type 0 where
    within : Within l e
    kept : Kept d e
    asks : e.store.held ≡ true → Asks (block_of e)

  still_as : (e f : Dev) → f.store.shape ≡ e.store.shape → length f.chip ≡ length e.chip → f.buf ≡ e.buf → f.store.at ≡ e.store.at
      → (f.store.held ≡ true → e.store.held ≡ true) → Kept d f → Still e → Still f
  still_as e f shape long buf at held k s =
      record { within = within_as l e f shape long buf at held s.within; kept = k; asks = λ t. rw (shape, at) (s.asks (held t)) }

  calls : (e f : Dev) → Call e f → Still e → Still f
  calls e f c s =
      still_as e f (ap (λ (x : Store). x.shape) c.number) c.size c.buf (ap (λ (x : Store). x.at) c.number) (λ t. ap (λ (x : Store). x.held) (sym c.number) ∙ t)
      (onward d e f c s.kept) s

  notes : (x : Option ℕ) (e : Dev) → Still e → Still (remember x e)
  notes x e s = still_as e (remember x e) refl refl refl refl (λ t. t) (noted d x e s.kept) s

  frees : (e : Dev) → Still e → Still (dev (freed e.store) e.chip e.buf)
  frees e s = still_as e (dev (freed e.store) e.chip e.buf) refl refl refl refl (λ t. false_true t) (let_go d e s.kept) s

  flushes_still : (e : Dev) → Still e → Still (flushes l e).dev
  flushes_still = flushes_keeps Still calls notes l frees

  flushed_still : (e : Dev) → Still e → Still (flushed l e).dev
  flushed_still = flushed_keeps Still calls notes l frees

  erased_still : (e : Dev) → Still e → (start size : ℕ) → Still (erased l start size e).dev
  erased_still = erased_keeps Still calls notes l frees

  read_out_still : (e : Dev) → Still e → (off : ℕ) (room : List ℕ) → Still (read_out l off room e).told.dev
  read_out_still = read_out_keeps Still calls notes l frees

  -- with a page held
  abbrev Trying : Dev → Type 0
  Trying e = Still e × (e.store.held ≡ true)

  trying_calls : (e f : Dev) → Call e f → Trying e → Trying f
  trying_calls e f c s = (calls e f c s.0, ap (λ (x : Store). x.held) c.number ∙ s.1)

  trying_notes : (x : Option ℕ) (e : Dev) → Trying e → Trying (remember x e)
  trying_notes x e s = (notes x e s.0, s.1)

  -- what a try to flush the page leaves: where it failed, no block is remembered
  abbrev Left : Out → Type 0
  Left o = Trying o.dev × (o.ok ≡ false → o.dev.store.erased ≡ None)

  ready_left : (k : ℕ) (e : Dev) → Trying e → Left (ready l k e)
  unfolding ready
  ready_left k e s = go (is_erased e.store.erased k) x.ok
    where
      x : Out
      x = erase_checked l k e

      i : Trying x.dev
      i = checked_keeps Trying trying_calls trying_notes l k e s

      go : (b c : Bool) → Left (cond b (out true e) (cond c (out true (remember (Some k) x.dev)) (out false (remember None x.dev))))
      go true c = (s, λ z. false_true (sym z))
      go false true = (trying_notes (Some k) x.dev i, λ z. false_true (sym z))
      go false false = (trying_notes None x.dev i, λ z. refl)

  burns_left : (e : Dev) → Trying e → Left (burns l e)
  unfolding burns
  burns_left e s = go w.ok refl
    where
      w : Out
      w = program_page l.faults e.store.at (page_of e) e

      i : Trying w.dev
      i = trying_calls e w.dev (page_call l.faults e.store.at (page_of e) e) s

      go : (b : Bool) → w.ok ≡ b → Left (cond b w (out false (remember None w.dev)))
      go true u = (i, λ z. false_true (sym z ∙ u))
      go false u = (trying_notes None w.dev i, λ z. refl)

  attempt_left : (e : Dev) → Trying e → Left (attempt l e)
  unfolding attempt
  attempt_left e s = go r.ok
    where
      r : Out
      r = ready l (block_of e) e

      go : (b : Bool) → Left (cond b (burns l r.dev) r)
      go true = burns_left r.dev (ready_left (block_of e) e s).0
      go false = ready_left (block_of e) e s

  -- ---- where a step of it fails there is a reason

  -- the counter is within its numbers
  module _ (most : d.store.calls ≤ 18446744073709551615) where
    -- what failed has a reason
    abbrev Fair : Out → Type 0
    Fair o = o.ok ≡ false → Reason l Asks d o.dev

    -- a reason stays one
    later : {e f : Dev} → e.store.calls ≤ f.store.calls → Reason l Asks d e → Reason l Asks d f
    later h = reason_wide (le_refl d.store.calls) h (λ k a. a)

    -- what succeeds has none to give
    done : (o : Out) → o.ok ≡ true → Fair o
    done o t e = false_true (sym e ∙ t)

    -- one after the other
    next_fair : (o : Out) (f : Dev → Out) → Fair o → (o.ok ≡ true → Fair (f o.dev)) → Fair (and_then o f)
    next_fair o f h k = go o.ok refl
      where
        go : (b : Bool) → o.ok ≡ b → Fair (cond b (f o.dev) o)
        go true t = k t
        go false t = h

    -- a chip call that succeeds unless its number is told to fail
    call_fair : (e : Dev) (o : Out) → Still e → Call e o.dev → (failing l.faults e.store.calls ≡ false → o.ok ≡ true) → Fair o
    call_fair e o s c well t = go (failing l.faults e.store.calls) refl
      where
        go : (b : Bool) → failing l.faults e.store.calls ≡ b → Reason l Asks d o.dev
        go true u =
            let n : o.dev.store.calls ≡ next_call e.store.calls = ap (λ (x : Store). x.calls) c.number in
            error (record { number = e.store.calls; after = (s.kept.calls most).0; before = omega arith; fails = u })
        go false u = false_true (sym t ∙ well u)

    -- a question about a block
    asks_fair : (k : ℕ) (e : Dev) → Still e → Asks k → k < length l.marks → Fair (asks_good l k e)
    asks_fair k e s a h = go (eqb (get_or l.marks k 0) 255) refl
      where
        go : (b : Bool) → eqb (get_or l.marks k 0) 255 ≡ b → Fair (asks_good l k e)
        go true u =
            call_fair e (asks_good l k e) s (asks_call l k e)
            (λ q. ap (λ (o : Out). o.ok) (asks_good_lem l e.store e.chip e.buf q k (eqb-true (get_or l.marks k 0) 255 u)))
        go false u = λ t. bad k a h (eqb-false (get_or l.marks k 0) 255 u)

    -- a checked erase of a block on the chip
    checked_fair : (k : ℕ) (e : Dev) → Still e → Asks k → k < e.store.shape.blocks → Fair (erase_checked l k e)
    unfolding erase_checked
    checked_fair k e s a h =
        let x : Dev = (asks_good l k e).dev in
        let i : Still x = calls e x (asks_call l k e) s in
        let n : x.store.shape.blocks ≡ e.store.shape.blocks = ap (λ (y : Store). y.shape.blocks) (asks_call l k e).number in
        let f : k * block_size x.store + block_size x.store ≤ length x.chip = rw i.within.whole (block_inside k (block_size x.store) x.store.shape.blocks (omega arith)) in
        rw (lt-ltb k e.store.shape.blocks h)
        (next_fair (asks_good l k e) (erase_block l.faults k) (asks_fair k e s a (rw s.within.marked h))
        (λ t. call_fair x (erase_block l.faults k x) i (erase_call l.faults k x) (λ q. ap (λ (o : Out). o.ok) (erase_good l x.store x.chip x.buf q k f))))

    -- ---- flush

    -- the held page is 0xFF on the chip
    abbrev Blank : Dev → Type 0
    Blank e = take (length (page_of e)) (drop e.store.at e.chip) ≡ blanks (length (page_of e))

    -- a page programmed where it is blank
    burns_fair : (e : Dev) → Trying e → Blank e → Fair (burns l e)
    unfolding burns
    burns_fair e s blank = go w.ok refl
      where
        w : Out
        w = program_page l.faults e.store.at (page_of e) e

        fair : Fair w
        fair =
            call_fair e w s.0 (page_call l.faults e.store.at (page_of e) e)
            (λ q. ap (λ (o : Out). o.ok) (page_good l e.store e.chip e.buf q e.store.at (page_of e) (s.0.within.bytes s.1) (page_fits l e s.0.within s.1) blank))

        go : (b : Bool) → w.ok ≡ b → Fair (cond b w (out false (remember None w.dev)))
        go true u = fair
        go false u = λ z. later (le_refl w.dev.store.calls) (fair u)

    -- a try to flush into a block that has to be erased first
    attempt_fair : (e : Dev) → Trying e → e.store.erased ≡ None → Fair (attempt l e)
    unfolding attempt ready
    attempt_fair e s none = rw (ap (λ (y : Option ℕ). is_erased y k) none ∙ none_erased k) (go x.ok refl)
      where
        k : ℕ
        k = block_of e

        x : Out
        x = erase_checked l k e

        go : (b : Bool) → x.ok ≡ b → Fair (and_then (cond b (out true (remember (Some k) x.dev)) (out false (remember None x.dev))) (burns l))
        go true u =
            burns_fair (remember (Some k) x.dev) (trying_notes (Some k) x.dev (checked_keeps Trying trying_calls trying_notes l k e s))
            (subst (λ (y : Dev). Blank (remember (Some k) y)) (sym (checked_was l k e (block_on l e s.0.within s.1) u)) (blanked_page l e s.0.within s.1))
        go false u = λ z. later (le_refl x.dev.store.calls) (checked_fair k e s.0 (s.0.asks s.1) (block_on l e s.0.within s.1) u)

    -- a flush: where it fails, so did its second try, which had to erase the block
    flushes_fair : (e : Dev) → Still e → Fair (flushes l e)
    unfolding flushes
    flushes_fair e s = go e.store.held refl
      where
        a : Out
        a = attempt l e

        f : Dev → Out
        f w = out true (dev (freed w.store) w.chip w.buf)

        again : e.store.held ≡ true → (b : Bool) → a.ok ≡ b → Fair (cond b a (attempt l a.dev))
        again t true u = done a u
        again t false u = let x = attempt_left e (s, t) in attempt_fair a.dev x.0 (x.1 u)

        go : (b : Bool) → e.store.held ≡ b → Fair (cond b (and_then (or_else a (attempt l)) f) (out true e))
        go true t = next_fair (or_else a (attempt l)) f (again t a.ok refl) (λ u. done (f (or_else a (attempt l)).dev) refl)
        go false t = done (out true e) refl

    -- the flush that a caller asks for
    flushed_fair : (e : Dev) → Still e → Fair (flushed l e)
    unfolding flushed
    flushed_fair e s = next_fair (flushes l e) (λ f. out true (remember None f)) (flushes_fair e s) (λ t. done (out true (remember None (flushes l e).dev)) refl)

    -- ---- read

    -- a read gives as many bytes as there is room, or there is a reason
    read_fair : (off : ℕ) (room : List ℕ) (e : Dev) → Still e → Inside e off (length room)
        → ((read_out l off room e).told.count ≡ length room) ⊎ Reason l Asks d (read_out l off room e).told.dev
    read_fair off room e s i = flush_first f.ok refl
      where
        f : Out
        f = flushes l e

        Whole : Seen → Type 0
        Whole x = (x.told.count ≡ length room) ⊎ Reason l Asks d x.told.dev

        k : Kept e f.dev
        k = flushes_kept l e

        c : f.dev.store.shape.capacity ≡ e.store.shape.capacity
        c = ap (λ (x : Shape). x.capacity) k.shape

        some : f.ok ≡ true → (n : ℕ) → n ≡ length room → Whole (read_out l off room e)
        some u zero q = let m : 0 ≡ min (length room) (f.dev.store.shape.capacity - off) = omega arith in subst Whole (read_none l off room e refl u 0 m refl) (inl q)
        some u (suc m) q =
            let n : ℕ = suc m in
            let j : n ≡ min (length room) (f.dev.store.shape.capacity - off) = omega (arith, c, i.low) in
            let t : length (take n room) ≡ n = length-take-le n room (omega arith) in
            let b : off + length (take n room) ≤ length f.dev.chip = omega (arith, k.chip, i.short) in
            let z : suc m ≡ 0 → ⊥ = λ e. omega arith in
            let g = fetched l.faults off f.dev.store f.dev.chip (take n room) in
            let h = dev g.store f.dev.chip f.dev.buf in
            let fair : Fair (out g.ok h) =
            call_fair f.dev (out g.ok h) (flushes_still e s) (record { number = fetched_number l.faults off f.dev.store f.dev.chip (take n room); buf = refl; size = refl })
            (λ q. ap (λ (x : Got). x.ok) (fetched_well l.faults f.dev.store f.dev.chip q off (take n room) b)) in
            subst Whole (read_told l off room e refl u n j z refl refl) (answered g.ok n h q fair)
          where
            answered : (b : Bool) (n : ℕ) (h : Dev) → n ≡ length room → Fair (out b h) → (cond b n 0 ≡ length room) ⊎ Reason l Asks d h
            answered true n h q fair = inl q
            answered false n h q fair = inr (fair refl)

        flush_first : (b : Bool) → f.ok ≡ b → Whole (read_out l off room e)
        flush_first true u = some u (length room) refl
        flush_first false u = subst Whole (read_unflushed l off room e refl u) (inr (flushes_fair e s u))

    -- ---- erase

    -- n blocks from block k on
    erase_n_fair : (n k : ℕ) (e : Dev) → Still e → k + n ≤ d.store.shape.blocks → ((j : ℕ) → k ≤ j → j < k + n → Asks j) → Fair (erase_n l n k e)
    unfolding erase_n
    erase_n_fair zero k e s h a = done (out true e) refl
    erase_n_fair (suc n) k e s h a =
        let m : e.store.shape.blocks ≡ d.store.shape.blocks = ap (λ (x : Shape). x.blocks) s.kept.shape in
        next_fair (erase_checked l k e) (erase_n l n (k + 1)) (checked_fair k e s (a k (le_refl k) (omega arith)) (omega arith))
        (λ t. erase_n_fair n (k + 1) (erase_checked l k e).dev (checked_keeps Still calls notes l k e s) (omega arith) (λ j x y. a j (omega arith) (omega arith)))

    module _ (start size : ℕ) (i : Inside d start size) (touches : (k : ℕ) → Touched d start size k → Asks k) where
      -- the blocks of a range
      range_fair : (e : Dev) → Still e → Fair (erase_range l start size e)
      unfolding erase_range
      range_fair e s =
          let b = block_size e.store in
          let end = sat_add start size in
          let n = pages_of b (end - base b start) in
          let q : b ≡ block_size d.store = ap (λ (x : Shape). x.page * x.pages) s.kept.shape in
          let c : e.store.shape.capacity ≡ d.store.shape.capacity = ap (λ (x : Shape). x.capacity) s.kept.shape in
          let m : e.store.shape.blocks ≡ d.store.shape.blocks = ap (λ (x : Shape). x.blocks) s.kept.shape in
          let some : 0 < b = mul-le-mul s.within.page_some s.within.pages_some in
          let last : start + size ≤ e.store.shape.blocks * b = rw (← s.within.whole) (omega (arith, s.kept.chip, i.short)) in
          let most : start / b + n ≤ e.store.shape.blocks = range_inside b start end e.store.shape.blocks some (omega arith) (omega arith) in
          rw (le-leb end e.store.shape.capacity (omega (arith, i.low)))
          (erase_n_fair n (start / b) e s (omega arith)
          (λ j x y. touches j (subst (λ (z : ℕ). (start / z ≤ j) × (j * z < start + size)) q (x, range_touches b start end (start + size) j some (omega arith) (omega arith) y))))

      -- after the flush
      erased_fair : (e : Dev) → Still e → Fair (erased l start size e)
      unfolding erased
      erased_fair e s =
          next_fair (flushes l e) (λ f. erase_range l start size (remember None f)) (flushes_fair e s)
          (λ t. range_fair (remember None (flushes l e).dev) (notes None (flushes l e).dev (flushes_still e s)))

  -- ---- write

  -- what a write leaves
  abbrev Wrote : Run → Type 0
  Wrote o = Still o.dev × (d.store.calls ≤ 18446744073709551615 → o.ok ≡ false → Reason l Asks d o.dev)

  -- bytes of a range whose blocks it may ask about
  module _ (off n : ℕ) (i : Inside d off n) (touches : (k : ℕ) → Touched d off n k → Asks k) (room : d.store.shape.page ≤ length d.buf) where
    -- a page of the range begun
    begins_still : (a : ℕ) (e : Dev) → off ≤ a → a < off + n → Still e → Still (begins (base d.store.shape.page a) e)
    unfolding begins
    begins_still a e h k s =
        let p = d.store.shape.page in
        let b = block_size d.store in
        let q : e.store.shape.page ≡ p = ap (λ (x : Shape). x.page) s.kept.shape in
        let low : a / b * b ≤ a = div-mul-le_self a b in
        let some : 0 < p = omega (arith, s.within.page_some) in
        let pages : e.store.shape.pages ≡ d.store.shape.pages = ap (λ (x : Shape). x.pages) s.kept.shape in
        let size : 0 < b = mul-le-mul some (rw pages at s.within.pages_some) in
        let first : off / b ≤ a / b = (le-div_iff_mul-le {k = b} {x = off / b} {y = a} size).1 (omega (arith, div-mul-le_self off b)) in
        let x : Asks (base p a / b) = subst Asks (sym (page_block a p d.store.shape.pages some)) (touches (a / b) (first, omega arith)) in
        record {
          within = begin_within l p a e q s.within (omega (arith, s.kept.chip, i.short));
          kept = begun d room a e (omega (arith, i.low)) s.kept;
          asks = λ z. subst (λ (y : Shape). Asks (base p a / (y.page * y.pages))) (sym s.kept.shape) x;
        }

    module _ (a : ℕ) (e : Dev) (s : Still e) where
      -- the page of an address, brought in
      loads_still : off ≤ a → a < off + n → Still (loads l d.store.shape.page a e).dev
      unfolding loads
      loads_still h k =
          let b = base d.store.shape.page a in
          let f : Dev → Out = λ x. out true (begins b x) in
          either Still (holds e.store b) (out true e) (and_then (flushes l e) f) s (next Still (flushes l e) f (flushes_still e s) (λ x y. begins_still a x h k y))

      loads_fair : (most : d.store.calls ≤ 18446744073709551615) → Fair most (loads l d.store.shape.page a e)
      unfolding loads
      loads_fair most = go (holds e.store b)
        where
          b : ℕ
          b = base d.store.shape.page a

          f : Dev → Out
          f x = out true (begins b x)

          go : (t : Bool) → Fair most (cond t (out true e) (and_then (flushes l e) f))
          go true = done most (out true e) refl
          go false = next_fair most (flushes l e) f (flushes_fair most e s) (λ u. done most (f (flushes l e).dev) refl)

    -- bytes of the range one after the other
    writes_fair : (xs : List ℕ) (a : ℕ) (e : Dev) → off ≤ a → a + length xs ≤ off + n → Bytes xs → Still e
        → Wrote (writes d.store.shape.page (loads l d.store.shape.page) stays xs (run true a e))
    unfolding writes step seals stays
    writes_fair [] a e h k b s = (s, λ most z. false_true (sym z))
    writes_fair (x ∷ xs) a e h k b s = go (writes_fair xs (a + 1) z (omega arith) (omega arith) (λ j. b (suc j)) next_byte) y.ok refl
      where
        p : ℕ
        p = d.store.shape.page

        y : Out
        y = loads l p a e

        came : Still y.dev
        came = loads_still a e s h (omega arith)

        z : Dev
        z = dev y.dev.store y.dev.chip (set y.dev.buf (a % p) x)

        next_byte : Still z
        next_byte =
            let q : y.dev.store.shape.page ≡ p = ap (λ (t : Shape). t.page) came.kept.shape in
            let j : a % p < y.dev.store.shape.page = omega (arith, mod-lt a (rw q at came.within.page_some)) in
            record { within = set_within l (a % p) x y.dev j (b 0) came.within; kept = with_byte d (a % p) x y.dev came.kept; asks = came.asks }

        go : Wrote (writes p (loads l p) stays xs (run true (a + 1) z)) → (t : Bool) → y.ok ≡ t
            → Wrote (writes p (loads l p) stays xs (cond t (run true (a + 1) z) (run false a y.dev)))
        go rest true u = rest
        go rest false u = rw (stopped p (loads l p) stays xs a y.dev) (came, λ most t. loads_fair a e s most u)

-- ---- the theorems

-- succeeded or failed
either_way : {R : Type 0} (b : Bool) → (b ≡ false → R) → (b ≡ true) ⊎ R
either_way true h = inl refl
either_way false h = inr (h refl)

module _ (l : Lent) (d : Dev) (w : Within l d) where
  -- a call that has only started
  here : (Asks : ℕ → Type 0) → ((k : ℕ) → Held d k → Asks k) → Still l Asks d d
  here Asks h = record { within = w; kept = kept_refl d; asks = λ t. h (block_of d) (t, refl) }

  about_held : Still l (Held d) d d
  about_held = here (Held d) (λ k h. h)

  about_range : (off n : ℕ) → Still l (HeldOrTouched d off n) d d
  about_range off n = here (HeldOrTouched d off n) (λ k h. inl h)

  -- the bytes of a write, under way
  wrote : (off : ℕ) (xs : List ℕ) → Inside d off (length xs) → Bytes xs
      → Wrote l (HeldOrTouched d off (length xs)) d (writes d.store.shape.page (loads l d.store.shape.page) stays xs (run true off d))
  wrote off xs i b =
      writes_fair l (HeldOrTouched d off (length xs)) d off (length xs) i (λ k t. inr t) w.room xs off d (le_refl off) (le_refl (off + length xs)) b (about_range off (length xs))

  -- ---- whatever happens, the state behind a call is within again

  -- behind the flush inside every call
  pub flush_within : Within l (flushes l d).dev
  flush_within = (flushes_still l (Held d) d d about_held).within

  -- behind the flush that a caller asks for
  pub flushed_within : Within l (flushed l d).dev
  flushed_within = (flushed_still l (Held d) d d about_held).within

  -- behind a read
  pub read_within : (off : ℕ) (room : List ℕ) → Within l (read_out l off room d).told.dev
  read_within off room = (read_out_still l (Held d) d d about_held off room).within

  -- behind an erase
  pub erase_within : (start size : ℕ) → Within l (erased l start size d).dev
  erase_within start size = (erased_still l (Held d) d d about_held start size).within

  -- behind a write of bytes below the capacity and below the chip's end
  pub write_within : (off : ℕ) (xs : List ℕ) → Inside d off (length xs) → Bytes xs → Within l (written l off xs d).dev
  write_within off xs i b = subst (λ (t : Told). Within l t.dev) (written_told l off xs d i.low refl) (wrote off xs i b).0.within

  -- ---- a page that is held behind a call is one that was held before it, or lies in a block that the call touches

  -- behind a read
  pub read_held : (off : ℕ) (room : List ℕ) (k : ℕ) → Held (read_out l off room d).told.dev k → Held d k
  read_held off room k h = subst (Held d) (sym h.1) ((read_out_still l (Held d) d d about_held off room).asks h.0)

  -- behind a write
  pub write_held : (off : ℕ) (xs : List ℕ) → Inside d off (length xs) → Bytes xs → (k : ℕ) → Held (written l off xs d).dev k → HeldOrTouched d off (length xs) k
  write_held off xs i b k h =
      let At : Dev → Type 0 = λ e. e.store.held ≡ true → HeldOrTouched d off (length xs) (block_of e) in
      subst (HeldOrTouched d off (length xs)) (sym h.1) (subst (λ (t : Told). At t.dev) (written_told l off xs d i.low refl) (wrote off xs i b).0.asks h.0)

  -- ---- a call does all that it is asked, or it met a reason

  module _ (most : d.store.calls ≤ 18446744073709551615) where
    -- a flush succeeds, or one of its chip calls was told to fail, or the held page's block is marked bad
    pub flush_or_reason : ((flushes l d).ok ≡ true) ⊎ Reason l (Held d) d (flushes l d).dev
    flush_or_reason = either_way (flushes l d).ok (flushes_fair l (Held d) d most d about_held)

    -- and so does the flush that a caller asks for
    pub flushed_or_reason : ((flushed l d).ok ≡ true) ⊎ Reason l (Held d) d (flushed l d).dev
    flushed_or_reason = either_way (flushed l d).ok (flushed_fair l (Held d) d most d about_held)

    -- a read below the capacity and below the chip's end fills all of its room, or one of its chip calls was told to fail, or the held
    -- page's block is marked bad
    pub read_or_reason : (off : ℕ) (room : List ℕ) → Inside d off (length room)
        → ((read_out l off room d).told.count ≡ length room) ⊎ Reason l (Held d) d (read_out l off room d).told.dev
    read_or_reason off room i = read_fair l (Held d) d most off room d about_held i

    -- an erase of a range below the capacity and below the chip's end succeeds, or one of its chip calls was told to fail, or the held
    -- page's block or one that the range touches is marked bad
    pub erase_or_reason : (start size : ℕ) → Inside d start size → ((erased l start size d).ok ≡ true) ⊎ Reason l (HeldOrTouched d start size) d (erased l start size d).dev
    erase_or_reason start size i =
        either_way (erased l start size d).ok (erased_fair l (HeldOrTouched d start size) d most start size i (λ k t. inr t) d (about_range start size))

    -- a write of bytes below the capacity and below the chip's end takes them all, or one of its chip calls was told to fail, or the
    -- held page's block or one that the bytes touch is marked bad
    pub write_or_reason : (off : ℕ) (xs : List ℕ) → Inside d off (length xs) → Bytes xs
        → ((written l off xs d).count ≡ length xs) ⊎ Reason l (HeldOrTouched d off (length xs)) d (written l off xs d).dev
    write_or_reason off xs i b = subst Whole (written_told l off xs d i.low refl) (go o.ok refl)
      where
        Whole : Told → Type 0
        Whole t = (t.count ≡ length xs) ⊎ Reason l (HeldOrTouched d off (length xs)) d t.dev

        p : ℕ
        p = d.store.shape.page

        o : Run
        o = writes p (loads l p) stays xs (run true off d)

        go : (t : Bool) → o.ok ≡ t → Whole (told 0 (o.at - off) o.dev)
        go true u = let r : o.at ≡ off + length xs = reached p (loads l p) stays xs off d u in inl (omega arith)
        go false u = inr ((wrote off xs i b).1 most u)

-- ---- examples

-- two blocks of two pages of four bytes
module _ (e : Option ℕ) (chip buf : List ℕ) (c : length chip ≡ 16) (r : 4 ≤ length buf) where
  free : (l : Lent) → length l.marks ≡ 2 → Within l (dev (noting e (nand_store 4 2 2 16 0 0)) chip buf)
  free l m = within_free l 4 2 2 16 0 0 e chip buf (omega arith) (omega arith) m c r

  -- with the page at 4 held and blank
  abbrev holds_four : Dev
  holds_four = dev (holding 4 (noting e (nand_store 4 2 2 16 0 0))) chip (blanks 4 ++ drop 4 buf)

  four : (l : Lent) → length l.marks ≡ 2 → Within l holds_four
  unfolding begins
  four l m = begin_within l 4 4 (dev (noting e (nand_store 4 2 2 16 0 0)) chip buf) refl (free l m) (omega arith)

  -- on a clean chip it is flushed, whatever block was erased last and whatever the chip holds there
  pub example_flush : (flushes (lent [] (blanks 2)) holds_four).ok ≡ true
  example_flush = surely (no_reason (good_blank 2)) (flush_or_reason (lent [] (blanks 2)) holds_four (four (lent [] (blanks 2)) (length_blanks 2)) (omega arith))

  -- three bytes from address 7 on, over a page's and a block's end, are all written
  pub example_write : (written (lent [] (blanks 2)) 7 (1 ∷ 2 ∷ 3 ∷ []) (dev (noting e (nand_store 4 2 2 16 0 0)) chip buf)).count ≡ 3
  example_write =
      let b : Bytes (1 ∷ 2 ∷ 3 ∷ []) = bytes_more 1 (2 ∷ 3 ∷ []) (omega arith) (bytes_more 2 (3 ∷ []) (omega arith) (bytes_more 3 [] (omega arith) (λ i. omega arith))) in
      surely (no_reason (good_blank 2))
      (write_or_reason (lent [] (blanks 2)) (dev (noting e (nand_store 4 2 2 16 0 0)) chip buf) (free (lent [] (blanks 2)) (length_blanks 2)) (omega arith)
      7 (1 ∷ 2 ∷ 3 ∷ []) (record { low = omega arith; short = omega arith }) b)

  -- call 0 is told to fail, and block 1 is marked bad
  abbrev flawed : Lent
  flawed = lent (1 ∷ 0 ∷ []) (255 ∷ 0 ∷ [])

  later_quiet : (n : ℕ) → 1 ≤ n → failing (1 ∷ 0 ∷ []) n ≡ false
  unfolding failing
  later_quiet n h = let m : min n 1 ≡ 1 = omega arith in rw m

  -- call 0 is over, and the page at 4 lies in block 0
  abbrev one_call_on : Dev
  one_call_on = dev (called holds_four.store) holds_four.chip holds_four.buf

  no_flaw_met : {f : Dev} → Reason flawed (Held one_call_on) one_call_on f → ⊥
  no_flaw_met (error x) = false_true (sym (later_quiet x.number x.after) ∙ x.fails)
  no_flaw_met (bad k h m n) = n (ap (λ (j : ℕ). get_or (255 ∷ 0 ∷ []) j 0) h.1)

  -- so it is flushed, though the lists are not clean
  pub example_flaws_elsewhere : (flushes flawed one_call_on).ok ≡ true
  example_flaws_elsewhere =
      surely no_flaw_met
      (flush_or_reason flawed one_call_on (within_as flawed holds_four one_call_on refl refl refl refl (λ t. t) (four flawed refl)) (omega arith))
