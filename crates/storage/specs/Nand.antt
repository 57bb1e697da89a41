-- NAND: the modelled chip's calls and the buffering of `NandUpgStorage` over them. A page buffer starts as 0xFF; a page is
-- flushed on leaving it, never on filling it; a flush is tried twice, the second time with the block erased again.
use Rattle.std.specs.Prelude.{◌≡◌, Bool, true, false, cond, List, [], ◌∷◌, ◌++◌, ℕ, zero, suc, ◌+◌, ◌-◌, ◌*◌, ◌/◌, ◌^◌, ◌≤◌, ◌<◌, min, leb, ltb, eqb, length, take, drop, get_or, replicate}
use Rattle.std.specs.Int.Bits.{bit_and}
use Rattle.text.specs.Token.{same}
use Rattle.storage.specs.declared.types.Shape.{Shape}
use Rattle.storage.specs.declared.types.Store.{Store}
use Rattle.storage.specs.World.{Lent, Dev, dev, Out, out, and_then, Told, told, Seen, seen}
use Rattle.storage.specs.Chip.{failing, able, called, over, programs, fetched}
use Rattle.storage.specs.Fold.{run, base, writes}
use Rattle.storage.specs.Open.{page_ok}
use Rattle.storage.specs.Nor.{freed, holding, holds, pages_of, sat_add}
use Rattle.std.specs.Prelude.{Option, None, Some}

-- ---- what an opening has tested (01, refusal 13) and later calls test again

-- the marks and the shape fit together, and the numbers are within their bounds
pub record Shaped (marks : List ℕ) (h : Shape) : Type 0 where
  pub page_ok_lem : page_ok h.page ≡ true
  pub page_some : 0 < h.page
  pub page_most : h.page ≤ 4096
  pub pages_some : 0 < h.pages
  pub pages_most : h.pages ≤ 256
  pub blocks_most : h.blocks ≤ 4096
  pub marked : length marks ≡ h.blocks
  pub capacity_most : h.capacity ≤ 2 ^ 31

-- and the buffer has room for the largest page
pub record Sound (marks : List ℕ) (h : Shape) (buf : List ℕ) : Type 0 where
  pub shaped : Shaped marks h
  pub room : 4096 ≤ length buf

-- ---- the chip

-- the bytes of a block
abbrev pub block_size : Store → ℕ
block_size s = s.shape.page * s.shape.pages

-- n bytes of 0xFF. It stays shut: it would be slow to compute with
unfoldable pub blanks : ℕ → List ℕ
blanks n = replicate n 255

-- block k is set to 0xFF
unfoldable pub erase_block : List ℕ → ℕ → Dev → Out
erase_block F k d = programs F (k * block_size d.store) (blanks (block_size d.store)) d

-- a bit stays only where old and new have it
unfoldable pub kept : List ℕ → List ℕ → List ℕ
kept [] new = []
kept (x ∷ old) [] = x ∷ old
kept (x ∷ old) (y ∷ new) = bit_and x y ∷ kept old new

-- the page at a is programmed with the bytes xs; the call errs if the page then differs from them
unfoldable pub program_page : List ℕ → ℕ → List ℕ → Dev → Out
program_page F a xs d =
    let new = kept (take (length xs) (drop a d.chip)) xs in
    cond (able F d.store d.chip a (length xs))
    (out (same new xs) (dev (called d.store) (over a new d.chip) d.buf))
    (out false (dev (called d.store) d.chip d.buf))

-- is block k good: a call of its own, which errs like any other; a mark other than 0xFF is bad
unfoldable pub asks_good : Lent → ℕ → Dev → Out
asks_good l k d =
    out (cond (failing l.faults d.store.calls) false (eqb (get_or l.marks k 0) 255)) (dev (called d.store) d.chip d.buf)

-- ---- the buffering

-- the record with another erased block
abbrev pub noting : Option ℕ → Store → Store
noting e s = record { shape = s.shape; held = s.held; at = s.at; erased = e; calls = s.calls }

abbrev pub remember : Option ℕ → Dev → Dev
remember e d = dev (noting e d.store) d.chip d.buf

-- is block k the one that was erased last and may be programmed on
unfoldable pub is_erased : Option ℕ → ℕ → Bool
is_erased None k = false
is_erased (Some b) k = eqb b k

-- block k is erased, if it is on the chip and good: `erase_checked`
unfoldable pub erase_checked : Lent → ℕ → Dev → Out
erase_checked l k d = cond (ltb k d.store.shape.blocks) (and_then (asks_good l k d) (erase_block l.faults k)) (out false d)

-- block k may be programmed: it was erased last, or is erased now; a failure forgets what was erased
unfoldable pub ready : Lent → ℕ → Dev → Out
ready l k d =
    let e = erase_checked l k d in
    cond (is_erased d.store.erased k) (out true d) (cond e.ok (out true (remember (Some k) e.dev)) (out false (remember None e.dev)))

-- the held page is programmed; a failure forgets what was erased
unfoldable pub burns : Lent → Dev → Out
burns l d =
    let w = program_page l.faults d.store.at (take d.store.shape.page d.buf) d in
    cond w.ok w (out false (remember None w.dev))

-- one try to flush the held page
unfoldable pub attempt : Lent → Dev → Out
attempt l d = and_then (ready l (d.store.at / block_size d.store) d) (burns l)

-- after a failure, again
abbrev pub or_else : Out → (Dev → Out) → Out
or_else o f = cond o.ok o (f o.dev)

-- a held page is flushed, at the second try if the first fails, and is held no more; a failure keeps it: `flush_page`
unfoldable pub flushes : Lent → Dev → Out
flushes l d =
    cond d.store.held
    (and_then (or_else (attempt l d) (attempt l)) (λ w. out true (dev (freed w.store) w.chip w.buf)))
    (out true d)

-- a page buffer of 0xFF for the page at a
unfoldable pub begins : ℕ → Dev → Dev
begins a d = dev (holding a d.store) d.chip (blanks d.store.shape.page ++ drop d.store.shape.page d.buf)

-- the page of address a is held: as it is, or after a flush, as 0xFF
unfoldable pub loads : Lent → ℕ → ℕ → Dev → Out
loads l p a d = cond (holds d.store (base p a)) (out true d) (and_then (flushes l d) (λ f. out true (begins (base p a) f)))

-- a page that is full stays held
unfoldable pub stays : ℕ → Dev → Out
stays a d = out true d

-- ---- what `NandUpgStorage` does

-- `flush`: a flush that succeeds forgets what was erased
unfoldable pub flushed : Lent → Dev → Out
flushed l d = and_then (flushes l d) (λ f. out true (remember None f))

-- bytes from an address on: how many were taken, where they fit below the capacity as a whole
unfoldable pub written : Lent → ℕ → List ℕ → Dev → Told
written l off xs d =
    let p = d.store.shape.page in
    let o = writes p (loads l p) stays xs (run true off d) in
    cond (leb (off + length xs) d.store.shape.capacity) (told 0 (o.at - off) o.dev) (told 0 0 d)

-- n blocks from block k on, up to the first failure
unfoldable pub erase_n : Lent → ℕ → ℕ → Dev → Out
erase_n l zero k d = out true d
erase_n l (suc n) k d = and_then (erase_checked l k d) (erase_n l n (k + 1))

-- where the end is within the capacity, every block that the range touches from the start's block on
unfoldable pub erase_range : Lent → ℕ → ℕ → Dev → Out
erase_range l start size d =
    let end = sat_add start size in
    let b = block_size d.store in
    cond (leb end d.store.shape.capacity) (erase_n l (pages_of b (end - base b start)) (start / b) d) (out false d)

-- a flush; what was erased is forgotten; then the range
unfoldable pub erased : Lent → ℕ → ℕ → Dev → Out
erased l start size d = and_then (flushes l d) (λ f. erase_range l start size (remember None f))

-- a flush, which remembers what was erased; then the chip's bytes from an address on. A failure reads none
unfoldable pub read_out : Lent → ℕ → List ℕ → Dev → Seen
read_out l off room d =
    let f = flushes l d in
    let n = min (length room) (f.dev.store.shape.capacity - off) in
    let g = fetched l.faults off f.dev.store f.dev.chip (take n room) in
    let e = dev g.store f.dev.chip f.dev.buf in
    cond f.ok
    (cond (eqb n 0) (seen (told 0 0 f.dev) room) (seen (told 0 (cond g.ok n 0) e) (g.room ++ drop n room)))
    (seen (told 0 0 f.dev) room)
