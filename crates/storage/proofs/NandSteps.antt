-- How the NAND's flush goes, case by case, as the code goes.
use mathlib.Core.Path.{◌≡◌, ap}
use mathlib.Core.Bool.{true, false}
use mathlib.Core.List.{List}
use Prim.Native.Nat.{ℕ, ◌+◌, ◌*◌, ◌/◌, ◌^◌, ◌≤◌, ◌<◌}
use native.Mathlib.Nat.{mul-le-mul, le_trans}
use native.Mathlib.Omega.{arith}
use borrow.Author.Tests.{lt-ltb}
use lib.ListN.{length, take}
use Rattle.storage.specs.declared.types.Shape.{Shape}
use Rattle.storage.specs.declared.types.Store.{Store}
use Rattle.storage.specs.World.{Lent, Dev, dev, Out, out}
use Rattle.storage.specs.Nor.{freed}
use Rattle.storage.specs.Nand.{Shaped, Sound, block_size, erase_block, program_page, asks_good, noting, is_erased, erase_checked, ready, burns, attempt, or_else, flushes}
use Rattle.std.specs.Prelude.{Some}

-- ---- the block's place fits

-- a block is at most 2^20 bytes
pub block_most : {m : List ℕ} {h : Shape} → Shaped m h → h.page * h.pages ≤ 1048576
block_most s = mul-le-mul s.page_most s.pages_most

pub block_fits : {m : List ℕ} {h : Shape} → Shaped m h → (k : ℕ) → k < h.blocks → k * (h.page * h.pages) + h.page * h.pages ≤ 2 ^ 32
block_fits {h = h} s k i =
    let a : k ≤ 4095 = omega (arith, s.blocks_most) in
    let b = block_most s in
    let c : k * (h.page * h.pages) ≤ 4095 * 1048576 = mul-le-mul a b in
    omega arith

-- and at least one
pub block_some : {m : List ℕ} {h : Shape} → Shaped m h → 0 < h.page * h.pages
block_some s = mul-le-mul s.page_some s.pages_some

-- a page fits the buffer
pub page_fits : {m b : List ℕ} {h : Shape} → Sound m h b → h.page ≤ length b
page_fits s = le_trans s.shaped.page_most s.room

-- ---- a checked erase

module _ (l : Lent) (k : ℕ) (d : Dev) where
  pub asks_shape : {a : Out} → a ≡ asks_good l k d → a.dev.store.shape ≡ d.store.shape
  unfolding asks_good
  asks_shape p = ap (λ (o : Out). o.dev.store.shape) p

  module _ {a : Out} (h : k < d.store.shape.blocks) (p : a ≡ asks_good l k d) where
    pub checked_done : {e : Out} → a.ok ≡ true → e ≡ erase_block l.faults k a.dev → e ≡ erase_checked l k d
    unfolding erase_checked
    checked_done t q = rw (← p, lt-ltb k d.store.shape.blocks h, t, ← q)

  -- ---- a block made ready

  pub ready_known : is_erased d.store.erased k ≡ true → out true d ≡ ready l k d
  unfolding ready
  ready_known h = rw h

  module _ {e : Out} (h : is_erased d.store.erased k ≡ false) (p : e ≡ erase_checked l k d) where
    pub ready_now : {s : Store} → e.ok ≡ true → s ≡ noting (Some k) e.dev.store → out true (dev s e.dev.chip e.dev.buf) ≡ ready l k d
    unfolding ready
    ready_now t q = rw (← p, h, t, q)

-- ---- a page burnt, a try

module _ (l : Lent) (d : Dev) where
  module _ {w : Out} (p : w ≡ program_page l.faults d.store.at (take d.store.shape.page d.buf) d) where
    pub burns_done : w.ok ≡ true → w ≡ burns l d
    unfolding burns
    burns_done t = rw (← p, t)

  module _ (k : ℕ) {r : Out} (q : k ≡ d.store.at / block_size d.store) (p : r ≡ ready l k d) where
    pub attempt_burns : {w : Out} → r.ok ≡ true → w ≡ burns l r.dev → w ≡ attempt l d
    unfolding attempt
    attempt_burns t u = rw (← q, ← p, t, ← u)

  module _ {a : Out} (p : a ≡ attempt l d) where
    pub once : a.ok ≡ true → a ≡ or_else (attempt l d) (attempt l)
    once t = rw (← p, t)

  -- ---- a flush

  module _ {w : Out} (h : d.store.held ≡ true) (p : w ≡ or_else (attempt l d) (attempt l)) where
    pub flush_done : w.ok ≡ true → out true (dev (freed w.dev.store) w.dev.chip w.dev.buf) ≡ flushes l d
    unfolding flushes
    flush_done t = rw (← p, h, t)
