-- A write and a read over any kind of device, by what the kind gives: the page's size, how a page is brought in (`load`), what is done
-- at the address behind a byte (`seal`), and how what is held is written out (`flush`). `written` and `read_out` of Nor.antt and
-- Nand.antt are these at their kind.
use Rattle.std.specs.Prelude.{◌≡◌, true, cond, List, ◌++◌, ℕ, ◌+◌, ◌-◌, min, leb, eqb, length, take, drop}
use Rattle.storage.specs.declared.types.Store.{Store}
use Rattle.storage.specs.World.{Dev, dev, Out, Told, told, Seen, seen}
use Rattle.storage.specs.Chip.{fetched}
use Rattle.storage.specs.Fold.{run, writes, Laws}

-- the laws of a kind at the page's size that a store has, which stays
abbrev pub KeepsTo : (Store → ℕ) → (Dev → Type 0) → (ℕ → ℕ → Dev → Out) → (ℕ → Dev → Out) → Store → Type 0
KeepsTo page ready load seal s = Laws (page s) (λ d. ready d × (page s ≡ page d.store)) (load (page s)) seal

-- bytes from an address on: how many were taken, where they fit below the capacity as a whole
abbrev pub written_by : ℕ → (ℕ → Dev → Out) → (ℕ → Dev → Out) → ℕ → List ℕ → Dev → Told
written_by page load seal off xs d =
    let o = writes page load seal xs (run true off d) in
    cond (leb (off + length xs) d.store.shape.capacity) (told 0 (o.at - off) o.dev) (told 0 0 d)

-- a flush; then the chip's bytes from an address on, as many as the room takes below the capacity. A failure reads none
abbrev pub read_by : (Dev → Out) → List ℕ → ℕ → List ℕ → Dev → Seen
read_by flush F off room d =
    let f = flush d in
    let n = min (length room) (f.dev.store.shape.capacity - off) in
    let g = fetched F off f.dev.store f.dev.chip (take n room) in
    let e = dev g.store f.dev.chip f.dev.buf in
    cond f.ok
    (cond (eqb n 0) (seen (told 0 0 f.dev) room) (seen (told 0 (cond g.ok n 0) e) (g.room ++ drop n room)))
    (seen (told 0 0 f.dev) room)
