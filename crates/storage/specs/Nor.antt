-- NOR: the modelled chip's two calls that change it, and the buffering of `NorUpgStorage` over them. Sectors are 4,096 bytes; a
-- sector is read whole, changed in the buffer, and on leaving or filling it erased and written. A failed flush keeps the buffer.
use Rattle.std.specs.Prelude.{Bool, true, false, cond, List, ◌++◌, ℕ, zero, suc, ◌+◌, ◌-◌, ◌%◌, ◌/◌, min, leb, eqb, length, take, drop, replicate}
use Rattle.storage.specs.declared.types.Store.{Store}
use Rattle.storage.specs.World.{Dev, dev, Out, out, and_then, Told, told, Seen, seen}
use Rattle.storage.specs.Chip.{programs, fetched}
use Rattle.storage.specs.Fold.{run, base, writes}

-- ---- the chip

-- an erased sector. It stays shut: as 4,096 numbers it would be slow to compute with
unfoldable pub blank : List ℕ
blank = replicate 4096 255

-- the sector at a is set to 0xFF
unfoldable pub erase_sector : List ℕ → ℕ → Dev → Out
erase_sector F a d = programs F a blank d

-- the given bytes are stored at a
unfoldable pub write_bytes : List ℕ → ℕ → List ℕ → Dev → Out
write_bytes F a xs d = programs F a xs d

-- ---- the held sector

-- the record with no sector held; with the sector at a held
abbrev pub freed : Store → Store
freed s = record { shape = s.shape; held = false; at = s.at; erased = s.erased; calls = s.calls }

abbrev pub holding : ℕ → Store → Store
holding a s = record { shape = s.shape; held = true; at = a; erased = s.erased; calls = s.calls }

-- is the sector (or page) at a held
unfoldable pub holds : Store → ℕ → Bool
holds s a = cond s.held (eqb s.at a) false

-- a held sector is erased and written, and is held no more; a failure keeps it
unfoldable pub flushes : List ℕ → Dev → Out
flushes F d =
    cond d.store.held
    (and_then (erase_sector F d.store.at d)
    (λ e. and_then (write_bytes F d.store.at (take 4096 d.buf) e)
    (λ w. out true (dev (freed w.store) w.chip w.buf))))
    (out true d)

-- the sector at a is read into the buffer's front
unfoldable pub reads : List ℕ → ℕ → Dev → Out
reads F a d =
    let g = fetched F a d.store d.chip (take 4096 d.buf) in
    out g.ok (dev g.store d.chip (g.room ++ drop 4096 d.buf))

-- the sector of address a is held: as it is, or after a flush and a read
unfoldable pub loads : List ℕ → ℕ → Dev → Out
loads F a d =
    cond (holds d.store (base 4096 a))
    (out true d)
    (and_then (flushes F d)
    (λ f. and_then (reads F (base 4096 a) f)
    (λ r. out true (dev (holding (base 4096 a) r.store) r.chip r.buf))))

-- a sector is flushed as it fills, which is where the next address is a boundary
unfoldable pub closes : List ℕ → ℕ → Dev → Out
closes F a d = cond (eqb (a % 4096) 0) (flushes F d) (out true d)

-- ---- what `NorUpgStorage` does

-- bytes from an address on: how many were taken, where they fit below the capacity as a whole
unfoldable pub written : List ℕ → ℕ → List ℕ → Dev → Told
written F off xs d =
    let o = writes 4096 (loads F) (closes F) xs (run true off d) in
    cond (leb (off + length xs) d.store.shape.capacity) (told 0 (o.at - off) o.dev) (told 0 0 d)

-- k sectors from a on, up to the first failure
unfoldable pub erase_n : List ℕ → ℕ → ℕ → Dev → Out
erase_n F zero a d = out true d
erase_n F (suc k) a d = and_then (erase_sector F a d) (erase_n F k (a + 4096))

-- how many pages of p bytes n bytes from a page's start touch
abbrev pub pages_of : ℕ → ℕ → ℕ
pages_of p n = n / p + min 1 (n % p)

abbrev pub sat_add : ℕ → ℕ → ℕ
sat_add a b = min (a + b) 18446744073709551615

-- a flush; then, where the end is within the capacity, every sector that the range touches from the start's sector on
unfoldable pub erased : List ℕ → ℕ → ℕ → Dev → Out
erased F start size d =
    let end = sat_add start size in
    and_then (flushes F d)
    (λ f. cond (leb end f.store.shape.capacity) (erase_n F (pages_of 4096 (end - base 4096 start)) (base 4096 start) f) (out false f))

-- a flush; then the chip's bytes from an address on, as many as the room takes below the capacity. A failure reads none
unfoldable pub read_out : List ℕ → ℕ → List ℕ → Dev → Seen
read_out F off room d =
    let f = flushes F d in
    let n = min (length room) (f.dev.store.shape.capacity - off) in
    let g = fetched F off f.dev.store f.dev.chip (take n room) in
    let e = dev g.store f.dev.chip f.dev.buf in
    cond f.ok
    (cond (eqb n 0) (seen (told 0 0 f.dev) room) (seen (told 0 (cond g.ok n 0) e) (g.room ++ drop n room)))
    (seen (told 0 0 f.dev) room)
