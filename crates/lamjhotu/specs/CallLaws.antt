-- What the engine's bounds do not admit changes no byte; a state of zeros, which no opening wrote, is such.
use Rattle.std.specs.Prelude.{◌≡◌, Bool, true, false, ◌&&◌, cond, List, ℕ, ◌-◌, ◌^◌, length, replicate}
use Rattle.std.proofs.Math.Path.{refl}
use Rattle.wire.specs.Bytes.{le, word_at}
use Rattle.storage.specs.Open.{one_of, page_ok, geometry_ok, in_bounds}
use Rattle.storage.specs.Store.{good}
use Rattle.engine.specs.World.{Given, World, world, dev_of}
use Rattle.engine.specs.Api.{engine_ok, fits, rooms_ok, writes, reads}
use Rattle.lamjhotu.specs.State.{shape_at, store_at, unpack_of}
use Rattle.lamjhotu.specs.Calls.{holds, wrote, writes_in, took, reads_in}

same : {A : Type 0} (b : Bool) (y : A) → cond b y y ≡ y
same true y = refl
same false y = refl

none : (b : Bool) → (b && false) ≡ false
none true = refl
none false = refl

module _ (g : Given) (s q p c b x : List ℕ) (h : fits g (world (unpack_of s) q p c b x) ≡ false) where
  -- a write of a state whose record, rooms or lists are out of bounds answers 9, long enough or not. Any other of a state that is
  -- long enough answers 0 or 1 (`write_told`, crates/engine_laws/specs/Bounds.antt)
  pub write_refused : (d : List ℕ) → writes_in g s q p c b x d ≡ wrote 9 s q p c b x
  unfolding writes_in writes
  write_refused d = rw h (same (holds s) (wrote 9 s q p c b x))

  pub read_refused : (room : List ℕ) → reads_in g s q p c b x room ≡ took (2 ^ 32 - 1) s room
  unfolding reads_in reads
  read_refused room = rw h (same (holds s) (took (2 ^ 32 - 1) s room))

module _ (g : Given) (q p c b x : List ℕ) where
  abbrev zeros : List ℕ
  zeros = replicate 652 0

  abbrev zeroed : World
  zeroed = world (unpack_of zeros) q p c b x

  zeros_good : good g.lent (dev_of zeroed) ≡ false
  unfolding good in_bounds geometry_ok page_ok one_of unpack_of store_at shape_at word_at le
  zeros_good = refl

  zeros_fits : fits g zeroed ≡ false
  unfolding fits
  zeros_fits = rw (zeros_good, none (engine_ok (unpack_of zeros)), none (rooms_ok (length q) (length p)))

  pub zeros_write : (d : List ℕ) → writes_in g zeros q p c b x d ≡ wrote 9 zeros q p c b x
  zeros_write d = write_refused g zeros q p c b x zeros_fits d

  pub zeros_read : (room : List ℕ) → reads_in g zeros q p c b x room ≡ took (2 ^ 32 - 1) zeros room
  zeros_read room = read_refused g zeros q p c b x zeros_fits room
