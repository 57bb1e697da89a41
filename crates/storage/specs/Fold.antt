-- A storage write is a left fold over its bytes, for every kind of device: the page that a byte falls in is brought into the
-- buffer, the byte is set there, and the page is closed if the byte was its last. The kind gives the page's size, how a page is
-- brought in (`load`) and what is done at the address behind a byte (`seal`). After a failure nothing happens.
use Rattle.std.specs.Prelude.{◌≡◌, Result, Ok, Err, Bool, true, false, cond, List, [], ◌∷◌, ℕ, ◌+◌, ◌-◌, ◌%◌, ◌≤◌, ◌<◌, length, set}
use Rattle.storage.specs.declared.types.Stopped.{Stopped}
use Rattle.storage.specs.World.{Dev, dev, Out, out}

-- a write under way: whether nothing failed yet, the address of the next byte, and the state
pub record Run : Type 0 where
  pub ok : Bool
  pub at : ℕ
  pub dev : Dev

abbrev pub run : Bool → ℕ → Dev → Run
run ok a d = record { ok = ok; at = a; dev = d }

-- where the page of an address starts
abbrev pub base : ℕ → ℕ → ℕ
base page a = a - a % page

module _ (page : ℕ) (load seal : ℕ → Dev → Out) where
  -- the page before the address is closed if it is full
  unfoldable pub seals : ℕ → Dev → Run
  seals a d = let f = seal a d in run f.ok a f.dev

  -- one byte
  unfoldable pub step : Run → ℕ → Run
  step o x =
      let l = load o.at o.dev in
      let a = o.at in
      let b = set l.dev.buf (a % page) x in
      cond o.ok (cond l.ok (seals (a + 1) (dev l.dev.store l.dev.chip b)) (run false a l.dev)) o

  -- the bytes in order
  unfoldable pub writes : List ℕ → Run → Run
  writes [] o = o
  writes (x ∷ xs) o = writes xs (step o x)

-- how far a write came, whose end is given: where a failure stopped it, or its end
abbrev pub reached : {A : Type 0} → ℕ → Result A Stopped → ℕ
reached end (Ok x) = end
reached end (Err e) = e.at

-- what a kind of device keeps to, for a write in pages of p: the state that a write needs stays such whatever bytes are laid in the
-- buffer; a page that has been brought in is there for all its bytes; and only behind a page's last byte is anything done
pub record Laws (p : ℕ) (ready : Dev → Type 0) (load seal : ℕ → Dev → Out) : Type 0 where
  pub some : 0 < p
  pub room : (d : Dev) → ready d → p ≤ length d.buf
  pub loaded : (a : ℕ) (d : Dev) (b : List ℕ) → ready d → length b ≡ length d.buf → ready (dev (load a d).dev.store (load a d).dev.chip b)
  pub sealed : (a : ℕ) (d : Dev) → ready d → ready (dev (seal a d).dev.store (seal a d).dev.chip d.buf)
  pub stays : (a : ℕ) (d : Dev) → (load a d).ok ≡ true → (e : ℕ) (chip buf : List ℕ) → base p e ≡ base p a
      → load e (dev (load a d).dev.store chip buf) ≡ out true (dev (load a d).dev.store chip buf)
  pub opens : (a : ℕ) (d : Dev) → (a % p ≡ 0 → ⊥) → seal a d ≡ out true d
