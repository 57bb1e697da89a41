-- Laws of the commands that need no storage call.
use Rattle.std.proofs.Common.{◌≡◌, ℕ, ◌+◌, ◌-◌, ◌≤◌, Bool, true, false, cond, leb, List, [], length, take, drop, refl, arith, length-drop, length-take-le, leb-true}
use Rattle.std.proofs.lemmas.Bool.{and_parts}
use Rattle.wire.specs.Bytes.{bytes_of, laid}
use Rattle.engine.specs.declared.types.Engine.{Engine}
use Rattle.engine.specs.declared.command.Short.{Short}
use Rattle.engine.specs.declared.command.Short.TheVariants as short
use Rattle.engine.specs.Command.{hwinfo, media, geometry, short_of, long_of, plain_by, plain, asking, inside}

-- ---- the lengths of what is laid

-- nothing laid leaves all as it was
pub laid_none : (s : List ℕ) (at : ℕ) → laid s at [] ≡ s
unfolding laid
laid_none s at = go (leb (at + 0) (length s))
  where
    go : (b : Bool) → cond b s s ≡ s
    go true = refl
    go false = refl

pub hwinfo_length : (stage : ℕ) → length (hwinfo stage) ≡ 108
unfolding hwinfo bytes_of
hwinfo_length stage = refl

pub media_length : (nand : Bool) (device : ℕ) → length (media nand device) ≡ 68
unfolding media bytes_of
media_length true device = refl
media_length false device = refl

pub geometry_length : (capacity block : ℕ) → length (geometry capacity block) ≡ 24
unfolding geometry bytes_of
geometry_length capacity block = refl

-- ---- what the plain commands look at

-- all of them see four parts of the record
pub plain_sees : (c : ℕ) (e : Engine) (t : List ℕ) → plain c (asking e.base e.up.burn e.up.run e.store) t ≡ plain c e t
unfolding plain long_of
plain_sees c e t = go (short_of c e)
  where
    go : (x : Short) → plain_by c (asking e.base e.up.burn e.up.run e.store) t x ≡ plain_by c e t x
    go short.Empty = refl
    go (short.Word n) = refl
    go short.Other = refl

-- ---- the window in scratch

module _ (base size addr len : ℕ) where
  inside_fits : inside base size addr len ≡ true → (base ≤ addr) × (addr - base + len ≤ size)
  inside_fits t =
      let h = and_parts (leb base addr) _ t in
      let i = leb-true base addr h.0 in
      let j = leb-true (addr + len) (base + size) h.1 in
      (i, omega arith)

-- a window inside scratch has as many bytes as it says
pub window_length : (base addr len : ℕ) (x : List ℕ) → inside base (length x) addr len ≡ true → length (take len (drop (addr - base) x)) ≡ len
window_length base addr len x t =
    let f = inside_fits base (length x) addr len t in
    length-take-le len (drop (addr - base) x) (simp length-drop (omega (arith, f.1)))
