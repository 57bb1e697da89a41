-- Laws of the line of a payload and of the part of scratch that an address and a length name: each answer that names a part names one
-- that is there.
use Rattle.std.proofs.Common.{◌≡◌, ℕ, ◌+◌, ◌-◌, ◌<◌, ◌≤◌, min, Bool, true, false, cond, ◌&&◌, ltb, leb, List, length, take, drop, Option, None, Some, refl, ap, arith, ltb-true, leb-true}
use Rattle.text.specs.Utf8.{is_utf8}
use Rattle.wire.specs.Bytes.{word_at}
use Rattle.engine.specs.declared.shell.Window.{Window}
use Rattle.engine.specs.Shell.{text_of, window_of}

-- the line lies within the payload, and is UTF-8
pub text_fits : (s : List ℕ) (n : ℕ) → text_of s ≡ Some n → (4 + n ≤ length s) × (is_utf8 (take n (drop 4 s)) ≡ true)
text_fits s n =
    go (leb 4 (length s)) (leb (4 + word_at 4 s 0) (length s)) (is_utf8 (take (word_at 4 s 0) (drop 4 s))) refl refl
  where
    go : (a b t : Bool) → leb (4 + word_at 4 s 0) (length s) ≡ b → is_utf8 (take (word_at 4 s 0) (drop 4 s)) ≡ t
        → cond (a && (b && t)) (Some (word_at 4 s 0)) None ≡ Some n → (4 + n ≤ length s) × (is_utf8 (take n (drop 4 s)) ≡ true)
    go true true true p q h = let w : word_at 4 s 0 ≡ n = cc in (omega (arith, leb-true), rw (← w) q)
    go true true false p q h = let z : ◌≡◌ {A = ℕ} 0 1 = cc in absurd (omega arith)
    go true false t p q h = let z : ◌≡◌ {A = ℕ} 0 1 = cc in absurd (omega arith)
    go false b t p q h = let z : ◌≡◌ {A = ℕ} 0 1 = cc in absurd (omega arith)

-- the part lies within scratch
pub window_fits : (base size addr len p n : ℕ) → window_of base size addr len ≡ Some (record { place = p; len = n }) → (p < size) × (p + n ≤ size)
window_fits base size addr len p n = go (leb base addr) (ltb addr (base + size)) refl refl
  where
    go : (a b : Bool) → leb base addr ≡ a → ltb addr (base + size) ≡ b
        → ◌≡◌ {A = Option Window} (cond (a && b) (Some (record { place = addr - base; len = min len (base + size - addr) })) None) (Some (record { place = p; len = n })) → (p < size) × (p + n ≤ size)
    go true true q r h =
        let w : ◌≡◌ {A = Window} (record { place = addr - base; len = min len (base + size - addr) }) (record { place = p; len = n }) = cc in
        let x : addr - base ≡ p = ap (λ (v : Window). v.place) w in
        let y : min len (base + size - addr) ≡ n = ap (λ (v : Window). v.len) w in
        let u : base ≤ addr = leb-true base addr q in
        let v : addr < base + size = ltb-true addr (base + size) r in
        (omega arith, omega arith)
    go true false q r h = let z : ◌≡◌ {A = ℕ} 0 1 = cc in absurd (omega arith)
    go false b q r h = let z : ◌≡◌ {A = ℕ} 0 1 = cc in absurd (omega arith)
