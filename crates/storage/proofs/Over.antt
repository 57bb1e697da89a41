-- Laws of `over`, which puts bytes over a part of a list.
use mathlib.Core.Path.{◌≡◌, ap, ◌∙◌}
use mathlib.Core.List.{List, [], ◌++◌, append_assoc}
use Prim.Native.Nat.{ℕ, ◌+◌, ◌-◌, ◌≤◌, ◌<◌}
use native.Mathlib.Omega.{arith}
use lib.ListN.{length, take, drop, set, take-append-drop, length-append, length-take, length-drop, length-set}
use lib.Seq.{length-take-le, take_at, drop_at, drop-drop, take-set-lt, set-append_left}
use Rattle.std.proofs.lemmas.List.{set-append_right}
use Rattle.storage.specs.Chip.{over}

pub length_over : (a : ℕ) (xs l : List ℕ) → a + length xs ≤ length l → length (over a xs l) ≡ length l
unfolding over
length_over a xs l h = simp (length-append, length-take, length-drop) (omega arith)

-- nothing lies over nothing
pub over_nil : (a : ℕ) (l : List ℕ) → over a [] l ≡ l
unfolding over
over_nil a l = take-append-drop a l

-- what lies over is what counts
pub over_over : (a : ℕ) (xs ys l : List ℕ) → length xs ≡ length ys → a + length ys ≤ length l → over a ys (over a xs l) ≡ over a ys l
unfolding over
over_over a xs ys l q h =
    let p : length (take a l) ≡ a = length-take-le a l (omega arith) in
    rw (
      take_at (take a l) (xs ++ drop (length xs) (drop a l)) a p,
      drop_at (take a l) (xs ++ drop (length xs) (drop a l)) a p,
      drop_at xs (drop (length xs) (drop a l)) (length ys) q,
      q,
    )

-- what lies side by side lies there as one
pub over_append : (a : ℕ) (xs ys l : List ℕ) → a + length xs ≤ length l → over (a + length xs) ys (over a xs l) ≡ over a (xs ++ ys) l
unfolding over
over_append a xs ys l h =
    let p : length (take a l) ≡ a = length-take-le a l (omega arith) in
    let r : List ℕ = drop (length xs) (drop a l) in
    let n : length (take a l ++ xs) ≡ a + length xs = length-append (take a l) xs ∙ ap (λ (k : ℕ). k + length xs) p in
    rw (
      ← append_assoc (take a l) xs r,
      take_at (take a l ++ xs) r (a + length xs) n,
      drop_at (take a l ++ xs) r (a + length xs) n,
      length-append xs ys,
      ← drop-drop (length ys) (length xs) (drop a l),
    ) (simp append_assoc)

-- what lies there already changes nothing
pub over_same : (a n : ℕ) (l : List ℕ) → a + n ≤ length l → over a (take n (drop a l)) l ≡ l
unfolding over
over_same a n l h =
    let p : length (take n (drop a l)) ≡ n = length-take-le n (drop a l) (simp length-drop (omega arith)) in
    rw (p, take-append-drop n (drop a l), take-append-drop a l)

-- a byte set in what lies over
pub over_set : (a n i x : ℕ) (b l : List ℕ) → i < n → n ≤ length b → a ≤ length l → over a (take n (set b i x)) l ≡ set (over a (take n b) l) (a + i) x
unfolding over
over_set a n i x b l h k m =
    let p : length (take a l) ≡ a = length-take-le a l m in
    let w : List ℕ = drop (length (take n b)) (drop a l) in
    let q : i < length (take n b) = simp length-take (omega arith) in
    let r : a + i - a ≡ i = omega arith in
    rw (take-set-lt n b i x h, length-set (take n b) i x, ← set-append_left (take n b) w i x q, set-append_right (take a l) (take n b ++ w) a (a + i) x p (omega arith), r)
