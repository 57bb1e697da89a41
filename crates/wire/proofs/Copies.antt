-- Laws of bytes laid over others.
use Rattle.std.proofs.Common.{◌≡◌, ℕ, ◌+◌, ◌-◌, ◌<◌, ◌≤◌, Bool, cond, List, ◌++◌, length, take, drop, sym, ap, ◌∙◌, ap₂, append_assoc, append-nil, arith, drop_of_length-le, drop-drop, le-leb}
use borrow.Author.Tests.{lt-leb}
use borrow.Rule.Slice.PartMut.{put_mid, Post-is}
use lib.Seq.{sets, sets-eq}
use Rattle.wire.specs.Bytes.{laid}

-- where they do not fit, nothing
pub laid_not : (s : List ℕ) (at : ℕ) (xs : List ℕ) → length s < at + length xs → s ≡ laid s at xs
unfolding laid
laid_not s at xs h = rw lt-leb

-- where they fit, the part `&mut s[at..]` that comes back as them
pub laid_part : (s : List ℕ) (at : ℕ) (xs ys : List ℕ) → at + length xs ≤ length s → ys ≡ xs → put_mid at (at + length xs - at) s ys ≡ laid s at xs
unfolding laid
laid_part s at xs ys h q =
    ap₂ (λ (y d : List ℕ). take at s ++ (y ++ d)) q (Post-is at (at + length xs) s (omega arith))
    ∙ sym (append_assoc (take at s) xs (drop (at + length xs) s))
    ∙ sym (sets-eq xs s at h)
    ∙ ap (λ (t : Bool). cond t (sets s at xs) s) (sym (le-leb (at + length xs) (length s) h))

-- the same as a front, the bytes and what lies behind them
pub laid_fits : (s : List ℕ) (at : ℕ) (xs : List ℕ) → at + length xs ≤ length s → laid s at xs ≡ take at s ++ (xs ++ drop (length xs) (drop at s))
unfolding laid
laid_fits s at xs h =
    rw (le-leb (at + length xs) (length s) h) (sets-eq xs s at h ∙ rw (append_assoc, ← drop-drop (length xs) at s))

-- as many bytes as there is room: all of it
pub laid_whole : (s xs : List ℕ) → length xs ≡ length s → laid s 0 xs ≡ xs
laid_whole s xs e =
    let h : length s ≤ length xs = omega arith in
    laid_fits s 0 xs (omega arith) ∙ ap (λ (l : List ℕ). xs ++ l) (drop_of_length-le s h) ∙ append-nil xs
