-- What a header says depends on its sixteen bytes alone. The definitions read a header at the front of a longer run, the request
-- room: the magic at 0, command and status at 6 and 7, the length at 8 and the checksum at 12, all within the first sixteen bytes, so
-- that what lies behind them is never looked at. A header that is gathered in pieces is laid into the room piece by piece; what
-- is judged then are the bytes that were gathered and the piece that completes them, whatever else is in the room.
use Rattle.std.specs.Prelude.{◌≡◌, List, ◌++◌, ℕ, ◌+◌, ◌≤◌, ◌<◌, leb, length, take, drop}
use Rattle.std.proofs.Common.{sym, ◌∙◌, arith, le-leb, length-append, length-drop, length-take-le}
use Rattle.std.proofs.Math.Path.{ap}
use Rattle.std.proofs.Math.ListN.{get_or-append}
use Rattle.std.proofs.lemmas.List.Edits.{sets, sets-eq}
use Rattle.std.proofs.lemmas.List.{take-append-le, drop-append-le}
use Rattle.wire.specs.Bytes.{le, word_at}
use Rattle.wire.specs.Header.{accepted, parsed}
use Rattle.engine.specs.Frame.{next_by, next_of}

-- a word that lies within the front
pub word_front : (n : ℕ) (h s : List ℕ) (at : ℕ) → at + n ≤ length h → word_at n (h ++ s) at ≡ word_at n h at
unfolding word_at
word_front n h s at i =
    ap le (ap (take n) (drop-append-le at h s (omega arith)) ∙ take-append-le n (drop at h) s (rw length-drop (omega arith)))

module _ (h s : List ℕ) (e : length h ≡ 16) where
  long_front : leb 16 (length (h ++ s)) ≡ leb 16 (length h)
  long_front = le-leb 16 (length (h ++ s)) (rw length-append (omega arith)) ∙ sym (le-leb 16 (length h) (omega arith))

  -- whether sixteen bytes are the header of a request
  pub accepted_front : accepted (h ++ s) ≡ accepted h
  unfolding accepted
  accepted_front =
      rw (
        long_front,
        word_front 4 h s 0 (omega arith),
        word_front 4 h s 8 (omega arith),
        word_front 4 h s 12 (omega arith),
        get_or-append h s 0 6 (omega arith),
        get_or-append h s 0 7 (omega arith),
      )

  -- what they say
  pub parsed_front : parsed (h ++ s) ≡ parsed h
  unfolding parsed
  parsed_front =
      rw (accepted_front, word_front 4 h s 8 (omega arith), get_or-append h s 0 6 (omega arith), get_or-append h s 0 7 (omega arith))

  -- and what they ask for
  pub next_front : next_of (h ++ s) ≡ next_of h
  next_front = ap next_by parsed_front

-- demand 3, 'the next write's bytes start a frame': with k bytes gathered, and the rest of the header laid behind them, what is judged
-- are those sixteen bytes, whatever bytes are in the request room
pub gathered_header : (room : List ℕ) (k : ℕ) (d : List ℕ) → k < 16 → k + length d ≡ 16 → 16 ≤ length room → next_of (sets room k d) ≡ next_of (take k room ++ d)
gathered_header room k d i e r =
    let t = length-take-le k room (omega arith) in
    let n : length (take k room ++ d) ≡ 16 = length-append (take k room) d ∙ ap (λ (m : ℕ). m + length d) t ∙ e in
    ap next_of (sets-eq d room k (omega arith)) ∙ next_front (take k room ++ d) (drop (k + length d) room) n

-- and so with none gathered
pub front_laid : (room h : List ℕ) → length h ≡ 16 → 16 ≤ length room → next_of (sets room 0 h) ≡ next_of h
front_laid room h e r = gathered_header room 0 h (omega arith) (omega arith) r
