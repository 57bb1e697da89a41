-- A record at the front of longer bytes. It says there what it says alone (`unpack_front`, `way_front`), and what is packed over it is
-- packed over all of them (`kept_front`).
use mathlib.Core.Path.{◌≡◌, sym, ap, ◌∙◌}
use mathlib.Core.List.{List, ◌++◌}
use Prim.Native.Nat.{ℕ, ◌+◌, ◌≤◌, ◌<◌}
use native.Mathlib.Omega.{arith}
use lib.ListN.{length, get_or, take, drop}
use lib.ListN.{replicate}
use mathlib.Core.Bool.{Bool}
use mathlib.Core.List.{append_assoc}
use Rattle.std.specs.Array.{IsFirstChunk}
use Rattle.std.proofs.lemmas.List.{length-replicate, length-take-le, length-drop, length-append, take-append-drop, take-append-le, drop-append-le, drop_at, get_or_append_left}
use Rattle.wire.specs.Bytes.{le, word_at, laid}
use Rattle.wire.proofs.Copies.{laid_fits}
use Rattle.engine.specs.declared.types.Engine.{Engine}
use Rattle.engine.specs.Api.{cleared}
use Rattle.lamjhotu.specs.declared.quick.Way.{Way}
use Rattle.lamjhotu.specs.StateLaws.{length_pack}
use Rattle.lamjhotu.specs.State.{words_over, marks_over, pack_over, meta_at, shape_at, store_at, update_at, said_at, unpack_of}
use Rattle.lamjhotu.specs.Calls.{kept, fits_but, piece_in, idle_of, way_of}

module _ (r t : List ℕ) (h : length r ≡ 652) where
  part : (n at : ℕ) → at + n ≤ 652 → take n (drop at (r ++ t)) ≡ take n (drop at r)
  part n at i =
      ap (take n) (drop-append-le at r t (omega (arith, h)))
      ∙ take-append-le n (drop at r) t (rw length-drop (omega (arith, h)))

  pub word_front : (n at : ℕ) → at + n ≤ 652 → word_at n (r ++ t) at ≡ word_at n r at
  unfolding word_at
  word_front n at i = ap le (part n at i)

  byte : (k : ℕ) → k < 652 → get_or (r ++ t) k 0 ≡ get_or r k 0
  byte k i = get_or_append_left r t 0 k (omega (arith, h))

  shape_front : shape_at (r ++ t) ≡ shape_at r
  unfolding shape_at
  shape_front =
      rw (byte 138 (omega arith), word_front 8 64 (omega arith), word_front 8 72 (omega arith), word_front 8 80 (omega arith), word_front 8 56 (omega arith), byte 132 (omega arith), word_front 4 128 (omega arith))

  store_front : store_at (r ++ t) ≡ store_at r
  unfolding store_at
  store_front =
      rw (shape_front, byte 137 (omega arith), word_front 8 88 (omega arith), byte 139 (omega arith), word_front 8 96 (omega arith), word_front 8 104 (omega arith))

  pub update_front : update_at (r ++ t) ≡ update_at r
  unfolding update_at meta_at
  update_front =
      rw (
        part 512 140 (omega arith),
        byte 133 (omega arith),
        byte 134 (omega arith),
        word_front 8 32 (omega arith),
        word_front 8 40 (omega arith),
        word_front 4 112 (omega arith),
        word_front 4 116 (omega arith),
        word_front 4 120 (omega arith),
        word_front 8 48 (omega arith),
      )

  pub unpack_front : unpack_of (r ++ t) ≡ unpack_of r
  unfolding unpack_of
  unpack_front =
      rw (
        word_front 8 0 (omega arith),
        word_front 8 8 (omega arith),
        word_front 8 16 (omega arith),
        word_front 8 24 (omega arith),
        update_front,
        byte 135 (omega arith),
        byte 136 (omega arith),
        word_front 4 124 (omega arith),
        store_front,
      )

  pub way_front : (d : List ℕ) → way_of (r ++ t) d ≡ way_of r d
  unfolding way_of piece_in idle_of
  way_front d = rw (word_front 8 0 (omega arith), word_front 8 8 (omega arith), word_front 8 48 (omega arith))

  pub said_front : said_at (r ++ t) ≡ said_at r
  said_front = rw (word_front 8 16 (omega arith), word_front 8 24 (omega arith))

  pub long_front : 652 ≤ length (r ++ t)
  long_front = rw length-append (omega (arith, h))

  pack_front : (e : Engine) → pack_over (r ++ t) e ≡ pack_over r e
  unfolding pack_over words_over marks_over
  pack_front e =
      rw (
        word_front 8 96 (omega arith),
        byte 133 (omega arith),
        byte 134 (omega arith),
        byte 135 (omega arith),
        byte 136 (omega arith),
        byte 137 (omega arith),
        byte 138 (omega arith),
        byte 139 (omega arith),
      )

  pub kept_front : (e : Engine) {p : List ℕ} → length p ≡ 652 → p ≡ pack_over r e → p ++ t ≡ kept (r ++ t) e
  kept_front e {p} i j =
      sym (laid_fits (r ++ t) 0 p (rw length-append (omega (arith, h, i))) ∙ ap (λ (l : List ℕ). p ++ l) (drop_at r t (length p) (h ∙ sym i)))
      ∙ ap (laid (r ++ t) 0) (j ∙ sym (pack_front e))

  -- the same of a change to the record that the bytes hold
  pub kept_by : (f : Engine → Engine) {p : List ℕ} → length p ≡ 652 → p ≡ pack_over r (f (unpack_of r)) → p ++ t ≡ kept (r ++ t) (f (unpack_of (r ++ t)))
  kept_by f i j = kept_front (f (unpack_of r)) i j ∙ ap (λ (e : Engine). kept (r ++ t) (f e)) (sym unpack_front)

  -- zeros that are laid over the front, and a record packed over those
  pub zeros_front : laid r 0 (replicate 140 0) ++ t ≡ laid (r ++ t) 0 (replicate 140 0)
  zeros_front =
      let z : List ℕ = replicate 140 0 in
      ap (λ (l : List ℕ). l ++ t) (laid_fits r 0 z (omega (arith, h)))
      ∙ append_assoc z (drop 140 r) t
      ∙ ap (λ (l : List ℕ). z ++ l) (sym (drop-append-le 140 r t (omega (arith, h))))
      ∙ sym (laid_fits (r ++ t) 0 z (omega (arith, long_front)))

  pub zeros_long : length (laid r 0 (replicate 140 0)) ≡ 652
  zeros_long = ap length (laid_fits r 0 (replicate 140 0) (omega (arith, h))) ∙ rw length-append (rw length-drop (omega (arith, h)))

-- ---- the first chunk of a state, and what lies behind it

module _ (s : List ℕ) {r : List ℕ} (k : IsFirstChunk s r 652) where
  pub whole : r ++ drop 652 s ≡ s
  whole = ap (λ (l : List ℕ). l ++ drop 652 s) k.same ∙ take-append-drop 652 s

  long : length r ≡ 652
  long = ap length k.same ∙ length-take-le 652 s k.enough

  pub unpack_chunk : unpack_of r ≡ unpack_of s
  unpack_chunk = sym (unpack_front r (drop 652 s) long) ∙ ap unpack_of whole

  pub fits_chunk : (request reply chip buffer scratch marks : ℕ) {b : Bool} → b ≡ fits_but (unpack_of r) request reply chip buffer scratch marks
      → b ≡ fits_but (unpack_of s) request reply chip buffer scratch marks
  fits_chunk request reply chip buffer scratch marks i =
      i ∙ ap (λ (e : Engine). fits_but e request reply chip buffer scratch marks) unpack_chunk

  pub way_chunk : (d : List ℕ) {w : Way} → w ≡ way_of r d → w ≡ way_of s d
  way_chunk d i = i ∙ sym (way_front r (drop 652 s) long d) ∙ ap (λ (z : List ℕ). way_of z d) whole

  pub kept_chunk : (e : Engine) {p : List ℕ} → length p ≡ 652 → p ≡ pack_over r e → p ++ drop 652 s ≡ kept s e
  kept_chunk e i j = kept_front r (drop 652 s) long e i j ∙ ap (λ (z : List ℕ). kept z e) whole

  pub cleared_chunk : (e : Engine) {f : Engine} {p : List ℕ} → f ≡ cleared e → p ≡ pack_over r f → p ++ drop 652 s ≡ kept s f
  cleared_chunk e {f} i j = kept_chunk f (ap length j ∙ length_pack r f (ap (λ (e : Engine). length e.up.meta) i ∙ length-replicate {A = ℕ} 512 0)) j
