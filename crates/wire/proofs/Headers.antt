-- The round trip: a header that is built is parsed back; and what is too short for a CBW.
use Rattle.std.proofs.Common.{None, ◌≡◌, ℕ, ◌+◌, ◌*◌, ◌/◌, ◌%◌, ◌^◌, ◌<◌, ◌≤◌, List, ◌++◌, length, get_or, sym, refl, ap, mod-lt, arith, eq-eqb, le-leb}
use borrow.Author.Tests.{lt-leb}
use Rattle.wire.specs.Bytes.{bytes_of, le, word_at}
use Rattle.wire.specs.Header.{request_magic, checksum_of, header_of, accepted, request_of, parsed}
use Rattle.wire.specs.Packet.{is_cbw, cbw_of}

-- ---- a request's header

module _ (s : List ℕ) (h : 16 ≤ length s) {m : ℕ} (p : m ≡ word_at 4 s 0) where
  module _ (q : m ≡ request_magic) {len sum told : ℕ} (r : len ≡ word_at 4 s 8) (t : told ≡ word_at 4 s 12)
      (u : sum ≡ checksum_of m (get_or s 6 0) (get_or s 7 0) len) where
    pub read : told ≡ sum → request_of (get_or s 6 0) (get_or s 7 0) len ≡ parsed s
    unfolding parsed accepted
    read e =
        rw (le-leb, ← p, eq-eqb m request_magic q, ← t, ← r, ← ap (λ (x : ℕ). checksum_of x (get_or s 6 0) (get_or s 7 0) len) q, ← u, eq-eqb told sum e)

-- ---- a CBW

-- fewer than 31 bytes are none
pub cbw_short : (s : List ℕ) → length s < 31 → None ≡ cbw_of s
unfolding cbw_of is_cbw
cbw_short s h = rw lt-leb

-- ---- the round trip

-- four bytes of a number below 2^32 make it again
again : (x : ℕ) → x < 2 ^ 32 → x % 256 + 256 * (x / 256 % 256 + 256 * (x / 256 / 256 % 256 + 256 * (x / 256 / 256 / 256 % 256 + 256 * 0))) ≡ x
again x h = omega arith

module _ (command status len : ℕ) (rest : List ℕ) (h : len < 2 ^ 32) where
  built : List ℕ
  built = header_of request_magic command status len ++ rest

  built_length : word_at 4 built 8 ≡ len
  unfolding built header_of bytes_of word_at le
  built_length = again len h

  built_sum : word_at 4 built 12 ≡ checksum_of request_magic command status len
  unfolding built header_of bytes_of word_at le
  built_sum = again (checksum_of request_magic command status len) (unfold checksum_of in mod-lt _ (omega arith))

  built_long : 16 ≤ length built
  unfolding built header_of bytes_of
  built_long = omega arith

  -- THE LAW: a request's header that is built is parsed back, whatever stands behind it
  pub built_is_read : parsed (header_of request_magic command status len ++ rest) ≡ request_of command status len
  unfolding built header_of bytes_of word_at le
  built_is_read = sym (read built built_long refl refl (sym built_length) (sym built_sum) refl refl)
