-- The header of a frame: sixteen bytes, little-endian (01, 'Frame rules'; protocol.rs `build_header`, `header_checksum`, `parse_header`).
use Rattle.std.specs.Prelude.{Option, None, Some, ℕ, ◌+◌, ◌*◌, ◌%◌, ◌^◌, Bool, cond, ◌&&◌, List, [], ◌∷◌, ◌++◌, length, ◌==◌, nat_le, slice_index}
use Rattle.wire.specs.Bytes.{bytes_of, word_at}
use Rattle.wire.specs.declared.header.Header.{Header}

-- `UPGC` and `UPGR`
abbrev pub request_magic : ℕ
request_magic = 0x43475055

abbrev pub reply_magic : ℕ
reply_magic = 0x52475055

-- magic, the word of status, command and 0x0101, and length, added modulo 2^32
unfoldable pub checksum_of : ℕ → ℕ → ℕ → ℕ → ℕ
checksum_of magic command status len = (magic + (status * 2 ^ 24 + command * 2 ^ 16 + 0x0101) + len) % 2 ^ 32

-- magic, 1, 1, command, status, length, checksum
unfoldable pub header_of : ℕ → ℕ → ℕ → ℕ → List ℕ
header_of magic command status len =
    bytes_of 4 magic ++ (1 ∷ 1 ∷ command ∷ status ∷ []) ++ bytes_of 4 len ++ bytes_of 4 (checksum_of magic command status len)

-- which bytes start with the header of a request: all others are refused (1a). Bytes 4 and 5 are ignored
unfoldable pub accepted : List ℕ → Bool
accepted s =
    nat_le 16 (length s)
    && (word_at 4 s 0 == request_magic && word_at 4 s 12 == checksum_of request_magic (slice_index s 6) (slice_index s 7) (word_at 4 s 8))

-- a header that says command, status and length
abbrev pub request_of : ℕ → ℕ → ℕ → Option Header
request_of command status len = Some (record { command = command; status = status; length = len })

-- what the header says: command, status and length
unfoldable pub parsed : List ℕ → Option Header
parsed s = cond (accepted s) (request_of (slice_index s 6) (slice_index s 7) (word_at 4 s 8)) None
