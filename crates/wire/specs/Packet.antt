-- The wrappers of a packet: the CBW that opens a command and the CSW that ends it (01, 'Packets'; protocol.rs `Cbw`, `Csw`).
use Rattle.std.specs.Prelude.{Option, None, Some, ℕ, Bool, cond, ◌&&◌, List, [], ◌∷◌, ◌++◌, length, ◌==◌, nat_le, slice_index}
use Rattle.wire.specs.Bytes.{bytes_of, word_at}
use Rattle.wire.specs.declared.packet.Cbw.{Cbw}

-- `USBC` and `USBS`
abbrev pub cbw_magic : ℕ
cbw_magic = 0x43425355

abbrev pub csw_magic : ℕ
csw_magic = 0x53425355

-- a CBW has 31 bytes and its signature; `flags`, LUN and `cb_length` are not tested
unfoldable pub is_cbw : List ℕ → Bool
is_cbw s = nat_le 31 (length s) && word_at 4 s 0 == cbw_magic

-- a CBW that says tag, length and command
abbrev pub command_of : ℕ → ℕ → ℕ → Option Cbw
command_of tag len command = Some (record { tag = tag; length = len; command = command })

-- its tag, the length of the data stage, and the transport command
unfoldable pub cbw_of : List ℕ → Option Cbw
cbw_of s = cond (is_cbw s) (command_of (word_at 4 s 4) (word_at 4 s 8) (slice_index s 15)) None

-- signature, tag, residue, status: thirteen bytes
unfoldable pub csw_of : ℕ → ℕ → ℕ → List ℕ
csw_of tag status residue = bytes_of 4 csw_magic ++ bytes_of 4 tag ++ bytes_of 4 residue ++ (status ∷ [])
