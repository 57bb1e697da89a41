-- Each input gets a fixed answer (demand 1), and uniqueness is shown (01): any two outcomes that a public contract admits are equal.
--
-- An outcome is what a call returns and what it leaves in each slice that it may change. Every public contract is an equation between an
-- outcome and a definition of the inputs, so two outcomes of the same inputs equal the same value (`meet`). Where the equation is between
-- records, as for the calls with rooms, it still has to be shown that a record tells every part of its outcome: that is what the
-- statements of FixedStorage.antt and FixedEngine.antt add. A returned part of a lent text is known by its bytes. Clauses.antt says the
-- same of the contracts themselves, as the checker makes them from src/.
--
-- Here: the public functions of wire and text, in the order of src/, each in the words of its `ensures`.
use Rattle.std.specs.Prelude.{◌≡◌, Bool, List, ℕ, Option, drop}
use Rattle.std.proofs.Common.{sym, ◌∙◌}
use Rattle.wire.specs.Bytes.{bytes_of, word_at, laid}
use Rattle.wire.specs.Crc.{crc_update}
use Rattle.wire.specs.Header.{checksum_of, header_of, parsed}
use Rattle.wire.specs.Packet.{cbw_of, csw_of}
use Rattle.wire.specs.declared.header.Header.{Header}
use Rattle.wire.specs.declared.packet.Cbw.{Cbw}
use Rattle.text.specs.Utf8.{is_utf8}
use Rattle.text.specs.Trim.{trim}
use Rattle.text.specs.Number.{number_in}
use Rattle.text.specs.Token.{until, place_after, starts_with, same}

-- ---- the argument

-- two that equal the same are equal
pub meet : {A : Type 0} {r r' d : A} → r ≡ d → r' ≡ d → r ≡ r'
meet h h' = h ∙ sym h'

-- any two outcomes that a contract admits are equal
abbrev pub Fixes : (A : Type 0) → (A → Type 0) → Type 0
Fixes A Admits = (r r' : A) → Admits r → Admits r' → r ≡ r'

-- an equation admits one
pub fixed : {A : Type 0} (d : A) → Fixes A (λ r. r ≡ d)
fixed d r r' h h' = meet h h'

-- ---- wire: bytes, crc, header, packet

-- `bytes::u16_at`
pub u16_at_fixed : (s : List ℕ) (at : ℕ) → Fixes ℕ (λ r. r ≡ word_at 2 s at)
u16_at_fixed s at = fixed _

-- `bytes::u32_at`
pub u32_at_fixed : (s : List ℕ) (at : ℕ) → Fixes ℕ (λ r. r ≡ word_at 4 s at)
u32_at_fixed s at = fixed _

-- `bytes::u64_at`
pub u64_at_fixed : (s : List ℕ) (at : ℕ) → Fixes ℕ (λ r. r ≡ word_at 8 s at)
u64_at_fixed s at = fixed _

-- `bytes::le4`
pub le4_fixed : (x : ℕ) → Fixes (List ℕ) (λ r. r ≡ bytes_of 4 x)
le4_fixed x = fixed _

-- `bytes::le8`
pub le8_fixed : (v : ℕ) → Fixes (List ℕ) (λ r. r ≡ bytes_of 8 v)
le8_fixed v = fixed _

-- `bytes::put`: what it leaves in the slice
pub put_fixed : (s : List ℕ) (at : ℕ) (xs : List ℕ) → Fixes (List ℕ) (λ left. left ≡ laid s at xs)
put_fixed s at xs = fixed _

-- `crc::crc32_update`
pub crc32_update_fixed : (crc : ℕ) (s : List ℕ) → Fixes ℕ (λ r. r ≡ crc_update crc s)
crc32_update_fixed crc s = fixed _

-- `header::checksum`
pub checksum_fixed : (magic command status len : ℕ) → Fixes ℕ (λ r. r ≡ checksum_of magic command status len)
checksum_fixed magic command status len = fixed _

-- `header::build_header`
pub build_header_fixed : (magic command status len : ℕ) → Fixes (List ℕ) (λ r. r ≡ header_of magic command status len)
build_header_fixed magic command status len = fixed _

-- `header::parse_header`
pub parse_header_fixed : (frame : List ℕ) → Fixes (Option Header) (λ r. r ≡ parsed frame)
parse_header_fixed frame = fixed _

-- `packet::parse_cbw`
pub parse_cbw_fixed : (packet : List ℕ) → Fixes (Option Cbw) (λ r. r ≡ cbw_of packet)
parse_cbw_fixed packet = fixed _

-- `packet::csw`
pub csw_fixed : (tag status residue : ℕ) → Fixes (List ℕ) (λ r. r ≡ csw_of tag status residue)
csw_fixed tag status residue = fixed _

-- ---- text: number, token, trim, utf8

-- `number::parse`
pub parse_fixed : (token : List ℕ) → Fixes (Option ℕ) (λ r. r ≡ number_in token)
parse_fixed token = fixed _

-- `token::token`
pub token_fixed : (line : List ℕ) (at : ℕ) → Fixes (List ℕ) (λ r. r ≡ until 0x20 (drop at line))
token_fixed line at = fixed _

-- `token::place_after`
pub place_after_fixed : (line : List ℕ) (at : ℕ) → Fixes (Option ℕ) (λ r. r ≡ place_after line at)
place_after_fixed line at = fixed _

-- `token::before_semicolon`
pub before_semicolon_fixed : (s : List ℕ) → Fixes (List ℕ) (λ r. r ≡ until 0x3B s)
before_semicolon_fixed s = fixed _

-- `token::before_zero`
pub before_zero_fixed : (s : List ℕ) → Fixes (List ℕ) (λ r. r ≡ until 0 s)
before_zero_fixed s = fixed _

-- `token::starts_with`
pub starts_with_fixed : (s front : List ℕ) → Fixes Bool (λ r. r ≡ starts_with s front)
starts_with_fixed s front = fixed _

-- `token::same`
pub same_fixed : (a b : List ℕ) → Fixes Bool (λ r. r ≡ same a b)
same_fixed a b = fixed _

-- `trim::trim`
pub trim_fixed : (s : List ℕ) → Fixes (List ℕ) (λ r. r ≡ trim s)
trim_fixed s = fixed _

-- `utf8::is_utf8`
pub is_utf8_fixed : (s : List ℕ) → Fixes Bool (λ r. r ≡ is_utf8 s)
is_utf8_fixed s = fixed _
