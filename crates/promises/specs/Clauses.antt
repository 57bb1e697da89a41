-- Uniqueness, of the contracts themselves: any two outcomes that the contract of a public function admits for the same arguments are
-- equal (01). `Learnt` of a function is its `ensures` as a caller gets it, made from the clause in src/ by the checker: of the lifetimes,
-- the arguments, what is returned, and the arguments at exit. So a contract that says less than all, such as a bound or an implication, is
-- refused here. Fixed.antt, FixedStorage.antt and FixedEngine.antt have the same with the definitions written out, and the proofs.
-- The arguments stand in their order, a method's `self` first: at exit `s.0`, `s.1.0`, `s.1.1.0` and so on.
--
-- All seventy-four public functions of wire, text, storage, engine and transport stand here, in the order of src/.
use Rattle.std.specs.Prelude.{◌≡◌}
use Rattle.storage.specs.Parts.{rest_of}
use Rattle.wire.proofs.bytes.u16_at.Reads as u16_at
use Rattle.wire.proofs.bytes.u32_at.Reads as u32_at
use Rattle.wire.proofs.bytes.u64_at.Reads as u64_at
use Rattle.wire.proofs.bytes.le4.Reads as le4
use Rattle.wire.proofs.bytes.le8.Reads as le8
use Rattle.wire.proofs.bytes.put.Reads as put
use Rattle.wire.proofs.crc.crc32_update.Reads as crc32_update
use Rattle.wire.proofs.header.checksum.Reads as checksum
use Rattle.wire.proofs.header.build_header.Reads as build_header
use Rattle.wire.proofs.header.parse_header.Reads as parse_header
use Rattle.wire.proofs.packet.parse_cbw.Reads as parse_cbw
use Rattle.wire.proofs.packet.csw.Reads as csw
use Rattle.text.proofs.number.parse.Reads as number_parse
use Rattle.text.proofs.token.token.Reads as token
use Rattle.text.proofs.token.place_after.Reads as place_after
use Rattle.text.proofs.token.before_semicolon.Reads as before_semicolon
use Rattle.text.proofs.token.before_zero.Reads as before_zero
use Rattle.text.proofs.token.starts_with.Reads as starts_with
use Rattle.text.proofs.token.same.Reads as same
use Rattle.text.proofs.trim.trim.Reads as trim
use Rattle.text.proofs.utf8.is_utf8.Reads as is_utf8
use Rattle.storage.proofs.chip.fill.Reads as fill
use Rattle.storage.proofs.open.geometry_ok.Reads as geometry_ok
use Rattle.storage.proofs.open.page_shift.Reads as page_shift
use Rattle.storage.proofs.open.scratch_ok.Reads as scratch_ok
use Rattle.storage.proofs.types.Store.open_nor.Reads as storage_open_nor
use Rattle.storage.proofs.types.Store.open_nand.Reads as storage_open_nand
use Rattle.storage.proofs.types.Store.fits.Reads as fits
use Rattle.storage.proofs.open.nor_fits.Reads as nor_fits
use Rattle.storage.proofs.types.Store.is_nand.Reads as is_nand
use Rattle.storage.proofs.types.Store.block_size.Reads as block_size
use Rattle.storage.proofs.types.Store.capacity.Reads as capacity
use Rattle.storage.proofs.types.Store.boot_stage.Reads as boot_stage
use Rattle.storage.proofs.types.Store.device_id.Reads as device_id
use Rattle.storage.proofs.lent.Partitions.iter.Reads as iter
use Rattle.storage.proofs.lent.Partitions.fit.Reads as lists_ok
use Rattle.storage.proofs.lent.Partitions.end.Reads as table_end
use Rattle.storage.proofs.lent.Partitions.lookup.Reads as lookup
use Rattle.storage.proofs.types.Store.write_from_scratch.Reads as write_from_scratch
use Rattle.storage.proofs.types.Store.read_into_scratch.Reads as read_into_scratch
use Rattle.storage.proofs.types.Store.flush.Reads as flush
use Rattle.storage.proofs.types.Store.erase.Reads as erase
use Rattle.storage.proofs.types.Store.write.Reads as storage_write
use Rattle.storage.proofs.types.Store.read.Reads as storage_read
use Rattle.storage.proofs.types.CallError.number.Reads as call_number
use Rattle.storage.proofs.types.status_number.Reads as status_number
use Rattle.storage.proofs.types.Refusal.number.Reads as refusal_number
use Rattle.engine.proofs.api.numbers_ok.Reads as numbers_ok
use Rattle.engine.proofs.types.Engine.fits.Reads as all_ok
use Rattle.engine.proofs.types.Engine.open_nor.Reads as engine_open_nor
use Rattle.engine.proofs.types.Engine.open_nand.Reads as engine_open_nand
use Rattle.engine.proofs.types.Engine.write.Reads as engine_write
use Rattle.engine.proofs.types.Engine.read.Reads as engine_read
use Rattle.engine.proofs.types.Engine.cleared.Reads as cleared
use Rattle.engine.proofs.types.Engine.is_upgrading.Reads as is_upgrading
use Rattle.engine.proofs.types.Engine.is_asked.Reads as is_asked
use Rattle.engine.proofs.types.Engine.reset.Reads as bus_reset
use Rattle.engine.proofs.types.Engine.host_upgrading.Reads as host_upgrading
use Rattle.engine.proofs.types.Engine.reset_requested.Reads as reset_requested
use Rattle.engine.proofs.command.is_query.Reads as is_query
use Rattle.engine.proofs.command.pair_of.Reads as pair_of
use Rattle.engine.proofs.reply.status_of.Reads as status_of
use Rattle.engine.proofs.reply.len_of.Reads as len_of
use Rattle.engine.proofs.shell.text_len.Reads as text_len
use Rattle.engine.proofs.shell.is_write.Reads as is_write
use Rattle.engine.proofs.shell.is_reset.Reads as is_reset
use Rattle.engine.proofs.shell.parse.Reads as shell_parse
use Rattle.engine.proofs.shell.window_of.Reads as window_of
use Rattle.engine.proofs.shell.boot_table.Reads as boot_table
use Rattle.engine.proofs.short.alone_of.Reads as alone_of
use Rattle.engine.proofs.short.answer.Reads as answer
use Rattle.engine.proofs.stream.burn_by.Reads as burn_by
use Rattle.transport.proofs.port.Port.start.Reads as start
use Rattle.transport.proofs.port.Port.step.Reads as step
use Rattle.promises.specs.Fixed.{meet}
use Rattle.promises.specs.FixedStorage as stores
use Rattle.promises.specs.FixedStorage.{flush_fixed, erase_fixed, write_from_scratch_fixed, read_into_scratch_fixed}
use Rattle.promises.specs.FixedEngine as engines
use Rattle.promises.specs.FixedEngine.{opening_fixed, status_of_fixed, step_fixed}

-- any two outcomes that a contract admits, r with s at exit and r' with s', agree
abbrev pub Fixes :
    {K : Type 0} {A R S : K → Type 0} → ((k : K) → A k → R k → S k → Type 0) → ((k : K) → R k → R k → S k → S k → Type 0) → Type 0
Fixes {K} {A} {R} {S} Says Agree = (k : K) (a : A k) (r r' : R k) (s s' : S k) → Says k a r s → Says k a r' s' → Agree k r r' s s'

-- where all that a call does is to return a value
abbrev pub Returns : {K : Type 0} {A R S : K → Type 0} → ((k : K) → A k → R k → S k → Type 0) → Type 0
Returns Says = Fixes Says (λ k r r' s s'. r ≡ r')

-- ---- wire: bytes, crc, header, packet

-- `bytes::u16_at`
pub u16_at_one : Returns u16_at.Learnt
u16_at_one k a r r' s s' = meet

-- `bytes::u32_at`
pub u32_at_one : Returns u32_at.Learnt
u32_at_one k a r r' s s' = meet

-- `bytes::u64_at`
pub u64_at_one : Returns u64_at.Learnt
u64_at_one k a r r' s s' = meet

-- `bytes::le4`
pub le4_one : Returns le4.Learnt
le4_one k a r r' s s' = meet

-- `bytes::le8`
pub le8_one : Returns le8.Learnt
le8_one k a r r' s s' = meet

-- `bytes::put`: what it leaves in the slice
pub put_one : Fixes put.Learnt (λ k r r' s s'. s.0.now ≡ s'.0.now)
put_one k a r r' s s' = meet

-- `crc::crc32_update`
pub crc32_update_one : Returns crc32_update.Learnt
crc32_update_one k a r r' s s' = meet

-- `header::checksum`
pub checksum_one : Returns checksum.Learnt
checksum_one k a r r' s s' = meet

-- `header::build_header`
pub build_header_one : Returns build_header.Learnt
build_header_one k a r r' s s' = meet

-- `header::parse_header`
pub parse_header_one : Returns parse_header.Learnt
parse_header_one k a r r' s s' = meet

-- `packet::parse_cbw`
pub parse_cbw_one : Returns parse_cbw.Learnt
parse_cbw_one k a r r' s s' = meet

-- `packet::csw`
pub csw_one : Returns csw.Learnt
csw_one k a r r' s s' = meet

-- ---- text: number, token, trim, utf8

-- `number::parse`
pub number_parse_one : Returns number_parse.Learnt
number_parse_one k a r r' s s' = meet

-- `token::token`: a part of the line, by its bytes; so too where `r.now` stands below
pub token_one : Fixes token.Learnt (λ k r r' s s'. r.now ≡ r'.now)
token_one k a r r' s s' = meet

-- `token::place_after`
pub place_after_one : Returns place_after.Learnt
place_after_one k a r r' s s' = meet

-- `token::before_semicolon`
pub before_semicolon_one : Fixes before_semicolon.Learnt (λ k r r' s s'. r.now ≡ r'.now)
before_semicolon_one k a r r' s s' = meet

-- `token::before_zero`
pub before_zero_one : Fixes before_zero.Learnt (λ k r r' s s'. r.now ≡ r'.now)
before_zero_one k a r r' s s' = meet

-- `token::starts_with`
pub starts_with_one : Returns starts_with.Learnt
starts_with_one k a r r' s s' = meet

-- `token::same`
pub same_one : Returns same.Learnt
same_one k a r r' s s' = meet

-- `trim::trim`
pub trim_one : Fixes trim.Learnt (λ k r r' s s'. r.now ≡ r'.now)
trim_one k a r r' s s' = meet

-- `utf8::is_utf8`
pub is_utf8_one : Returns is_utf8.Learnt
is_utf8_one k a r r' s s' = meet

-- ---- storage: chip, open, partition, scratch, store, types

-- `chip::fill`: what it leaves in the slice
pub fill_one : Fixes fill.Learnt (λ k r r' s s'. s.0.now ≡ s'.0.now)
fill_one k a r r' s s' = meet

-- `open::geometry_ok`
pub geometry_ok_one : Returns geometry_ok.Learnt
geometry_ok_one k a r r' s s' = meet

-- `open::page_shift`
pub page_shift_one : Returns page_shift.Learnt
page_shift_one k a r r' s s' = meet

-- `open::scratch_ok`
pub scratch_ok_one : Returns scratch_ok.Learnt
scratch_ok_one k a r r' s s' = meet

-- `Store::open_nor`
pub storage_open_nor_one : Returns storage_open_nor.Learnt
storage_open_nor_one k a r r' s s' = meet

-- `Store::open_nand`
pub storage_open_nand_one : Returns storage_open_nand.Learnt
storage_open_nand_one k a r r' s s' = meet

-- `Store::fits`
pub fits_one : Returns fits.Learnt
fits_one k a r r' s s' = meet

-- `open::nor_fits`
pub nor_fits_one : Returns nor_fits.Learnt
nor_fits_one k a r r' s s' = meet

-- `Store::is_nand`
pub is_nand_one : Returns is_nand.Learnt
is_nand_one k a r r' s s' = meet

-- `Store::block_size`
pub block_size_one : Returns block_size.Learnt
block_size_one k a r r' s s' = meet

-- `Store::capacity`
pub capacity_one : Returns capacity.Learnt
capacity_one k a r r' s s' = meet

-- `Store::boot_stage`
pub boot_stage_one : Returns boot_stage.Learnt
boot_stage_one k a r r' s s' = meet

-- `Store::device_id`
pub device_id_one : Returns device_id.Learnt
device_id_one k a r r' s s' = meet

-- `Partitions::iter`: an iterator, by all that it yields
pub iter_one : Fixes iter.Learnt (λ k r r' s s'. rest_of r ≡ rest_of r')
iter_one k a r r' s s' = meet

-- `Partitions::fit`
pub lists_ok_one : Returns lists_ok.Learnt
lists_ok_one k a r r' s s' = meet

-- `Partitions::end`
pub table_end_one : Returns table_end.Learnt
table_end_one k a r r' s s' = meet

-- `Partitions::lookup`
pub lookup_one : Returns lookup.Learnt
lookup_one k a r r' s s' = meet

-- `Store::write_from_scratch`: what it returns, the record, the chip and the buffer
pub write_from_scratch_one : Fixes write_from_scratch.Learnt (λ k r r' s s'.
    (r ≡ r')
    × (s.0.now ≡ s'.0.now)
    × (s.1.1.0.now ≡ s'.1.1.0.now)
    × (s.1.1.1.0.now ≡ s'.1.1.1.0.now))
write_from_scratch_one k a r r' s s' = write_from_scratch_fixed _ _ _ _ _ _ _ _ r r' _ _ _ _ _ _

-- `Store::read_into_scratch`: what it returns, the record, the chip and scratch
pub read_into_scratch_one : Fixes read_into_scratch.Learnt (λ k r r' s s'.
    (r ≡ r')
    × (s.0.now ≡ s'.0.now)
    × (s.1.1.0.now ≡ s'.1.1.0.now)
    × (s.1.1.1.1.0.now ≡ s'.1.1.1.1.0.now))
read_into_scratch_one k a r r' s s' = read_into_scratch_fixed _ _ _ _ _ _ _ _ r r' _ _ _ _ _ _

-- `Store::flush`: what it returns, the record and the chip
pub flush_one : Fixes flush.Learnt (λ k r r' s s'.
    (r ≡ r')
    × (s.0.now ≡ s'.0.now)
    × (s.1.1.0.now ≡ s'.1.1.0.now))
flush_one k a r r' s s' = flush_fixed _ _ _ _ _ _ _ _ r r'

-- `Store::erase`: what it returns, the record and the chip
pub erase_one : Fixes erase.Learnt (λ k r r' s s'.
    (r ≡ r')
    × (s.0.now ≡ s'.0.now)
    × (s.1.1.0.now ≡ s'.1.1.0.now))
erase_one k a r r' s s' = erase_fixed _ _ _ _ _ _ _ _ r r' _ _

-- `Store::write`: what it returns, the record, the chip and the buffer
pub storage_write_one : Fixes storage_write.Learnt (λ k r r' s s'.
    (r ≡ r')
    × (s.0.now ≡ s'.0.now)
    × (s.1.1.0.now ≡ s'.1.1.0.now)
    × (s.1.1.1.0.now ≡ s'.1.1.1.0.now))
storage_write_one k a r r' s s' = stores.write_fixed _ _ _ _ _ _ _ _ r r' _ _ _ _

-- `Store::read`: what it returns, the record, the chip and the room
pub storage_read_one : Fixes storage_read.Learnt (λ k r r' s s'.
    (r ≡ r')
    × (s.0.now ≡ s'.0.now)
    × (s.1.1.0.now ≡ s'.1.1.0.now)
    × (s.1.1.1.1.1.0.now ≡ s'.1.1.1.1.1.0.now))
storage_read_one k a r r' s s' = stores.read_fixed _ _ _ _ _ _ _ _ r r' _ _ _ _

-- `CallError::number`
pub call_number_one : Returns call_number.Learnt
call_number_one k a r r' s s' = meet

-- `status_number`
pub status_number_one : Returns status_number.Learnt
status_number_one k a r r' s s' = meet

-- `Refusal::number`
pub refusal_number_one : Returns refusal_number.Learnt
refusal_number_one k a r r' s s' = meet

-- ---- engine: api, bus, command, reply, shell, short, stream

-- `api::numbers_ok`
pub numbers_ok_one : Returns numbers_ok.Learnt
numbers_ok_one k a r r' s s' = meet

-- `Engine::fits`
pub all_ok_one : Returns all_ok.Learnt
all_ok_one k a r r' s s' = meet

-- `Engine::open_nor`
pub engine_open_nor_one : Returns engine_open_nor.Learnt
engine_open_nor_one k a r r' s s' = opening_fixed _ r r'

-- `Engine::open_nand`
pub engine_open_nand_one : Returns engine_open_nand.Learnt
engine_open_nand_one k a r r' s s' = opening_fixed _ r r'

-- `Engine::write`: what it returns; the record; request, reply, chip, buffer and scratch
pub engine_write_one : Fixes engine_write.Learnt (λ k r r' s s'.
    (r ≡ r')
    × (s.0.now ≡ s'.0.now)
    × (s.1.1.0.now ≡ s'.1.1.0.now)
    × (s.1.1.1.0.now.reply.now ≡ s'.1.1.1.0.now.reply.now)
    × (s.1.1.1.0.now.chip.now ≡ s'.1.1.1.0.now.chip.now)
    × (s.1.1.1.0.now.buffer.now ≡ s'.1.1.1.0.now.buffer.now)
    × (s.1.1.1.0.now.scratch.now ≡ s'.1.1.1.0.now.scratch.now))
engine_write_one k a r r' s s' h h' = engines.write_fixed _ _ _ r r' _ _ _ _ s.1.1.1.0.now s'.1.1.1.0.now h.1 h'.1

-- `Engine::read`: what it returns, the record and the room
pub engine_read_one : Fixes engine_read.Learnt (λ k r r' s s'.
    (r ≡ r')
    × (s.0.now ≡ s'.0.now)
    × (s.1.1.1.1.0.now ≡ s'.1.1.1.1.0.now))
engine_read_one k a r r' s s' = engines.read_fixed _ _ _ r r' _ _ _ _

-- `Engine::cleared`
pub cleared_one : Returns cleared.Learnt
cleared_one k a r r' s s' = meet

-- `Engine::is_upgrading`
pub is_upgrading_one : Returns is_upgrading.Learnt
is_upgrading_one k a r r' s s' = meet

-- `Engine::is_asked`
pub is_asked_one : Returns is_asked.Learnt
is_asked_one k a r r' s s' = meet

-- `Engine::reset`: the record
pub bus_reset_one : Fixes bus_reset.Learnt (λ k r r' s s'. s.0.now ≡ s'.0.now)
bus_reset_one k a r r' s s' = meet

-- `Engine::host_upgrading`: the answer and the record
pub bus_host_upgrading_one : Fixes host_upgrading.Learnt (λ k r r' s s'.
    (r ≡ r')
    × (s.0.now ≡ s'.0.now))
bus_host_upgrading_one k a r r' s s' h h' = (meet h.0 h'.0, meet h.1 h'.1)

-- `Engine::reset_requested`: the answer and the record
pub bus_reset_requested_one : Fixes reset_requested.Learnt (λ k r r' s s'.
    (r ≡ r')
    × (s.0.now ≡ s'.0.now))
bus_reset_requested_one k a r r' s s' h h' = (meet h.0 h'.0, meet h.1 h'.1)

-- `command::is_query`
pub is_query_one : Returns is_query.Learnt
is_query_one k a r r' s s' = meet

-- `command::pair_of`
pub pair_of_one : Returns pair_of.Learnt
pair_of_one k a r r' s s' = meet

-- `reply::status_of`
pub status_of_one : Returns status_of.Learnt
status_of_one k a r r' s s' = status_of_fixed _ r r'

-- `reply::len_of`
pub len_of_one : Returns len_of.Learnt
len_of_one k a r r' s s' = meet

-- `shell::text_len`
pub text_len_one : Returns text_len.Learnt
text_len_one k a r r' s s' = meet

-- `shell::is_write`
pub is_write_one : Returns is_write.Learnt
is_write_one k a r r' s s' = meet

-- `shell::is_reset`
pub is_reset_one : Returns is_reset.Learnt
is_reset_one k a r r' s s' = meet

-- `shell::parse`
pub shell_parse_one : Returns shell_parse.Learnt
shell_parse_one k a r r' s s' = meet

-- `shell::window_of`
pub window_of_one : Returns window_of.Learnt
window_of_one k a r r' s s' = meet

-- `shell::boot_table`: what it leaves in the slice
pub boot_table_one : Fixes boot_table.Learnt (λ k r r' s s'. s.0.now ≡ s'.0.now)
boot_table_one k a r r' s s' = meet

-- `short::alone_of`
pub alone_of_one : Returns alone_of.Learnt
alone_of_one k a r r' s s' = meet

-- `short::answer`: what it returns, and the reply
pub answer_one : Fixes answer.Learnt (λ k r r' s s'.
    (r ≡ r')
    × (s.1.1.1.1.1.1.0.now ≡ s'.1.1.1.1.1.1.0.now))
answer_one k a r r' s s' h h' = engines.answer_fixed _ _ _ _ _ _ _ r r' _ _ (h.1, h.0) (h'.1, h'.0)

-- `stream::burn_by`
pub burn_by_one : Returns burn_by.Learnt
burn_by_one k a r r' s s' = meet

-- ---- transport: port, step

-- `Port::start`
pub start_one : Returns start.Learnt
start_one k a r r' s s' = meet

-- `Port::step`: what it returns; the engine's record; request, reply, chip, buffer, scratch and the room of sent packets
pub step_one : Fixes step.Learnt (λ k r r' s s'.
    (r ≡ r')
    × (s.1.0.now ≡ s'.1.0.now)
    × (s.1.1.1.0.now ≡ s'.1.1.1.0.now)
    × (s.1.1.1.1.0.now.reply.now ≡ s'.1.1.1.1.0.now.reply.now)
    × (s.1.1.1.1.0.now.chip.now ≡ s'.1.1.1.1.0.now.chip.now)
    × (s.1.1.1.1.0.now.buffer.now ≡ s'.1.1.1.1.0.now.buffer.now)
    × (s.1.1.1.1.0.now.scratch.now ≡ s'.1.1.1.1.0.now.scratch.now)
    × (s.1.1.1.1.1.0.now ≡ s'.1.1.1.1.1.0.now))
step_one k a r r' s s' h h' = step_fixed _ _ _ _ _ r r' _ _ _ _ s.1.1.1.1.0.now s'.1.1.1.1.0.now _ _ h.1 h'.1
