-- The laws of a flush, one for each return: nothing held, not erased, not written, done.
use Rattle.std.proofs.Common.{rules, ◌≡◌, is_ok}
use Rattle.storage.proofs.Nors.{flush_unwritten, flush_done}
use Rattle.storage.proofs.types.Store.nor_flush.Goals as goal

pub returns-in_err-write_bytes : goal.returns-in_err-write_bytes
returns-in_err-write_bytes c =
    let same : is_ok c.from_residual-in_err-write_bytes.result ≡ is_ok c.write_bytes.result = search rules in
    let z = c.args.buffer.now in
    rw same (flush_unwritten _ _ (search rules) (c.erase_sector.ensures z) (search rules) (c.write_bytes.ensures z) (search rules))

pub returns-in_ok-write_bytes : goal.returns-in_ok-write_bytes
returns-in_ok-write_bytes c =
    let z = c.args.buffer.now in
    flush_done _ _ (search rules) (c.erase_sector.ensures z) (search rules) (c.write_bytes.ensures z) (search rules)
