-- Row 13 bounds the product by 2^32.
use native.Mathlib.Omega.{arith}
use Rattle.storage.proofs.Opens.{geometry}
use Rattle.storage.proofs.types.Geometry.chip_size.Goals as goal

pub overflow_mul-result : goal.overflow_mul-result
overflow_mul-result c =
    let a = c.args.self in
    omega (arith, (geometry a.page a.pages a.blocks c.requires).block_most)
