-- No pair fails; else the part of the room that the read filled is laid, and the count fits it.
use Rattle.std.proofs.Common.{rules, ◌≤◌, sym, ◌∙◌, length-take-le, arith}
use Rattle.storage.specs.World.{count_in}
use Rattle.storage.proofs.Scratches.{count_is}
use Rattle.engine.proofs.Told.{rest_is}
use Rattle.engine.proofs.Storings.{fwc_told, read_few, read_part}
use Rattle.engine.proofs.types.Engine.read_fwc.Goals as goal

pub slice_bounds-room-end-2 : goal.slice_bounds-room-end-2
slice_bounds-room-end-2 c =
    let m : c.min-n.result ≤ 512 = omega (arith, c.min-n.ensures) in
    rw (count_is c.read_store.result c.unwrap_or-count.ensures) (read_part _ _ _ _ m c.read_store.ensures.reads c.read_store.auto.room _)

pub slice_bounds-put-end-2 : goal.slice_bounds-put-end-2
slice_bounds-put-end-2 c =
    let m : c.min-n.result ≤ 512 = omega (arith, c.min-n.ensures) in
    rw (count_is c.read_store.result c.unwrap_or-count.ensures) (sym (length-take-le _ _ (read_part _ _ _ _ m c.read_store.ensures.reads c.read_store.auto.room _)))

pub overflow_cast-result : goal.overflow_cast-result
overflow_cast-result c =
    let m : c.min-n.result ≤ 512 = omega (arith, c.min-n.ensures) in
    let few : count_in c.read_store.result ≤ c.min-n.result = read_few _ _ _ _ m c.read_store.ensures.reads in
    let same = count_is c.read_store.result c.unwrap_or-count.ensures in
    search rules

pub returns-clause-reads : goal.returns-clause-reads
returns-clause-reads c = λ q.
    rw (count_is c.read_store.result c.unwrap_or-count.ensures)
    (fwc_told _ _ _ _ (sym c.pair_of.ensures ∙ search rules) c.min-n.ensures c.read_store.ensures.reads c.read_store.auto.room (rest_is q c.read_store.ensures.rest) (rw (count_is c.read_store.result c.unwrap_or-count.ensures) at c.put.ensures))
