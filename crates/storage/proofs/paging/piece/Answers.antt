-- Not brought in; or laid over the buffer, with what the kind does behind it, which may fail.
use Rattle.std.proofs.Common.{rules, ◌≡◌, ◌∙◌, ◌+◌, length, arith, is_ok, true, false, Err, ap}
use Rattle.storage.specs.World.{dev}
use Rattle.storage.specs.Fold.{run}
use Rattle.storage.proofs.Fold.{piece_sealed, ready_loaded, ready_sealed}
use Rattle.storage.proofs.paging.piece.Goals as goal

pub seal-requires : goal.seal-requires
seal-requires g c = (ready_loaded c.requires.laws _ _ (rw (← c.requires.ready.1) at c.load.ensures) c.requires.ready (omega arith)).0

pub returns-in_err-map_err-2-clause-written : goal.returns-in_err-map_err-2-clause-written
returns-in_err-map_err-2-clause-written g c =
    let stopped : c.from_residual-in_err-map_err-2.result ≡ Err (record { at = c.args.addr + length c.args.part.now }) = search rules in
    let same : false ≡ is_ok c.seal.result = search rules in
    rw (stopped, same) (piece_sealed _ _ _ c.requires.laws _ _ _ (rw (← c.requires.ready.1) at c.load.ensures) (search rules) c.requires.some c.requires.within (omega (arith, c.requires.laws.room _ c.requires.ready)) c.put.ensures c.seal.ensures)

pub returns-clause-written : goal.returns-clause-written
returns-clause-written g c =
    let well : true ≡ is_ok c.seal.result = search rules in
    ap (λ ok. run ok (c.args.addr + length c.args.part.now) (dev c.seal.new.store c.seal.new.chip c.put.new.s)) well
    ∙ piece_sealed _ _ _ c.requires.laws _ _ _ (rw (← c.requires.ready.1) at c.load.ensures) (search rules) c.requires.some c.requires.within (omega (arith, c.requires.laws.room _ c.requires.ready)) c.put.ensures c.seal.ensures

pub returns-clause-ready : goal.returns-clause-ready
returns-clause-ready g c well = ready_sealed c.requires.laws _ _ c.seal.ensures (ready_loaded c.requires.laws _ _ (rw (← c.requires.ready.1) at c.load.ensures) c.requires.ready (omega arith))
