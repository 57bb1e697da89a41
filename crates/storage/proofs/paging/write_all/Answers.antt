-- A turn is one piece, by `piece_went`; a failure stands, by `piece_failed`.
use Rattle.std.proofs.Common.{rules, ◌≡◌, ◌∙◌, ◌+◌, length, arith}
use Rattle.storage.proofs.Fold.{piece_failed, piece_went, reached_err}
use Rattle.storage.proofs.paging.write_all.Goals as goal

pub piece-requires-clause-laws : goal.piece-requires-clause-laws
piece-requires-clause-laws g c = rw c.page-page.ensures c.requires.laws

pub returns-in_err-piece : goal.returns-in_err-piece
returns-in_err-piece g c =
    let same : c.from_residual.result ≡ c.piece.result = search rules in
    let stays = reached_err (c.args.offset + length c.args.bytes.now) _ c.piece.result (search rules) in
    rw (← c.page-page.ensures, same, stays) (piece_failed _ _ _ _ c.loop-done.done (c.loop-done.done + c.min-n.result) c.args.offset _ (omega arith) c.piece.ensures.written (search rules) ∙ c.loop-done.invariant.left)

pub loop-done-preserved : goal.loop-done-preserved
loop-done-preserved g c =
    record {
      within = omega arith;
      kept = omega arith;
      ready = (c.piece.ensures.ready (search rules)).0;
      page = (c.piece.ensures.ready (search rules)).1;
      left = piece_went _ _ _ _ c.loop-done.done (c.loop-done.done + c.min-n.result) c.args.offset _ (omega arith) c.piece.ensures.written (omega arith) (search rules) ∙ c.loop-done.invariant.left;
    }
