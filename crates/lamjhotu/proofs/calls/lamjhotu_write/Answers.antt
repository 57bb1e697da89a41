-- Row 9 in the order of the code; then a query alone, a piece of a stream, or the whole.
use mathlib.Core.Path.{sym, ◌∙◌}
use borrow.Author.Rules.{rules}
use lib.ListN.{drop}
use Rattle.lamjhotu.proofs.Exports.{write_short, write_same}
use Rattle.lamjhotu.proofs.Shorts.{fits_so, fits_lists, fits_not, write_none, query_told}
use Rattle.lamjhotu.proofs.Pieces.{is_piece, is_query_lem, sixteen, piece_fit, piece_told}
use Rattle.lamjhotu.proofs.Fronts.{whole, fits_chunk, way_chunk}
use Rattle.storage.specs.World.{lent}
use Rattle.storage.specs.Partition.{lists}
use Rattle.engine.specs.World.{given}
use Rattle.lamjhotu.proofs.calls.lamjhotu_write.Goals as goal

pub returns-in_default : goal.returns-in_default
returns-in_default c = write_short _ _ _ _ _ _ _ _ c.in_default.ensures.cases

pub returns-then-not-fits_in : goal.returns-then-not-fits_in
returns-then-not-fits_in c =
    let k = c.in-Some.ensures.cases in
    write_none _ _ _ _ _ _ _ (fits_not _ _ _ _ _ _ _ (sym (fits_chunk _ k _ _ _ _ _ _ c.fits_in.ensures) ∙ c.if-not-fits_in.true)) _ (whole _ k)

pub returns-then-not-fit : goal.returns-then-not-fit
returns-then-not-fit c = write_none _ _ _ _ _ _ _ (fits_lists _ _ _ _ _ _ _ (sym c.fit.ensures ∙ c.if-not-fit.true)) _ (whole _ c.in-Some.ensures.cases)

pub ask-requires : goal.ask-requires
ask-requires c = sixteen _ _ (is_query_lem _ _ c.way_of.ensures c.in-Query.is).1

pub piece-requires : goal.piece-requires
piece-requires c =
    let g = given (lent c.args.faults.now c.args.marks.now) (lists c.args.offsets.now c.args.sizes.now c.args.lens.now c.args.names.now) c.args.table.now in
    piece_fit g _ c.args.request.now c.args.reply.now _ _ c.args.scratch.now _ (fits_so _ _ _ _ _ _ _ (sym c.fits_in.ensures ∙ c.if-not-fits_in.false) (sym c.fit.ensures ∙ c.if-not-fit.false)) (is_piece _ _ c.way_of.ensures c.in-Piece.is)

pub returns-in-Query : goal.returns-in-Query
returns-in-Query c =
    let k = c.in-Some.ensures.cases in
    let q = is_query_lem _ _ (way_chunk _ k _ c.way_of.ensures) c.in-Query.is in
    query_told _ _ _ _ _ _ _ (fits_so _ _ _ _ _ _ _ (sym (fits_chunk _ k _ _ _ _ _ _ c.fits_in.ensures) ∙ c.if-not-fits_in.false) (sym c.fit.ensures ∙ c.if-not-fit.false)) q.0 _ k.enough (whole _ k) q.1 c.status_number.ensures (c.ask.ensures _)

pub returns-in-Piece : goal.returns-in-Piece
returns-in-Piece c =
    let k = c.in-Some.ensures.cases in
    piece_told _ _ _ _ _ _ _ _ (fits_so _ _ _ _ _ _ _ (sym (fits_chunk _ k _ _ _ _ _ _ c.fits_in.ensures) ∙ c.if-not-fits_in.false) (sym c.fit.ensures ∙ c.if-not-fit.false)) (is_piece _ _ (way_chunk _ k _ c.way_of.ensures) c.in-Piece.is) k.enough (whole _ k) (c.piece.ensures _)

pub returns-in-Whole : goal.returns-in-Whole
returns-in-Whole c =
    let w = write_same _ _ _ _ _ _ _ _ (whole _ c.in-Some.ensures.cases) (c.write_whole.ensures (drop 652 c.args.state.now)) in
    search (rules, w)
