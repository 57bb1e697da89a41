-- A piece, then what is no query, then what the bytes ask.
use Rattle.lamjhotu.proofs.Pieces.{way_piece, way_busy, way_alone}
use mathlib.Core.Path.{sym, ◌∙◌, ap}
use Rattle.lamjhotu.specs.Calls.{way_by}
use Rattle.lamjhotu.proofs.quick.way_of.Goals as goal

pub returns-then-in_stream : goal.returns-then-in_stream
returns-then-in_stream c = way_piece _ _ c.in_stream.ensures c.if-in_stream.true

pub returns-then-not-idle : goal.returns-then-not-idle
returns-then-not-idle c = way_busy _ _ c.in_stream.ensures c.if-in_stream.false c.idle.ensures (c.if-not-idle.true)

pub returns-in-None : goal.returns-in-None
returns-in-None c = ap way_by (sym c.in-None.is) ∙ way_alone _ _ c.in_stream.ensures c.if-in_stream.false c.idle.ensures (c.if-not-idle.false) c.alone_of.ensures

pub returns-in-Some : goal.returns-in-Some
returns-in-Some c = ap way_by (sym c.in-Some.is) ∙ way_alone _ _ c.in_stream.ensures c.if-in_stream.false c.idle.ensures (c.if-not-idle.false) c.alone_of.ensures
