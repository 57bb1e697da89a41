-- The lists are of like length, or the walk is not begun; a turn takes one partition and its name's bytes off the front; at the end no
-- name byte is left over.
use mathlib.Core.Path.{ap, ◌∙◌}
use Rattle.std.proofs.Common.{rules}
use Rattle.storage.specs.Partition.{table_of}
use Rattle.storage.proofs.Partitions.{table_many, table_sizes, table_lens, table_goes, goes_short, goes_bad, goes_on, goes_end}
use Rattle.storage.proofs.lent.Partitions.walk.Goals as goal
use Rattle.storage.proofs.lent.Partitions.walk.Goals.{then-n-gt32-via-then-n-gt32, then-n-gt32-via-else-n-gt32+then-self-n, then-n-gt32-via-else-n-gt32+else-self-n+then-self-n-2}

pub returns-then-n-gt32 : goal.returns-then-n-gt32
returns-then-n-gt32 c =
    elim c.then-n-gt32.branch [
      | then-n-gt32-via-then-n-gt32 w ↦ table_many _ _ _ _ w.if-n-gt32.true ∙ ap table_of c.self.view_is
      | then-n-gt32-via-else-n-gt32+then-self-n w ↦ table_sizes _ _ _ _ w.if-n-gt32.false w.if-self-n.true ∙ ap table_of c.self.view_is
      | then-n-gt32-via-else-n-gt32+else-self-n+then-self-n-2 w ↦ table_lens _ _ _ _ w.if-n-gt32.false w.if-self-n.false w.if-self-n-2.true ∙ ap table_of c.self.view_is
    ]

pub loop-offset-init : goal.loop-offset-init
loop-offset-init c =
    let w = table_goes _ _ _ c.self.inside.names.now c.if-n-gt32.false c.if-self-n.false c.if-self-n-2.false ∙ ap table_of c.self.view_is in
    search rules

pub returns-in_err-name : goal.returns-in_err-name
returns-in_err-name c =
    let k = c.in-Some.ensures.steps in
    c.from_residual.ensures
    ∙ goes_short c.loop-offset.end _ _ _ _ _ _ _ k.0.0 k.0.1 k.1 c.in_err-name.ensures.cases
    ∙ c.loop-offset.invariant.2

pub returns-in_err-end : goal.returns-in_err-end
returns-in_err-end c =
    let k = c.in-Some.ensures.steps in
    let s = c.in_ok-name.ensures.cases in
    c.from_residual-in_err-end.ensures
    ∙ goes_bad c.loop-offset.end _ _ _ _ _ _ _ k.0.0 k.0.1 k.1 s.0 s.1 c.end.ensures c.in_err-end.was
    ∙ c.loop-offset.invariant.2

pub loop-offset-preserved : goal.loop-offset-preserved
loop-offset-preserved c =
    let k = c.in-Some.ensures.steps in
    let s = c.in_ok-name.ensures.cases in
    let w = goes_on c.loop-offset.end _ _ _ _ _ _ _ k.0.0 k.0.1 k.1 s.0 s.1 c.end.ensures c.in_ok-end.field-0 c.in_ok-end.was s.2 ∙ c.loop-offset.invariant.2 in
    search rules

pub returns : goal.returns
returns c =
    let w = goes_end _ c.loop-offset.end _ _ c.in-None.ensures.steps c.loop-offset.invariant in
    search rules
