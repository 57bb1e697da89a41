-- Too short, no metadata, a flush that fails, or the target.
use Rattle.std.proofs.Common.{rules, ◌≡◌, ◌-◌, ◌≤◌, ◌∙◌, length, drop}
use Rattle.engine.proofs.Told.{rest_is}
use Rattle.engine.proofs.Storings.{meta_done}
use Rattle.engine.proofs.types.Engine.set_meta.Goals as goal

pub returns-clause-sets : goal.returns-clause-sets
returns-clause-sets c = λ q.
    let long : 512 ≤ length c.args.payload.now = search rules in
    let last : c.in-Some.meta.now ≡ drop (length c.args.payload.now - 512) c.args.payload.now = search rules in
    c.aim.ensures q _ _ _ _ ∙ meta_done _ _ _ _ long last (search rules) (rest_is q c.flush_store.ensures.rest) c.in_ok-flush_store.ensures.flushes
