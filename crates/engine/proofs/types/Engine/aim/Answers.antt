-- The target is found, or the partition is not known.
use Rattle.std.proofs.Common.{rules, ◌≡◌, Err}
use Rattle.engine.specs.World.{world}
use Rattle.engine.specs.Storing.{target_of}
use Rattle.engine.proofs.Storings.{aims_failed}
use Rattle.engine.proofs.types.Engine.aim.Goals as goal

pub returns-in_err-target : goal.returns-in_err-target
returns-in_err-target c = λ q p k b x.
    let found : Err c.in_err-target.field-0.0 ≡ target_of c.args.given.now.lists c.args.meta.now = search rules in
    aims_failed c.args.given.now.lists c.args.meta.now (world c.args.self.now q p k b x) found (search rules)
