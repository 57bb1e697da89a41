-- No window, or the table laid into it.
use Rattle.std.proofs.Common.{rules, ◌≡◌, Ok, ok_or}
use Rattle.engine.specs.declared.types.Failure.TheVariants.{Failed}
use Rattle.engine.proofs.Runnings.{some_of, boot_told}
use Rattle.engine.proofs.types.Engine.run_boot.Goals as goal

pub returns-clause-fills : goal.returns-clause-fills
returns-clause-fills c = λ q.
    let told : ok_or c.args.window Failed ≡ Ok c.in_ok-place.field-0 = search rules in
    let at = some_of c.args.window told in
    boot_told c.args.self.now q _ _ _ c.args.rooms.now.scratch.now at c.requires c.block_size.ensures c.capacity.ensures c.boot_table.ensures
