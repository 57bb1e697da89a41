-- `find` over an iterator that shows the list of what is left.
use mathlib.Core.Path.{◌≡◌, refl, ap, ◌∙◌}
use Rattle.std.proofs.Common.{rules, tests, Option, Some, None}
use Rattle.std.proofs.lemmas.Iterator.Consumers.{YieldsList-from_first}
use Rattle.std.proofs.lemmas.Iterator.Search.{find_from_yields_List}
use Rattle.std.specs.Option.{option_map}
use Rattle.storage.specs.declared.lent.Partition.{Partition}
use Rattle.storage.specs.Partition.{Part}
use Rattle.storage.specs.Parts.{part_of, rest_of}
use Rattle.storage.proofs.Partitions.{is_named, find_is}
use Rattle.storage.proofs.lent.Partitions.start_of.Goals as goal

offset_of : (o : Option Partition) → option_map (λ (p : Partition). p.offset) o ≡ option_map (λ (p : Part). p.offset) (option_map part_of o)
offset_of None = refl
offset_of (Some p) = refl

pub returns : goal.returns
returns c =
    let found = find_from_yields_List (is_named c.args.name.now) c.find.new.self _ _ c.find.ensures.ran (YieldsList-from_first part_of rest_of _ c.iter.ensures) (λ x b q k. search (rules, tests)) in
    let mapped : c.map.result ≡ option_map (λ (p : Partition). p.offset) c.find.result = search rules in
    mapped ∙ offset_of c.find.result ∙ ap (option_map (λ (p : Part). p.offset)) found ∙ find_is c.args.name.now _
