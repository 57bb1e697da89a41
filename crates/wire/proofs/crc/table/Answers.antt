-- The array is seven rows before the last, by one computed test over all 2,048 entries, and that is the table.
use Rattle.wire.specs.Crc.{◌⊕◌, shift, shifts}
use Rattle.wire.specs.Table.{table_of}
use Rattle.wire.proofs.Tables.{eight_more, each, stack, slices}
use Rattle.wire.proofs.crc.table.Goals as goal

pub returns : goal.returns
unfolding eight_more each stack table_of shifts shift ◌⊕◌
returns c = slices
