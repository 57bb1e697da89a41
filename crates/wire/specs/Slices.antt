-- The table behind eight bytes a turn.
use Rattle.std.specs.Prelude.{ℕ, ◌-◌, ◌*◌, ◌/◌, ◌%◌, List}
use Rattle.wire.specs.Crc.{shifts}
use Rattle.wire.specs.Table.{table_of}

-- row j, entry b: what the byte b, j bytes up in 64 bits, becomes in 64 shifts
unfoldable pub entry : ℕ → ℕ
entry i = shifts (64 - 8 * (i / 256)) (i % 256)

unfoldable pub slice_table : List ℕ
slice_table = table_of entry 2048 0
