-- A partition and an iterator over the lists, as the definitions of Partition.antt see them.
use Rattle.std.specs.Prelude.{List}
use Rattle.storage.specs.Partition.{Part, part, parts_of}
use Rattle.storage.specs.declared.lent.Partition.{Partition}
use Rattle.storage.specs.declared.lent.Iter.{Iter}

abbrev pub part_of : Partition → Part
part_of p = part p.name.now p.offset p.size

-- the partitions that are left
abbrev pub rest_of : Iter → List Part
rest_of p = parts_of p.offsets.now p.sizes.now p.lens.now p.names.now
