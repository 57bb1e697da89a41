-- What a reader of records promises: a body that it hands out lies within the room. And what an error leaves: of what was to be printed a
-- front, or some other bytes, behind the known bytes of the writer, which stay; and of an input all but a front of its known bytes.
use Rattle.std.specs.Prelude.{ℕ, ◌≤◌, List, take}
use Rattle.std.specs.declared.option.Option.{Option}
use Rattle.std.specs.Io.KnownBytes.{Appends, Consumes}
use Rattle.record.specs.declared.Next.{Next}
use Rattle.record.specs.declared.Next.TheVariants.{Record, Bad, End}

abbrev pub Within : Next → ℕ → Type 0
Within (Record kind len) n = len ≤ n
Within Bad n = Unit {0}
Within End n = Unit {0}

-- known bytes grow by a front of bs
abbrev pub AppendsFront : Option (List ℕ) → Option (List ℕ) → List ℕ → Type 0
AppendsFront old new bs = (k : ℕ) × Appends old new (take k bs)

-- known bytes stay, and grow by some others
abbrev pub Grows : Option (List ℕ) → Option (List ℕ) → Type 0
Grows old new = (bs : List ℕ) × Appends old new bs

-- known bytes lose a front
abbrev pub Shrinks : Option (List ℕ) → Option (List ℕ) → Type 0
Shrinks old new = (bs : List ℕ) × Consumes old new bs
