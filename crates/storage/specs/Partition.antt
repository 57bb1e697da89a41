-- Partitions: lent lists of offsets, sizes and name lengths, and the names' bytes one behind the other (01, refusal 12 and the
-- lookup; storage.rs `Partition`).
use Rattle.std.specs.Prelude.{Option, Some, None, Result, Ok, Err, Bool, true, ◌&&◌, cond, List, [], ◌∷◌, ℕ, ◌+◌, ◌^◌, max, leb, eqb, length, take, drop}
use Rattle.text.specs.Utf8.{is_utf8}
use Rattle.text.specs.Trim.{trim}
use Rattle.text.specs.Token.{until, same}
use Rattle.storage.specs.declared.types.CallError.{CallError}
use Rattle.storage.specs.declared.types.CallError.TheVariants.{Refused}

-- the lists as they are lent
pub record Lists : Type 0 where
  pub offsets : List ℕ
  pub sizes : List ℕ
  pub lens : List ℕ
  pub names : List ℕ

abbrev pub lists : List ℕ → List ℕ → List ℕ → List ℕ → Lists
lists o s l n = record { offsets = o; sizes = s; lens = l; names = n }

-- a partition
pub record Part : Type 0 where
  pub name : List ℕ
  pub offset : ℕ
  pub size : ℕ

abbrev pub part : List ℕ → ℕ → ℕ → Part
part name offset size = record { name = name; offset = offset; size = size }

-- the partitions that the lists say, as far as all of them go
unfoldable pub parts_of : List ℕ → List ℕ → List ℕ → List ℕ → List Part
parts_of [] sizes lens names = []
parts_of (o ∷ os) [] lens names = []
parts_of (o ∷ os) (s ∷ ss) [] names = []
parts_of (o ∷ os) (s ∷ ss) (n ∷ ns) names = part (take n names) o s ∷ parts_of os ss ns (drop n names)

unfoldable pub parts : Lists → List Part
parts l = parts_of l.offsets l.sizes l.lens l.names

-- ---- refusal 12

unfoldable pub total : List ℕ → ℕ
total [] = 0
total (n ∷ ns) = n + total ns

-- a name of at most 64 bytes that is UTF-8, and an end of at most 2^31
unfoldable pub part_ok : Part → Bool
part_ok p = leb (length p.name) 64 && (is_utf8 p.name && leb (p.offset + p.size) (2 ^ 31))

unfoldable pub all : List Part → Bool
all [] = true
all (p ∷ ps) = part_ok p && all ps

-- at most 32 partitions, lists and name bytes of like length, each partition as it should be
unfoldable pub lists_ok : Lists → Bool
lists_ok l =
    leb (length l.offsets) 32
    && (eqb (length l.sizes) (length l.offsets)
    && (eqb (length l.lens) (length l.offsets) && (eqb (total l.lens) (length l.names) && all (parts l))))

-- ---- capacity and lookup

-- the largest end, 0 where there is no partition
unfoldable pub table_end : List Part → ℕ
table_end [] = 0
table_end (p ∷ ps) = max (p.offset + p.size) (table_end ps)

-- the largest end of the lists' partitions; 0 for lists that are refused
unfoldable pub end_of : Lists → ℕ
end_of l = cond (lists_ok l) (table_end (parts l)) 0

-- the test and the largest end as the code's one answer: of a partition, and of the lists
unfoldable pub part_end : Part → Option ℕ
part_end p = cond (part_ok p) (Some (p.offset + p.size)) None

unfoldable pub table_of : Lists → Option ℕ
table_of l = cond (lists_ok l) (Some (table_end (parts l))) None

-- where the first partition of a name starts
unfoldable pub find : List ℕ → List Part → Option ℕ
find name [] = None
find name (p ∷ ps) = cond (same p.name name) (Some p.offset) (find name ps)

-- the name that is looked up: the text before the first `;`, trimmed of White_Space
unfoldable pub wanted : List ℕ → List ℕ
wanted name = trim (until 0x3B name)

-- where a named partition starts; a text that is not UTF-8 names none; lists that an opening refuses are refused
unfoldable pub lookup : Lists → List ℕ → Result (Option ℕ) CallError
lookup l name = cond (lists_ok l) (Ok (cond (is_utf8 name) (find (wanted name) (parts l)) None)) (Err Refused)

-- 01's number of a lookup's answer: done, failed, refused
abbrev pub found_number : Result (Option ℕ) CallError → ℕ
found_number (Ok (Some o)) = 0
found_number (Ok None) = 1
found_number (Err e) = 9
