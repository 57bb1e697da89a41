-- The commands of `execute_inner` that need no storage call, and those of scratch (01, 'Frame rules').
use Rattle.std.specs.Prelude.{ℕ, ◌+◌, ◌-◌, Bool, false, cond, ◌&&◌, List, [], ◌∷◌, ◌++◌, length, take, drop, replicate, ◌==◌, nat_le, Option, None, Some, Result}
use Rattle.std.proofs.lemmas.List.Edits.{sets}
use Rattle.text.specs.Token.{ascii}
use Rattle.wire.specs.Bytes.{bytes_of, word_at}
use Rattle.storage.specs.declared.types.Store.{Store}
use Rattle.storage.specs.Open.{one_of, block_size_of, is_nand}
use Rattle.engine.specs.declared.types.Engine.{Engine}
use Rattle.engine.specs.declared.command.Short.{Short}
use Rattle.engine.specs.declared.command.Short.TheVariants.{Other, Empty, Word}
use Rattle.engine.specs.declared.types.Failure.{Failure}
use Rattle.engine.specs.Reply.{Answer, ok, fail, unsupported, sent, ended_by}

-- the commands that only look: they do not raise `host_upgrading` (`is_status_query`)
abbrev pub queries : List ℕ
queries = 0x00 ∷ 0x01 ∷ 0x03 ∷ 0x08 ∷ 0x09 ∷ 0x0C ∷ 0x0D ∷ 0x11 ∷ 0x13 ∷ 0x14 ∷ 0x15 ∷ 0x16 ∷ 0x17 ∷ 0x18 ∷ 0x1A ∷ []

abbrev pub is_query : ℕ → Bool
is_query c = one_of queries c

-- text in a field of n bytes, with zeros behind it
abbrev pub field : ℕ → List ℕ → List ℕ
field n s = s ++ replicate (n - length s) 0

-- `struct hwinfo`: 108 bytes with the magic, the build stamp at 8, the boot stage at 40 and the protocol version at 72
unfoldable pub hwinfo : ℕ → List ℕ
hwinfo stage = field 8 (ascii "HWINFO") ++ field 32 (ascii "24-06-24 10:07") ++ field 32 (stage ∷ []) ++ field 36 (bytes_of 4 0x16030003)

-- the media's name in 64 bytes, and the device id
unfoldable pub media : Bool → ℕ → List ℕ
media nand device = field 64 (cond nand (ascii "spi-nand") (ascii "spi-nor")) ++ bytes_of 4 device

-- capacity, the block size twice, and eight zeros
unfoldable pub geometry : ℕ → ℕ → List ℕ
geometry capacity block = bytes_of 8 capacity ++ bytes_of 4 block ++ bytes_of 4 block ++ replicate 8 0

-- the partition table's text; an empty one fails
abbrev pub table_text : List ℕ → Answer
table_text [] = fail
table_text (b ∷ s) = sent (b ∷ s)

-- the commands that answer with a word of four bytes, or with no data, by the numbers that they tell
abbrev pub short_by : ℕ → ℕ → ℕ → ℕ → ℕ → Short
short_by c base burn run block =
    cond (c == 0x08) (Word base)
    (cond (c == 0x09) Empty
    (cond (c == 0x0A) Empty
    (cond (c == 0x0C) (Word 0)
    (cond (c == 0x11) (Word block)
    (cond (c == 0x14) (Word burn)
    (cond (c == 0x15) (Word run)
    (cond (c == 0x19) Empty Other)))))))

abbrev pub short_of : ℕ → Engine → Short
short_of c e = short_by c e.base e.up.burn e.up.run (block_size_of e.store)

-- those that answer with more, by what they tell of the device; all other numbers are not known
unfoldable pub long_by : ℕ → ℕ → Bool → ℕ → ℕ → ℕ → List ℕ → Answer
long_by c stage nand device capacity block table =
    cond (c == 0x00) (ok (hwinfo stage))
    (cond (c == 0x16) (ok (media nand device))
    (cond (c == 0x17) (table_text table)
    (cond (c == 0x1A) (ok (geometry capacity block)) unsupported)))

unfoldable pub long_of : ℕ → Engine → List ℕ → Answer
long_of c e table =
    long_by c e.store.shape.stage (is_nand e.store) e.store.shape.device e.store.shape.capacity (block_size_of e.store) table

-- the commands that touch nothing but the reply
abbrev pub plain_by : ℕ → Engine → List ℕ → Short → Answer
plain_by c e table Empty = ok []
plain_by c e table (Word x) = ok (bytes_of 4 x)
plain_by c e table Other = long_of c e table

unfoldable pub plain : ℕ → Engine → List ℕ → Answer
plain c e table = plain_by c e table (short_of c e)

-- a record of which the plain commands see no more than these four; the rest is nothing
abbrev pub asking : ℕ → ℕ → ℕ → Store → Engine
asking base burn run store =
    record {
      frame = record { len = 0; total = 0 };
      said = record { len = 0; pos = 0 };
      up = record { meta = []; valid = false; aimed = false; target = 0; written = 0; crc = 0; burn = burn; run = run; left = 0 };
      upgrading = false;
      asked = false;
      base = base;
      store = store;
    }

-- ---- READ and WRITE of scratch

-- the first eight payload bytes give address and length, or the command is refused
abbrev pub pair_of : List ℕ → Option (ℕ × ℕ)
pair_of data' = cond (nat_le 8 (length data')) (Some (word_at 4 data' 0, word_at 4 data' 4)) None

-- the window from addr on lies inside scratch; at scratch's end it may be empty
abbrev pub inside : ℕ → ℕ → ℕ → ℕ → Bool
inside base size addr len = nat_le base addr && nat_le (addr + len) (base + size)

-- READ: over 4,112 bytes OK with no data; 4,097 to 4,112 the odd reply
abbrev pub read_by : ℕ → List ℕ → Option (ℕ × ℕ) → Answer
read_by base scratch None = fail
read_by base scratch (Some (addr, len)) =
    cond (inside base (length scratch) addr len) (cond (nat_le len 4112) (sent (take len (drop (addr - base) scratch))) (ok [])) fail

unfoldable pub read_of : ℕ → List ℕ → List ℕ → Answer
read_of base scratch data' = read_by base scratch (pair_of data')

-- WRITE: as many bytes behind the pair as it says, laid into the window
pub record Wrote : Type 0 where
  pub answer : Answer
  pub scratch : List ℕ

abbrev pub wrote : Answer → List ℕ → Wrote
wrote a x = record { answer = a; scratch = x }

abbrev pub write_by : ℕ → List ℕ → List ℕ → Option (ℕ × ℕ) → Wrote
write_by base scratch data' None = wrote fail scratch
write_by base scratch data' (Some (addr, len)) =
    cond (nat_le len (length data' - 8) && inside base (length scratch) addr len)
    (wrote (ok []) (sets scratch (addr - base) (take len (drop 8 data'))))
    (wrote fail scratch)

unfoldable pub write_of : ℕ → List ℕ → List ℕ → Wrote
write_of base scratch data' = write_by base scratch data' (pair_of data')

-- the same as the code goes: how WRITE ended, and scratch
pub record WroteTo : Type 0 where
  pub ended : Result ℕ Failure
  pub scratch : List ℕ

abbrev pub wrote_as : Result ℕ Failure → List ℕ → WroteTo
wrote_as x s = record { ended = x; scratch = s }

abbrev pub wrote_by : Wrote → WroteTo
wrote_by r = wrote_as (ended_by r.answer) r.scratch
