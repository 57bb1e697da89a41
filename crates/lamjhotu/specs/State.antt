-- The engine's record as 652 bytes, and the record that bytes hold. What is packed over bytes that say the same leaves them as they
-- are, so that a call that changes one number has one number to write.
use Rattle.std.specs.Prelude.{Bool, true, false, not, cond, List, [], ◌∷◌, ◌++◌, ℕ, eqb, get_or, take, drop}
use Rattle.wire.specs.Bytes.{bytes_of, word_at}
use Rattle.storage.specs.declared.types.Kind.{Kind}
use Rattle.storage.specs.declared.types.Kind.TheVariants.{Nor, Nand}
use Rattle.storage.specs.declared.types.Shape.{Shape}
use Rattle.storage.specs.declared.types.Store.{Store}
use Rattle.engine.specs.declared.types.Engine.{Engine}
use Rattle.engine.specs.declared.types.Frame.{Frame}
use Rattle.engine.specs.declared.types.Said.{Said}
use Rattle.engine.specs.declared.types.Update.{Update}
use Rattle.engine.specs.World.{with_up, with_store}
use Rattle.std.specs.Prelude.{Option, None, Some}

-- ---- from a record to bytes

abbrev pub flag_of : Bool → ℕ
flag_of b = cond b 1 0

-- a mark over the byte that stands there: a byte that says the same stays
unfoldable pub mark_over : ℕ → Bool → ℕ
mark_over old b = cond b (cond (eqb old 0) 1 old) 0

abbrev pub is_nor : Kind → Bool
is_nor Nor = true
is_nor Nand = false

abbrev pub is_block : Option ℕ → Bool
is_block None = false
is_block (Some n) = true

-- the number of the erased block over the one that stands there, which stays where there is no such block
abbrev pub block_over : ℕ → Option ℕ → ℕ
block_over old None = old
block_over old (Some n) = n

-- four numbers of eight bytes
unfoldable pub four_of : ℕ → ℕ → ℕ → ℕ → List ℕ
four_of a b c d = bytes_of 8 a ++ (bytes_of 8 b ++ (bytes_of 8 c ++ bytes_of 8 d))

-- bytes 0 to 112: the fourteen numbers of eight bytes
unfoldable pub words_over : List ℕ → Engine → List ℕ
words_over s e =
    four_of e.frame.len e.frame.total e.said.len e.said.pos
    ++ (four_of e.up.target e.up.written e.up.left e.store.shape.capacity
    ++ (four_of e.store.shape.page e.store.shape.pages e.store.shape.blocks e.store.at
    ++ (bytes_of 8 (block_over (word_at 8 s 96) e.store.erased) ++ bytes_of 8 e.store.calls)))

-- bytes 112 to 132: the five numbers of four bytes
unfoldable pub smalls_of : Engine → List ℕ
smalls_of e =
    bytes_of 4 e.up.crc ++ (bytes_of 4 e.up.burn ++ (bytes_of 4 e.up.run ++ (bytes_of 4 e.base ++ bytes_of 4 e.store.shape.device)))

-- bytes 132 to 140: the boot stage and the seven marks
unfoldable pub marks_over : List ℕ → Engine → List ℕ
marks_over s e =
    e.store.shape.stage
    ∷ mark_over (get_or s 133 0) e.up.valid
    ∷ mark_over (get_or s 134 0) e.up.aimed
    ∷ mark_over (get_or s 135 0) e.upgrading
    ∷ mark_over (get_or s 136 0) e.asked
    ∷ mark_over (get_or s 137 0) e.store.held
    ∷ mark_over (get_or s 138 0) (is_nor e.store.shape.kind)
    ∷ mark_over (get_or s 139 0) (is_block e.store.erased)
    ∷ []

-- and the metadata: the record over the bytes that stand there
unfoldable pub pack_over : List ℕ → Engine → List ℕ
pack_over s e = words_over s e ++ (smalls_of e ++ (marks_over s e ++ e.up.meta))

-- ---- from bytes to a record

-- a mark is set where its byte is not 0
abbrev pub set_of : ℕ → Bool
set_of b = not (eqb b 0)

abbrev pub kind_of : Bool → Kind
kind_of true = Nor
kind_of false = Nand

abbrev pub erased_of : Bool → ℕ → Option ℕ
erased_of true n = Some n
erased_of false n = None

-- the mark at a place
abbrev pub set_at : List ℕ → ℕ → Bool
set_at s at = set_of (get_or s at 0)

unfoldable pub meta_at : List ℕ → List ℕ
meta_at s = take 512 (drop 140 s)

unfoldable pub shape_at : List ℕ → Shape
shape_at s =
    record {
      kind = kind_of (set_at s 138);
      page = word_at 8 s 64;
      pages = word_at 8 s 72;
      blocks = word_at 8 s 80;
      capacity = word_at 8 s 56;
      stage = get_or s 132 0;
      device = word_at 4 s 128;
    }

unfoldable pub store_at : List ℕ → Store
store_at s =
    record {
      shape = shape_at s;
      held = set_at s 137;
      at = word_at 8 s 88;
      erased = erased_of (set_at s 139) (word_at 8 s 96);
      calls = word_at 8 s 104;
    }

unfoldable pub update_at : List ℕ → Update
update_at s =
    record {
      meta = meta_at s;
      valid = set_at s 133;
      aimed = set_at s 134;
      target = word_at 8 s 32;
      written = word_at 8 s 40;
      crc = word_at 4 s 112;
      burn = word_at 4 s 116;
      run = word_at 4 s 120;
      left = word_at 8 s 48;
    }

-- what a frame and a reply have come to
abbrev pub frame_at : List ℕ → Frame
frame_at s = record { len = word_at 8 s 0; total = word_at 8 s 8 }

abbrev pub said_at : List ℕ → Said
said_at s = record { len = word_at 8 s 16; pos = word_at 8 s 24 }

-- every list of bytes holds a record; what is missing counts as zeros
unfoldable pub unpack_of : List ℕ → Engine
unpack_of s =
    record { frame = frame_at s; said = said_at s; up = update_at s; upgrading = set_at s 135; asked = set_at s 136; base = word_at 4 s 124; store = store_at s }

-- ---- a record changed

-- the record with a piece of a stream counted, and the store that it left
abbrev pub counted : ℕ → ℕ → ℕ → ℕ → Store → Engine → Engine
counted written left crc burn t e =
    with_up
    (record { meta = e.up.meta; valid = e.up.valid; aimed = e.up.aimed; target = e.up.target; written = written; crc = crc; burn = burn; run = e.up.run; left = left })
    (with_store t e)
