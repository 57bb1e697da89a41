-- Only named reasons, of the commands (01, 'What the contracts have to settle': "a refusal or fail reply still needs a reason that
-- these papers name"). `Why` lists by command what 01 names for a fail reply, `Large` for the odd one (1e), `known` the commands that
-- 01 has. Each row is a test of the payload, of the engine's numbers or of what a storage call told, and never the answer itself.
-- That every answer has its row is in Answers.antt, that every row gives its answer in Gives.antt; what follows for turns and writes is in
-- Reasons.antt and for replies in Replies.antt; what a storage call told is traced to the chip in Causes.antt.
use Rattle.std.specs.Prelude.{◌≡◌, true, false, List, [], ◌∷◌, ◌++◌, ◌⊎◌, ℕ, zero, suc, ◌+◌, ◌-◌, ◌≤◌, ◌<◌, min, length, take, drop, Option, None, Some, Ok}
use Rattle.text.specs.Utf8.{any_of, is_utf8}
use Rattle.text.specs.Token.{tokens_of, ascii, same}
use Rattle.text.specs.Number.{number_in}
use Rattle.wire.specs.Bytes.{word_at}
use Rattle.storage.specs.World.{Lent, Dev, Told}
use Rattle.storage.specs.Store.{flushing, erasing}
use Rattle.storage.specs.Scratch.{from_scratch, into_scratch}
use Rattle.storage.specs.Partition.{lookup}
use Rattle.engine.specs.declared.shell.Line.{Line}
use Rattle.engine.specs.declared.shell.Line.TheVariants as line
use Rattle.engine.specs.World.{Given, World, dev_of}
use Rattle.engine.specs.Reply.{Answer, ok, fail, unsupported, odd}
use Rattle.engine.specs.Storing.{partition_field, is_meta}
use Rattle.engine.specs.Shell.{done_words, line_of}

-- ---- the reasons of the shell

-- the line that a payload carries: "a u32 length and that many UTF-8 bytes"
abbrev pub line_in : List ℕ → List ℕ
line_in bytes = take (word_at 4 bytes 0) (drop 4 bytes)

-- one of the first n tokens is missing, or says no number
abbrev pub NoNumber : ℕ → List (List ℕ) → Type 0
NoNumber zero ts = ⊥
NoNumber (suc n) [] = Unit {0}
NoNumber (suc n) (t ∷ ts) = (number_in t ≡ None) ⊎ NoNumber n ts

-- the id is missing, or one of the n numbers behind it
abbrev pub BehindId : ℕ → List (List ℕ) → Type 0
BehindId n [] = Unit {0}
BehindId n (t ∷ ts) = NoNumber n ts

-- the command words with something to do
abbrev pub task_words : List (List ℕ)
task_words = ascii "bderase" ∷ ascii "bdwrite" ∷ ascii "bdread" ∷ ascii "get_bootdevice" ∷ []

-- why a line is refused: its first token is no command word, or of the id and the numbers that the word needs one is missing or says no
-- number ("empty, `+` alone, any other character and values above 2^64-1 are refused")
pub data WordWhy (t : List ℕ) (ts : List (List ℕ)) : Type 0 where
  no_word : any_of (same t) done_words ≡ false → any_of (same t) task_words ≡ false → WordWhy t ts
  no_erase : same t (ascii "bderase") ≡ true → BehindId 2 ts → WordWhy t ts
  no_write : same t (ascii "bdwrite") ≡ true → BehindId 3 ts → WordWhy t ts
  no_read : same t (ascii "bdread") ≡ true → BehindId 3 ts → WordWhy t ts
  no_boot : same t (ascii "get_bootdevice") ≡ true → NoNumber 2 ts → WordWhy t ts

-- of the tokens of a line, of which there is a first one
abbrev pub LineWhy : List (List ℕ) → Type 0
LineWhy [] = ⊥
LineWhy (t ∷ ts) = WordWhy t ts

-- "`window` cuts the length to scratch's end and refuses an address at or past it", or below its base
abbrev pub Off : World → ℕ → Type 0
Off w addr = (addr < w.e.base) ⊎ (w.e.base + length w.scratch ≤ addr)

-- the length of a window that is not refused
abbrev pub cut_to : World → ℕ → ℕ → ℕ
cut_to w addr len = min len (w.e.base + length w.scratch - addr)

-- what a move out of scratch, and one into it, tell
abbrev pub out_told : Lent → World → ℕ → ℕ → ℕ → Told
out_told l w off len addr = from_scratch l off (addr - w.e.base) (cut_to w addr len) w.scratch (dev_of w)

abbrev pub in_told : Lent → World → ℕ → ℕ → ℕ → Told
in_told l w off len addr = (into_scratch l off (addr - w.e.base) (cut_to w addr len) w.scratch (dev_of w)).told

-- a flush of a store failed
abbrev pub Unflushed : Lent → Dev → Type 0
Unflushed l d = (flushing l d).status ≡ 0 → ⊥

-- an erase failed
abbrev pub Unerased : Lent → ℕ → ℕ → Dev → Type 0
Unerased l start size d = (erasing l start size d).status ≡ 0 → ⊥

-- why a write out of scratch fails: its window is refused, it came up short, or the flush behind it failed
pub data OutWhy (l : Lent) (w : World) (off len addr : ℕ) : Type 0 where
  out_window : Off w addr → OutWhy l w off len addr
  out_short : ((out_told l w off len addr).count ≡ cut_to w addr len → ⊥) → OutWhy l w off len addr
  out_flush : Unflushed l (out_told l w off len addr).dev → OutWhy l w off len addr

-- why a read into scratch fails: its window is refused, or it came up short
pub data InWhy (l : Lent) (w : World) (off len addr : ℕ) : Type 0 where
  in_window : Off w addr → InWhy l w off len addr
  in_short : ((in_told l w off len addr).count ≡ cut_to w addr len → ⊥) → InWhy l w off len addr

-- why a line that asks for something fails
abbrev pub RunWhy : Lent → World → Option Line → Type 0
RunWhy l w None = ⊥
RunWhy l w (Some line.Done) = ⊥
RunWhy l w (Some (line.Erase start size)) = Unerased l start size (dev_of w)
RunWhy l w (Some (line.Write off len addr)) = OutWhy l w off len addr
RunWhy l w (Some (line.Read off len addr)) = InWhy l w off len addr
RunWhy l w (Some (line.Boot addr len)) = Off w addr

-- ---- the reasons of every command

-- the window of READ or WRITE doesn't lie inside scratch
abbrev pub Beyond : World → ℕ → ℕ → Type 0
Beyond w addr len = (addr < w.e.base) ⊎ (w.e.base + length w.scratch < addr + len)

-- the metadata: the last 512 bytes
abbrev pub meta_in : List ℕ → List ℕ
meta_in bytes = drop (length bytes - 512) bytes

-- a fail reply's reason, by command; w is the world that the command finds. A row without a sentence of 01 of its own is by "The other
-- commands are as in `execute_inner`"
pub data Why (g : Given) (c : ℕ) (bytes : List ℕ) (w : World) : Type 0 where
  -- WRITE: "first eight payload bytes give address and length, or the command is refused; the window must lie inside scratch"; and
  -- fewer bytes behind the pair than it says, as in `execute_inner`
  write_cut : c ≡ 0x02 → length bytes < 8 → Why g c bytes w
  write_beyond : c ≡ 0x02 → Beyond w (word_at 4 bytes 0) (word_at 4 bytes 4) → Why g c bytes w
  write_less : c ≡ 0x02 → length bytes < 8 + word_at 4 bytes 4 → Why g c bytes w
  -- READ, as WRITE
  read_cut : c ≡ 0x03 → length bytes < 8 → Why g c bytes w
  read_beyond : c ≡ 0x03 → Beyond w (word_at 4 bytes 0) (word_at 4 bytes 4) → Why g c bytes w
  -- RUN_SHELL_STR: "the line is a u32 length and that many UTF-8 bytes"
  shell_cut : c ≡ 0x05 → length bytes < 4 → Why g c bytes w
  shell_less : c ≡ 0x05 → length bytes < 4 + word_at 4 bytes 0 → Why g c bytes w
  shell_text : c ≡ 0x05 → is_utf8 (line_in bytes) ≡ false → Why g c bytes w
  shell_line_lem : c ≡ 0x05 → LineWhy (tokens_of (line_in bytes)) → Why g c bytes w
  shell_run : c ≡ 0x05 → RunWhy g.lent w (line_of (line_in bytes)) → Why g c bytes w
  -- SET_UPG_END: the flush failed, as in `execute_inner`
  end_flush : c ≡ 0x0B → Unflushed g.lent (dev_of w) → Why g c bytes w
  -- SET_FWC_META "in order: 512 bytes at least, of which the last 512 count; `META`; flush; .. Unknown: fails"
  meta_cut : c ≡ 0x10 → length bytes < 512 → Why g c bytes w
  meta_magic : c ≡ 0x10 → is_meta (meta_in bytes) ≡ false → Why g c bytes w
  meta_flush : c ≡ 0x10 → Unflushed g.lent (dev_of w) → Why g c bytes w
  meta_unknown : c ≡ 0x10 → (partition_field (meta_in bytes) ≡ [] → ⊥) → ((o : ℕ) → lookup g.lists (partition_field (meta_in bytes)) ≡ Ok (Some o) → ⊥)
      → Why g c bytes w
  -- GET_FWC_CRC: the flush failed, as in `execute_inner`
  crc_flush : c ≡ 0x13 → Unflushed g.lent (dev_of w) → Why g c bytes w
  -- the partition table's text: an empty one, as in `execute_inner`
  table_none : c ≡ 0x17 → g.table ≡ [] → Why g c bytes w
  -- READ_FWC_DATA: its pair is cut, as in `execute_inner`
  fwc_cut : c ≡ 0x18 → length bytes < 8 → Why g c bytes w
  -- "ERASE_STORAGE needs 24 bytes, flushes, then erases"
  erase_cut : c ≡ 0x1B → length bytes < 24 → Why g c bytes w
  erase_flush : c ≡ 0x1B → Unflushed g.lent (dev_of w) → Why g c bytes w
  erase_failed : c ≡ 0x1B → Unerased g.lent (word_at 8 bytes 0) (word_at 8 bytes 8) (flushing g.lent (dev_of w)).dev → Why g c bytes w

-- the odd reply's reason (1e): "reply data 4,097 to 4,112 bytes, or a table text over 4,096"
pub data Large (g : Given) (c : ℕ) (bytes : List ℕ) (w : World) : Type 0 where
  read_large : c ≡ 0x03 → 8 ≤ length bytes → (Beyond w (word_at 4 bytes 0) (word_at 4 bytes 4) → ⊥) → 4096 < word_at 4 bytes 4 → word_at 4 bytes 4 ≤ 4112 → Large g c bytes w
  table_large : c ≡ 0x17 → 4096 < length g.table → Large g c bytes w

-- the commands that a frame may bring, by what they touch: scratch, scratch and storage, storage, and the reply alone with a word, with
-- no data, or with more. (SEND_FWC_DATA, 0x12, is taken at its header, and no frame brings it: Turns.antt, `executes`.) All others are unsupported, 0x01 and 0x0D too
abbrev pub of_scratch : List ℕ
of_scratch = 0x02 ∷ 0x03 ∷ []

abbrev pub of_shell : List ℕ
of_shell = 0x05 ∷ []

abbrev pub of_storage : List ℕ
of_storage = 0x0B ∷ 0x10 ∷ 0x13 ∷ 0x18 ∷ 0x1B ∷ []

abbrev pub of_word : List ℕ
of_word = 0x08 ∷ 0x09 ∷ 0x0A ∷ 0x0C ∷ 0x11 ∷ 0x14 ∷ 0x15 ∷ 0x19 ∷ []

abbrev pub of_more : List ℕ
of_more = 0x00 ∷ 0x16 ∷ 0x17 ∷ 0x1A ∷ []

abbrev pub known : List ℕ
known = of_scratch ++ of_shell ++ of_storage ++ of_word ++ of_more

-- ---- every answer has its reason

-- an answer is OK, or has a reason of its kind
abbrev pub Says : Type 0 → Type 0 → Type 0 → Answer → Type 0
Says F U O (ok bytes) = Unit {0}
Says F U O fail = F
Says F U O unsupported = U
Says F U O odd = O
