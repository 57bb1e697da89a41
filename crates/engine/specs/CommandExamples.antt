-- Worked examples of replies and of the commands that need no storage call, each by computing: the four kinds of a reply with 01's
-- checksums, the edges of a reply's data, the hardware record, the edges of scratch for READ and WRITE.
use Rattle.std.specs.Prelude.{◌≡◌, true, false, [], ◌∷◌, ◌++◌, length, take, drop, replicate, refl}
use Rattle.text.specs.Token.{ascii}
use Rattle.wire.specs.Bytes.{bytes_of, le, word_at}
use Rattle.storage.specs.Open.{one_of}
use Rattle.wire.specs.Header.{checksum_of, header_of}
use Rattle.engine.specs.Reply.{ok, fail, unsupported, odd, sent, status_by, reply_by}
use Rattle.engine.specs.Command.{is_query, hwinfo, table_text, read_of, wrote, write_of}

-- ---- replies

-- FREE_MEM_BUF answered (P2), command 0x06 not known (P3), READ failed (P4), the odd reply (P5): the checksum, and all bytes of one
pub replies :
    (drop 12 (reply_by 0x09 (ok [])) ≡ bytes_of 4 0x52505156)
    × (take 4 (drop 12 (reply_by 0x06 unsupported)) ≡ bytes_of 4 0x534D51C2)
    × (drop 12 (reply_by 0x03 fail) ≡ bytes_of 4 0x534A5156)
    × (drop 12 (reply_by 0x03 odd) ≡ bytes_of 4 0x00010101)
    × (reply_by 0x08 (ok (7 ∷ [])) ≡ ascii "UPGR" ++ (1 ∷ 1 ∷ 8 ∷ 0 ∷ 1 ∷ 0 ∷ 0 ∷ 0 ∷ 0x57 ∷ 0x51 ∷ 0x4F ∷ 0x52 ∷ 7 ∷ []))
unfolding bytes_of checksum_of header_of reply_by
replies = (refl, refl, refl, refl, refl)

-- a write that brings a command ends with 1 for a fail reply and for the odd one
pub statuses : (status_by (ok []) ≡ 0) × (status_by fail ≡ 1) × (status_by unsupported ≡ 0) × (status_by odd ≡ 1)
unfolding status_by
statuses = (refl, refl, refl, refl)

-- 4,096 bytes are sent and 4,097 are not; a table text that is empty fails
pub edges :
    (sent (replicate 4096 7) ≡ ok (replicate 4096 7))
    × (sent (replicate 4097 7) ≡ odd)
    × (table_text [] ≡ fail)
    × (table_text (ascii "mtd") ≡ ok (ascii "mtd"))
unfolding sent
edges = (refl, refl, refl, refl)

-- ---- the hardware record of boot stage 2: its length, and what stands at 0, 8, 40 and 72

pub hardware :
    (length (hwinfo 2) ≡ 108)
    × (take 8 (hwinfo 2) ≡ ascii "HWINFO" ++ (0 ∷ 0 ∷ []))
    × (take 14 (drop 8 (hwinfo 2)) ≡ ascii "24-06-24 10:07")
    × (take 2 (drop 40 (hwinfo 2)) ≡ 2 ∷ 0 ∷ [])
    × (take 5 (drop 72 (hwinfo 2)) ≡ 3 ∷ 0 ∷ 3 ∷ 0x16 ∷ 0 ∷ [])
unfolding bytes_of hwinfo
hardware = (refl, refl, refl, refl, refl)

-- READ only looks, WRITE does not; neither does a number that is no command
pub looks : (is_query 0x03 ≡ true) × (is_query 0x02 ≡ false) × (is_query 0x1A ≡ true) × (is_query 0xFF ≡ false)
unfolding one_of
looks = (refl, refl, refl, refl)

-- ---- scratch 1 2 3 4 at 0x40

-- seven payload bytes; the last two bytes; nothing at the end; one byte too far; one below
pub reads :
    (read_of 0x40 (1 ∷ 2 ∷ 3 ∷ 4 ∷ []) (0x40 ∷ 0 ∷ 0 ∷ 0 ∷ 1 ∷ 0 ∷ 0 ∷ []) ≡ fail)
    × (read_of 0x40 (1 ∷ 2 ∷ 3 ∷ 4 ∷ []) (0x42 ∷ 0 ∷ 0 ∷ 0 ∷ 2 ∷ 0 ∷ 0 ∷ 0 ∷ []) ≡ ok (3 ∷ 4 ∷ []))
    × (read_of 0x40 (1 ∷ 2 ∷ 3 ∷ 4 ∷ []) (0x44 ∷ 0 ∷ 0 ∷ 0 ∷ 0 ∷ 0 ∷ 0 ∷ 0 ∷ []) ≡ ok [])
    × (read_of 0x40 (1 ∷ 2 ∷ 3 ∷ 4 ∷ []) (0x43 ∷ 0 ∷ 0 ∷ 0 ∷ 2 ∷ 0 ∷ 0 ∷ 0 ∷ []) ≡ fail)
    × (read_of 0x40 (1 ∷ 2 ∷ 3 ∷ 4 ∷ []) (0x3F ∷ 0 ∷ 0 ∷ 0 ∷ 1 ∷ 0 ∷ 0 ∷ 0 ∷ []) ≡ fail)
unfolding le word_at sent read_of
reads = (refl, refl, refl, refl, refl)

-- 4,112 bytes are too many for a reply and give the odd one; 4,113 give OK with no data
pub reads_long :
    (read_of 0 (replicate 4113 7) (bytes_of 4 0 ++ bytes_of 4 4112) ≡ odd)
    × (read_of 0 (replicate 4113 7) (bytes_of 4 0 ++ bytes_of 4 4113) ≡ ok [])
unfolding bytes_of le word_at sent read_of
reads_long = (refl, refl)

-- a byte behind those that the pair counts is not laid; a byte missing refuses the command, and so does one past the end
pub writes :
    (write_of 0x40 (1 ∷ 2 ∷ 3 ∷ 4 ∷ []) (0x41 ∷ 0 ∷ 0 ∷ 0 ∷ 2 ∷ 0 ∷ 0 ∷ 0 ∷ 8 ∷ 9 ∷ 10 ∷ []) ≡ wrote (ok []) (1 ∷ 8 ∷ 9 ∷ 4 ∷ []))
    × (write_of 0x40 (1 ∷ 2 ∷ 3 ∷ 4 ∷ []) (0x41 ∷ 0 ∷ 0 ∷ 0 ∷ 2 ∷ 0 ∷ 0 ∷ 0 ∷ 8 ∷ []) ≡ wrote fail (1 ∷ 2 ∷ 3 ∷ 4 ∷ []))
    × (write_of 0x40 (1 ∷ 2 ∷ 3 ∷ 4 ∷ []) (0x43 ∷ 0 ∷ 0 ∷ 0 ∷ 2 ∷ 0 ∷ 0 ∷ 0 ∷ 8 ∷ 9 ∷ []) ≡ wrote fail (1 ∷ 2 ∷ 3 ∷ 4 ∷ []))
unfolding le word_at write_of
writes = (refl, refl, refl)
