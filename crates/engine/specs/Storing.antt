-- The commands over the storage: SET_UPG_END, SET_FWC_META, GET_FWC_CRC, READ_FWC_DATA, ERASE_STORAGE, each in the order of
-- `execute_inner` (01, 'Frame rules').
use Rattle.std.specs.Prelude.{ℕ, ◌-◌, min, Bool, true, false, cond, List, [], ◌∷◌, length, take, drop, replicate, ◌==◌, nat_le, Option, None, Some, Result, Ok, Err}
use Rattle.text.specs.Utf8.{is_utf8}
use Rattle.text.specs.Token.{ascii, until, same}
use Rattle.wire.specs.Bytes.{bytes_of, word_at}
use Rattle.storage.specs.World.{Lent, Told, Seen}
use Rattle.storage.specs.Store.{flushing, erasing, reading}
use Rattle.storage.specs.Partition.{Lists, lookup}
use Rattle.storage.specs.declared.types.CallError.{CallError}
use Rattle.engine.specs.declared.types.Update.{Update}
use Rattle.engine.specs.declared.types.Failure.{Failure}
use Rattle.engine.specs.declared.types.Failure.TheVariants.{Failed}
use Rattle.engine.specs.World.{World, with_up, at_e, dev_of, at_dev}
use Rattle.engine.specs.Reply.{Answer, ok, fail, whether, Ran, ran}
use Rattle.engine.specs.Command.{pair_of}

-- a flush; what comes next where it succeeds, a fail reply where it does not
abbrev pub after_flush : World → (World → Ran) → Told → Ran
after_flush w next t = cond (t.status == 0) (next (at_dev t.dev w)) (ran fail (at_dev t.dev w))

-- SET_UPG_END
unfoldable pub end_upgrade : Lent → World → Ran
end_upgrade l w = after_flush w (ran (ok [])) (flushing l (dev_of w))

-- GET_FWC_CRC: the checksum of the bytes received. With a target sixteen bytes are read there first, which the reply does not show
unfoldable pub probed : Lent → World → World
probed l w = cond w.e.up.aimed (at_dev (reading l w.e.up.target (replicate 16 0) (dev_of w)).told.dev w) w

unfoldable pub crc_query : Lent → World → Ran
crc_query l w = after_flush w (λ v. ran (ok (bytes_of 4 v.e.up.crc)) (probed l v)) (flushing l (dev_of w))

-- READ_FWC_DATA: at most 512 bytes, and as many as the storage gives; it never fails on storage
abbrev pub seen_by : World → Seen → Ran
seen_by w s = ran (ok (take s.told.count s.room)) (at_dev s.told.dev w)

abbrev pub read_fwc_by : Lent → World → Option (ℕ × ℕ) → Ran
read_fwc_by l w None = ran fail w
read_fwc_by l w (Some (off, len)) = seen_by w (reading l off (replicate (min len 512) 0) (dev_of w))

unfoldable pub read_fwc : Lent → List ℕ → World → Ran
read_fwc l bytes w = read_fwc_by l w (pair_of bytes)

-- ERASE_STORAGE: 24 bytes at least, of which the first two words of eight count
abbrev pub erased_by : World → Told → Ran
erased_by w t = ran (whether (t.status == 0)) (at_dev t.dev w)

unfoldable pub erase_storage : Lent → List ℕ → World → Ran
erase_storage l bytes w =
    cond (nat_le 24 (length bytes))
    (after_flush w (λ v. erased_by v (erasing l (word_at 8 bytes 0) (word_at 8 bytes 8) (dev_of v))) (flushing l (dev_of w)))
    (ran fail w)

-- ---- SET_FWC_META

-- the partition field: up to its first zero; one that is not UTF-8 counts as empty
unfoldable pub partition_field : List ℕ → List ℕ
partition_field meta = let f = until 0 (take 64 (drop 0x48 meta)) in cond (is_utf8 f) f []

-- the target: none for an empty field, else the partition of that name, which fails where it is not known
abbrev pub found_at : Result (Option ℕ) CallError → Result (Option ℕ) Failure
found_at (Ok (Some o)) = Ok (Some o)
found_at (Ok None) = Err Failed
found_at (Err e) = Err Failed

abbrev pub target_by : Lists → List ℕ → Result (Option ℕ) Failure
target_by lists [] = Ok None
target_by lists (b ∷ name) = found_at (lookup lists (b ∷ name))

unfoldable pub target_of : Lists → List ℕ → Result (Option ℕ) Failure
target_of lists meta = target_by lists (partition_field meta)

-- the metadata are stored and valid, with a target or without, and counts and results start anew
abbrev pub anew : List ℕ → Bool → ℕ → Update → Update
anew meta aimed target u =
    record { meta = meta; valid = true; aimed = aimed; target = target; written = 0; crc = 0; burn = 0; run = 0; left = u.left }

-- the metadata are stored and valid, all else stays
abbrev pub stored : List ℕ → Update → Update
stored meta u =
    record {
      meta = meta;
      valid = true;
      aimed = u.aimed;
      target = u.target;
      written = u.written;
      crc = u.crc;
      burn = u.burn;
      run = u.run;
      left = u.left;
    }

-- an unknown partition fails, and the OLD target, counts and results stay
abbrev pub aimed_at : List ℕ → Update → Result (Option ℕ) Failure → Update
aimed_at meta u (Ok None) = anew meta false 0 u
aimed_at meta u (Ok (Some o)) = anew meta true o u
aimed_at meta u (Err e) = stored meta u

abbrev pub answer_to : Result (Option ℕ) Failure → Answer
answer_to (Ok t) = ok []
answer_to (Err e) = fail

unfoldable pub aims : Lists → List ℕ → World → Ran
aims lists meta w =
    ran (answer_to (target_of lists meta)) (at_e (with_up (aimed_at meta w.e.up (target_of lists meta)) w.e) w)

-- 512 bytes at least, of which the last 512 count; `META`; a flush; then the target
abbrev pub is_meta : List ℕ → Bool
is_meta meta = same (take 4 meta) (ascii "META")

unfoldable pub set_meta : Lent → Lists → List ℕ → World → Ran
set_meta l lists bytes w =
    let meta = drop (length bytes - 512) bytes in
    cond (nat_le 512 (length bytes))
    (cond (is_meta meta) (after_flush w (aims lists meta) (flushing l (dev_of w))) (ran fail w))
    (ran fail w)
