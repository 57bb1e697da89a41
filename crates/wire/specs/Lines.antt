-- Of 01's twelve lines, those that these definitions show by computing.
use Rattle.std.specs.Prelude.{◌≡◌, [], ◌∷◌, refl}
use Rattle.wire.specs.Crc.{◌⊕◌, shift, shifts, byte_in, crc_from, complement, crc_update, crc32}
use Rattle.wire.specs.Header.{request_magic, reply_magic, checksum_of}

-- the reply to FREE_MEM_BUF
pub p2 : checksum_of reply_magic 0x09 0 0 ≡ 0x52505156
unfolding checksum_of
p2 = refl

-- the reply to command 0x06
pub p3 : checksum_of reply_magic 0x06 1 108 ≡ 0x534D51C2
unfolding checksum_of
p3 = refl

-- the fail reply to READ
pub p4 : checksum_of reply_magic 0x03 1 0 ≡ 0x534A5156
unfolding checksum_of
p4 = refl

-- the odd reply
pub p5 : checksum_of 0 0x01 0 0 ≡ 0x00010101
unfolding checksum_of
p5 = refl

-- SEND_FWC_DATA with length 2^32-1
pub p6 : checksum_of request_magic 0x12 0 0xFFFFFFFF ≡ 0x43595155
unfolding checksum_of
p6 = refl

-- the reply with NOR's block size
pub p7 : checksum_of reply_magic 0x11 0 4 ≡ 0x5258515A
unfolding checksum_of
p7 = refl

-- the checksum of `123456789`
pub p8 : crc32 (0x31 ∷ 0x32 ∷ 0x33 ∷ 0x34 ∷ 0x35 ∷ 0x36 ∷ 0x37 ∷ 0x38 ∷ 0x39 ∷ []) ≡ 0xCBF43926
unfolding ◌⊕◌ shift shifts byte_in crc_from complement crc_update crc32
p8 = refl

-- the checksum of nothing
pub p9 : crc32 [] ≡ 0
unfolding ◌⊕◌ shift shifts byte_in crc_from complement crc_update crc32
p9 = refl
