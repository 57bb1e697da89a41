-- Laws of the commands over the storage.
use Rattle.std.proofs.Common.{◌≡◌, ℕ, ◌+◌, ◌-◌, ◌≤◌, min, Bool, true, false, cond, List, [], ◌∷◌, length, take, drop, replicate, Option, Some, None, Result, Ok, Err, refl, ap, ◌∙◌, ◌++◌, arith, length-append, length-take-le, le-leb}
use Rattle.std.proofs.lemmas.List.{take-replicate}
use lib.ListN.{length-replicate}
use lib.Seq.{take-append-le}
use Rattle.text.specs.Utf8.{is_utf8}
use Rattle.text.specs.Token.{until}
use Rattle.wire.specs.Bytes.{bytes_of, laid}
use Rattle.storage.specs.World.{Lent, Dev, Seen, told}
use Rattle.storage.specs.Store.{flushing, reading}
use Rattle.storage.specs.Partition.{Lists, lookup}
use Rattle.storage.specs.declared.types.CallError.{CallError}
use Rattle.engine.specs.declared.types.Failure.{Failure}
use Rattle.engine.specs.declared.types.Failure.TheVariants.{Failed}
use Rattle.engine.specs.World.{World, with_up, at_e, at_reply, dev_of, at_dev}
use Rattle.engine.specs.Reply.{ok, ended_by, gone, ran, going}
use Rattle.engine.specs.Storing.{probed, crc_query, read_fwc, stored, partition_field, found_at, target_by, target_of, aimed_at, answer_to, aims, is_meta, set_meta}
use Rattle.storage.proofs.Scratches.{reading_count}
use Rattle.engine.specs.Command.{pair_of}
use Rattle.engine.proofs.Told.{gone_none, flush_done}

-- ---- GET_FWC_CRC: the bytes at the target are read, or there is none

-- the bytes read touch no reply
pub probed_reply : (l : Lent) (r : List ℕ) (w : World) → probed l (at_reply r w) ≡ at_reply r (probed l w)
unfolding probed
probed_reply l r w = go w.e.up.aimed
  where
    s : Seen
    s = reading l w.e.up.target (replicate 16 0) (dev_of w)

    go : (b : Bool) → cond b (at_dev s.told.dev (at_reply r w)) (at_reply r w) ≡ at_reply r (cond b (at_dev s.told.dev w) w)
    go true = refl
    go false = refl

pub probed_same : (l : Lent) (w : World) → (probed l w).reply ≡ w.reply
unfolding probed
probed_same l w = go w.e.up.aimed
  where
    s : Seen
    s = reading l w.e.up.target (replicate 16 0) (dev_of w)

    go : (b : Bool) → (cond b (at_dev s.told.dev w) w).reply ≡ w.reply
    go true = refl
    go false = refl

-- ---- SET_FWC_META

module _ (lists : Lists) (meta : List ℕ) {f : List ℕ} (p : f ≡ until 0 (take 64 (drop 0x48 meta))) where
  pub target_found : (length f ≡ 0 → ⊥) → is_utf8 f ≡ true → {r : Result (Option ℕ) CallError} → r ≡ lookup lists f → found_at r ≡ target_of lists meta
  unfolding target_of partition_field
  target_found h k q = rw (← p, k, q) (go f h)
    where
      go : (g : List ℕ) → (length g ≡ 0 → ⊥) → found_at (lookup lists g) ≡ target_by lists g
      go [] z = absurd (z refl)
      go (b ∷ g) z = refl

target_gone : (t : Result (Option ℕ) Failure) (w : World) → gone (ended_by (answer_to t)) w ≡ going (ran (answer_to t) w)
target_gone (Ok o) w = gone_none w
target_gone (Err e) w = refl

pub aims_told : (lists : Lists) (meta : List ℕ) (w : World) {t : Result (Option ℕ) Failure} → t ≡ target_of lists meta
    → gone (ended_by (answer_to t)) (at_e (with_up (aimed_at meta w.e.up t) w.e) w) ≡ going (aims lists meta w)
unfolding aims
aims_told lists meta w {t} p =
    target_gone t (at_e (with_up (aimed_at meta w.e.up t) w.e) w)
    ∙ ap (λ (u : Result (Option ℕ) Failure). going (ran (answer_to u) (at_e (with_up (aimed_at meta w.e.up u) w.e) w))) p

-- the failure of an unknown partition
target_err : (lists : Lists) (meta : List ℕ) {f : Failure} → Err f ≡ target_of lists meta → Failed ≡ f
unfolding target_of
target_err lists meta p = go (partition_field meta) p
  where
    by : (r : Result (Option ℕ) CallError) {f : Failure} → Err f ≡ found_at r → Failed ≡ f
    by (Ok (Some o)) q = absurd (let z : ◌≡◌ {A = ℕ} 0 1 = cc in omega arith)
    by (Ok None) q = cc
    by (Err e) q = cc

    go : (name : List ℕ) {f : Failure} → Err f ≡ target_by lists name → Failed ≡ f
    go [] q = absurd (let z : ◌≡◌ {A = ℕ} 0 1 = cc in omega arith)
    go (b ∷ name) q = by (lookup lists (b ∷ name)) q

-- a field that is not UTF-8 is no target, and no failure
pub target_bad : (lists : Lists) (meta : List ℕ) {f : List ℕ} → f ≡ until 0 (take 64 (drop 0x48 meta)) → is_utf8 f ≡ false → Ok None ≡ target_of lists meta
unfolding target_of partition_field
target_bad lists meta p h = rw (← p, h)

module _ (lists : Lists) (meta : List ℕ) (w : World) where
  pub aims_failed : {f : Failure} {r : Result ℕ Failure} → Err f ≡ target_of lists meta → r ≡ Err f
      → gone r (at_e (with_up (stored meta w.e.up) w.e) w) ≡ going (aims lists meta w)
  aims_failed {f} p k = rw (k, ← target_err lists meta p) (aims_told lists meta w p)

module _ (l : Lent) (lists : Lists) (bytes : List ℕ) (w : World) where
  module _ {meta : List ℕ} (h : 512 ≤ length bytes) (m : meta ≡ drop (length bytes - 512) bytes) where
    module _ (k : is_meta meta ≡ true) {v : World} {d : Dev} (a : v ≡ at_dev d w) where
      pub meta_done : told 0 0 d ≡ flushing l (dev_of w) → going (aims lists meta v) ≡ going (set_meta l lists bytes w)
      unfolding set_meta
      meta_done p = rw (le-leb 512 (length bytes) h, ← m, k) (flush_done l w v (aims lists meta) p a)

-- ---- GET_FWC_CRC: a flush first

module _ (l : Lent) (w : World) {v : World} {d : Dev} (a : v ≡ at_dev d w) where
  pub crc_told : told 0 0 d ≡ flushing l (dev_of w) → {y r : List ℕ} {u : World} → y ≡ bytes_of 4 v.e.up.crc → r ≡ laid v.reply 16 y
      → u ≡ probed l (at_reply r v) → gone (Ok 4) u ≡ going (crc_query l w)
  unfolding crc_query bytes_of
  crc_told p {y} {r} {u} h k q =
      let z : gone (Ok 4) u ≡ going (ran (ok (bytes_of 4 v.e.up.crc)) (probed l v)) = rw (q, probed_reply l r v, k, h, probed_same l v) in
      z ∙ flush_done l w v (λ x. ran (ok (bytes_of 4 x.e.up.crc)) (probed l x)) p a

-- ---- READ_FWC_DATA

-- a room of zeros
abbrev zeros : ℕ → List ℕ
zeros n = replicate n 0

-- the first n bytes of a room of 512 zeros were lent to a read
module _ (l : Lent) (off n : ℕ) (d : Dev) {s : Seen} (m : n ≤ 512) (q : s ≡ reading l off (take n (zeros 512)) d) where
  seen_zeros : s ≡ reading l off (zeros n) d
  seen_zeros = q ∙ ap (λ (r : List ℕ). reading l off r d) (take-replicate n 512 0 m)

  pub read_few : s.told.count ≤ n
  read_few =
      let h = reading_count l off (zeros n) d seen_zeros in
      let k : length (zeros n) ≡ n = length-replicate n 0 in
      omega arith

  module _ (z : length s.room ≡ length (take n (zeros 512))) where
    read_room : s.told.count ≤ length s.room
    read_room =
        let h = reading_count l off (take n (zeros 512)) d q in
        omega arith

    pub read_part : (rest : List ℕ) → s.told.count ≤ length (s.room ++ rest)
    read_part rest =
        let h = read_room in
        let k : length (s.room ++ rest) ≡ length s.room + length rest = length-append s.room rest in
        omega arith

    -- the front of the room is that of the part
    read_front : (rest : List ℕ) → take s.told.count (s.room ++ rest) ≡ take s.told.count s.room
    read_front rest = take-append-le s.told.count s.room rest read_room

module _ (l : Lent) (bytes : List ℕ) (w : World) where
  pub fwc_told : (rest : List ℕ) {off len n : ℕ} {s : Seen} {v : World} {r : List ℕ} → pair_of bytes ≡ Some (off, len) → n ≡ min len 512
      → s ≡ reading l off (take n (zeros 512)) (dev_of w) → length s.room ≡ length (take n (zeros 512))
      → v ≡ at_dev s.told.dev w
      → r ≡ laid v.reply 16 (take s.told.count (s.room ++ rest))
      → gone (Ok s.told.count) (at_reply r v) ≡ going (read_fwc l bytes w)
  unfolding read_fwc
  fwc_told rest {off} {len} {n} {s} {v} {r} p m q z a b =
      let k : n ≤ 512 = omega arith in
      let d = dev_of w in
      rw (b, a, read_front l off n d k q z rest, p, ← m, ← seen_zeros l off n d k q, length-take-le s.told.count s.room (read_room l off n d k q z))
