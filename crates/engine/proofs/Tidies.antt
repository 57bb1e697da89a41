-- What every command keeps, whatever it does: the request, the reply room (the answer is laid there afterwards), the frame's numbers,
-- and the update record's bounds. And no answer has more data than a reply takes.
use Rattle.std.proofs.Common.{◌≡◌, ℕ, ◌+◌, ◌-◌, ◌^◌, ◌≤◌, min, Bool, true, false, cond, ◌&&◌, eqb, leb, Option, None, Some, Result, Ok, Err, List, [], ◌∷◌, length, take, drop, replicate, refl, ◌∙◌, arith, length-take, leb-true}
use Rattle.std.proofs.lemmas.Bool.{cond_both, and_parts}
use lib.ListN.{length-replicate}
use Rattle.text.specs.Utf8.{is_utf8}
use Rattle.text.specs.Token.{same}
use Rattle.wire.specs.Bytes.{bytes_of, word_at}
use Rattle.storage.specs.World.{Lent, Dev, Told}
use Rattle.storage.specs.Store.{flushing, erasing, reading}
use Rattle.storage.specs.Open.{is_nand, block_size_of}
use Rattle.storage.specs.Scratch.{from_scratch, into_scratch}
use Rattle.storage.specs.Partition.{Lists, Part, total, part_ok, all, parts, lists_ok, find, wanted, lookup}
use Rattle.storage.specs.declared.types.CallError.{CallError}
use Rattle.storage.specs.declared.types.CallError.TheVariants.{Refused}
use Rattle.storage.proofs.Scratches.{reading_count}
use Rattle.engine.specs.declared.exec.Group.{Group}
use Rattle.engine.specs.declared.exec.Group.TheVariants as group
use Rattle.engine.specs.declared.command.Short.{Short}
use Rattle.engine.specs.declared.command.Short.TheVariants as short
use Rattle.engine.specs.declared.types.Failure.{Failure}
use Rattle.engine.specs.declared.shell.Line.{Line}
use Rattle.engine.specs.declared.shell.Line.TheVariants as line
use Rattle.engine.specs.declared.shell.Window.{Window}
use Rattle.engine.specs.World.{Given, World, with_up, at_e, at_scratch, dev_of, at_dev}
use Rattle.engine.specs.Reply.{Answer, ok, fail, odd, sent, whether, Ran, ran}
use Rattle.engine.specs.Command.{table_text, short_of, long_by, long_of, plain_by, plain, pair_of, inside, read_by, read_of, wrote, write_by, write_of}
use Rattle.engine.specs.Storing.{after_flush, end_upgrade, probed, crc_query, read_fwc_by, read_fwc, erased_by, erase_storage, partition_field, found_at, target_by, target_of, aimed_at, answer_to, aims, is_meta, set_meta}
use Rattle.engine.specs.Running.{run_erase, run_write, run_read, run_boot, run_by, run_line, shell_by, shell}
use Rattle.engine.specs.Shell.{line_of, window_of, text_of}
use Rattle.engine.specs.Exec.{group_of, memory, storing, runs_by, runs}
use Rattle.engine.specs.Stream.{UpFit}
use Rattle.engine.proofs.Replies.{Brief}
use Rattle.engine.proofs.Commands.{hwinfo_length, media_length, geometry_length}

-- ---- what is kept

pub record Keeps (w v : World) : Type 0 where
  pub request : v.request ≡ w.request
  pub reply : v.reply ≡ w.reply
  pub frame : v.e.frame ≡ w.e.frame
  pub up : UpFit w.e.up → UpFit v.e.up

pub record Tidy (w : World) (r : Ran) : Type 0 where
  pub keeps : Keeps w r.w
  pub brief : Brief r.answer

keeps_refl : (w : World) → Keeps w w
keeps_refl w = record { request = refl; reply = refl; frame = refl; up = λ h. h }

-- another store, another scratch, other flags
dev_keeps : (d : Dev) (w : World) → Keeps w (at_dev d w)
dev_keeps d w = record { request = refl; reply = refl; frame = refl; up = λ h. h }

scratch_keeps : (x : List ℕ) (w v : World) → Keeps w v → Keeps w (at_scratch x v)
scratch_keeps x w v k = record { request = k.request; reply = k.reply; frame = k.frame; up = k.up }

tidy : (a : Answer) (w v : World) → Keeps w v → Brief a → Tidy w (ran a v)
tidy a w v k h = record { keeps = k; brief = h }

pub whether_brief : (b : Bool) → Brief (whether b)
whether_brief true = omega arith
whether_brief false = tt

sent_brief : (xs : List ℕ) → Brief (sent xs)
unfolding sent
sent_brief xs = go (leb (length xs) 4096) refl
  where
    go : (b : Bool) → leb (length xs) 4096 ≡ b → Brief (cond b (ok xs) odd)
    go true e = leb-true (length xs) 4096 e
    go false e = tt

-- ---- the commands that need no storage call

text_brief : (t : List ℕ) → Brief (table_text t)
text_brief [] = tt
text_brief (x ∷ xs) = sent_brief (x ∷ xs)

long_brief : (c : ℕ) (w : World) (table : List ℕ) → Brief (long_of c w.e table)
unfolding long_by long_of
long_brief c w t =
    cond_both (eqb c 0x00) _ _ Brief (λ _. omega (arith, hwinfo_length w.e.store.shape.stage)) (λ _. cond_both (eqb c 0x16) _ _ Brief (λ _. omega (arith, media_length (is_nand w.e.store) w.e.store.shape.device)) (λ _. cond_both (eqb c 0x17) _ _ Brief (λ _. text_brief t) (λ _. cond_both (eqb c 0x1A) _ _ Brief (λ _. omega (arith, geometry_length w.e.store.shape.capacity (block_size_of w.e.store))) (λ _. tt))))

plain_brief : (c : ℕ) (w : World) (table : List ℕ) → Brief (plain c w.e table)
unfolding plain bytes_of
plain_brief c w t = go (short_of c w.e)
  where
    go : (s : Short) → Brief (plain_by c w.e t s)
    go short.Empty = omega arith
    go (short.Word x) = omega arith
    go short.Other = long_brief c w t

read_brief : (base : ℕ) (x d : List ℕ) → Brief (read_of base x d)
unfolding read_of
read_brief base x d = go (pair_of d)
  where
    go : (p : Option (ℕ × ℕ)) → Brief (read_by base x p)
    go None = tt
    go (Some (addr, len)) =
        cond_both (inside base (length x) addr len) _ _ Brief (λ _. cond_both (leb len 4112) _ _ Brief (λ _. sent_brief (take len (drop (addr - base) x))) (λ _. omega arith)) (λ _. tt)

write_brief : (base : ℕ) (x d : List ℕ) → Brief (write_of base x d).answer
unfolding write_of
write_brief base x d = go (pair_of d)
  where
    wrote_brief : (b : Bool) (y z : List ℕ) → Brief (cond b (wrote (ok []) y) (wrote fail z)).answer
    wrote_brief true y z = omega arith
    wrote_brief false y z = tt

    go : (p : Option (ℕ × ℕ)) → Brief (write_by base x d p).answer
    go None = tt
    go (Some (addr, len)) = wrote_brief (leb len (length d - 8) && inside base (length x) addr len) _ x

memory_tidy : (c : ℕ) (d : List ℕ) (w : World) → Tidy w (memory c d w)
unfolding memory
memory_tidy c d w =
    cond_both (eqb c 0x02) _ _ (Tidy w)
    (λ _. tidy _ w _ (scratch_keeps (write_of w.e.base w.scratch d).scratch w w (keeps_refl w)) (write_brief w.e.base w.scratch d))
    (λ _. tidy _ w w (keeps_refl w) (read_brief w.e.base w.scratch d))

-- ---- the commands over the storage

flush_tidy : (l : Lent) (w : World) (next : World → Ran) → ((d : Dev) → Tidy w (next (at_dev d w))) → (t : Told) → Tidy w (after_flush w next t)
flush_tidy l w next h t = cond_both (eqb t.status 0) _ _ (Tidy w)
    (λ _. h t.dev)
    (λ _. tidy fail w _ (dev_keeps t.dev w) tt)

probed_keeps : (l : Lent) (w v : World) → Keeps w v → Keeps w (probed l v)
unfolding probed
probed_keeps l w v k = go v.e.up.aimed
  where
    u : World
    u = at_dev (reading l v.e.up.target (replicate 16 0) (dev_of v)).told.dev v

    go : (b : Bool) → Keeps w (cond b u v)
    go true = record { request = k.request; reply = k.reply; frame = k.frame; up = k.up }
    go false = k

-- a partition that row 12 takes starts at 2^31 at most
part_most : (p : Part) → part_ok p ≡ true → p.offset ≤ 2 ^ 31
unfolding part_ok
part_most p h =
    let a = and_parts (leb (length p.name) 64) _ h in
    let b = and_parts (is_utf8 p.name) _ a.1 in
    omega (arith, leb-true (p.offset + p.size) (2 ^ 31) b.1)

find_most : (name : List ℕ) (ps : List Part) (o : ℕ) → all ps ≡ true → find name ps ≡ Some o → o ≤ 2 ^ 31
unfolding all find
find_most name [] o = λ a f. let z : ◌≡◌ {A = ℕ} 0 1 = cc in absurd (omega arith)
find_most name (p ∷ ps) o = go (part_ok p) (same p.name name) refl (find_most name ps o)
  where
    go : (b t : Bool) → part_ok p ≡ b → (all ps ≡ true → find name ps ≡ Some o → o ≤ 2 ^ 31) → (b && all ps) ≡ true
        → cond t (Some p.offset) (find name ps) ≡ Some o → o ≤ 2 ^ 31
    go true true e r a f = let h = part_most p e in let q : p.offset ≡ o = cc in omega arith
    go true false e r a f = r a f
    go false t e r a f = let z : ◌≡◌ {A = ℕ} 0 1 = cc in absurd (omega arith)

lists_all : (l : Lists) → lists_ok l ≡ true → all (parts l) ≡ true
unfolding lists_ok
lists_all l h =
    let a = and_parts (leb (length l.offsets) 32) _ h in
    let b = and_parts (eqb (length l.sizes) (length l.offsets)) _ a.1 in
    let c = and_parts (eqb (length l.lens) (length l.offsets)) _ b.1 in
    (and_parts (eqb (total l.lens) (length l.names)) _ c.1).1

pub lookup_most : (l : Lists) (name : List ℕ) (o : ℕ) → lookup l name ≡ Ok (Some o) → o ≤ 2 ^ 31
unfolding lookup
lookup_most l name o = go (lists_ok l) (is_utf8 name) refl
  where
    go : (a b : Bool) → lists_ok l ≡ a → cond a (Ok (cond b (find (wanted name) (parts l)) None)) (Err Refused) ≡ Ok (Some o) → o ≤ 2 ^ 31
    go true true e f = let q : find (wanted name) (parts l) ≡ Some o = cc in find_most (wanted name) (parts l) o (lists_all l e) q
    go true false e f = let z : ◌≡◌ {A = ℕ} 0 1 = cc in absurd (omega arith)
    go false b e f = let z : ◌≡◌ {A = ℕ} 0 1 = cc in absurd (omega arith)

target_most : (l : Lists) (meta : List ℕ) (o : ℕ) → target_of l meta ≡ Ok (Some o) → o ≤ 2 ^ 31
unfolding target_of
target_most l meta o = go (partition_field meta)
  where
    by : (name : List ℕ) (f : Result (Option ℕ) CallError) → lookup l name ≡ f → found_at f ≡ Ok (Some o) → o ≤ 2 ^ 31
    by name (Ok (Some p)) e t = let q : p ≡ o = cc in rw (← q) (lookup_most l name p e)
    by name (Ok None) e t = let z : ◌≡◌ {A = ℕ} 0 1 = cc in absurd (omega arith)
    by name (Err x) e t = let z : ◌≡◌ {A = ℕ} 0 1 = cc in absurd (omega arith)

    go : (f : List ℕ) → target_by l f ≡ Ok (Some o) → o ≤ 2 ^ 31
    go [] t = let z : ◌≡◌ {A = ℕ} 0 1 = cc in absurd (omega arith)
    go (x ∷ xs) t = by (x ∷ xs) (lookup l (x ∷ xs)) refl t

aims_tidy : (l : Lists) (meta : List ℕ) (w v : World) → Keeps w v → Tidy w (aims l meta v)
unfolding aims
aims_tidy l meta w v k = go (target_of l meta) refl
  where
    go : (t : Result (Option ℕ) Failure) → target_of l meta ≡ t → Tidy w (ran (answer_to t) (at_e (with_up (aimed_at meta v.e.up t) v.e) v))
    go (Ok None) e = tidy _ w _ (record { request = k.request; reply = k.reply; frame = k.frame; up = λ h. (omega (arith, (k.up h).0), omega arith) }) (omega arith)
    go (Ok (Some o)) e =
        tidy _ w _ (record { request = k.request; reply = k.reply; frame = k.frame; up = λ h. (omega (arith, (k.up h).0), target_most l meta o e) }) (omega arith)
    go (Err x) e = tidy _ w _ (record { request = k.request; reply = k.reply; frame = k.frame; up = k.up }) tt

read_tidy : (l : Lent) (d : List ℕ) (w : World) → Tidy w (read_fwc l d w)
unfolding read_fwc
read_tidy l d w = go (pair_of d)
  where
    go : (p : Option (ℕ × ℕ)) → Tidy w (read_fwc_by l w p)
    go None = tidy fail w w (keeps_refl w) tt
    go (Some (off, len)) =
        let s = reading l off (replicate (min len 512) 0) (dev_of w) in
        let n = reading_count l off (replicate (min len 512) 0) (dev_of w) {s = s} refl in
        let m : length {A = ℕ} (replicate (min len 512) 0) ≡ min len 512 = length-replicate {A = ℕ} (min len 512) 0 in
        let k : length (take s.told.count s.room) ≡ min s.told.count (length s.room) = length-take s.told.count s.room in
        tidy _ w _ (dev_keeps s.told.dev w) (omega arith)

-- four bytes, or none
word_brief : (x : ℕ) → Brief (ok (bytes_of 4 x))
unfolding bytes_of
word_brief x = omega arith

none_brief : Brief (ok [])
none_brief = omega arith

module _ (l : Lent) (w : World) where
  end_tidy : Tidy w (end_upgrade l w)
  unfolding end_upgrade
  end_tidy = flush_tidy l w (ran (ok [])) (λ v. tidy (ok []) w (at_dev v w) (dev_keeps v w) none_brief) (flushing l (dev_of w))

  crc_tidy : Tidy w (crc_query l w)
  unfolding crc_query
  crc_tidy =
      flush_tidy l w (λ v. ran (ok (bytes_of 4 v.e.up.crc)) (probed l v))
      (λ v. tidy (ok (bytes_of 4 w.e.up.crc)) w (probed l (at_dev v w)) (probed_keeps l w (at_dev v w) (dev_keeps v w)) (word_brief w.e.up.crc)) (flushing l (dev_of w))

  erased_tidy : (d : List ℕ) → Tidy w (erase_storage l d w)
  unfolding erase_storage
  erased_tidy d =
      let e : World → Told = λ v. erasing l (word_at 8 d 0) (word_at 8 d 8) (dev_of v) in
      cond_both (leb 24 (length d)) (after_flush w (λ v. erased_by v (e v)) (flushing l (dev_of w))) (ran fail w) (Tidy w)
      (λ _. flush_tidy l w (λ v. erased_by v (e v)) (λ v. tidy _ w (at_dev (e (at_dev v w)).dev w) (dev_keeps (e (at_dev v w)).dev w) (whether_brief (eqb (e (at_dev v w)).status 0)))
      (flushing l (dev_of w)))
      (λ _. tidy fail w w (keeps_refl w) tt)

  meta_tidy : (s : Lists) (d : List ℕ) → Tidy w (set_meta l s d w)
  unfolding set_meta
  meta_tidy s d =
      let m = drop (length d - 512) d in
      let f = after_flush w (aims s m) (flushing l (dev_of w)) in
      cond_both (leb 512 (length d)) (cond (is_meta m) f (ran fail w)) (ran fail w) (Tidy w)
      (λ _. cond_both (is_meta m) f (ran fail w) (Tidy w)
      (λ _. flush_tidy l w (aims s m) (λ v. aims_tidy s m w (at_dev v w) (dev_keeps v w)) (flushing l (dev_of w)))
      (λ _. tidy fail w w (keeps_refl w) tt))
      (λ _. tidy fail w w (keeps_refl w) tt)

storing_tidy : (g : Given) (c : ℕ) (d : List ℕ) (w : World) → Tidy w (storing g c d w)
unfolding storing
storing_tidy g c d w =
    let l = g.lent in
    let e = erase_storage l d w in
    let r = cond (eqb c 0x18) (read_fwc l d w) e in
    let q = cond (eqb c 0x13) (crc_query l w) r in
    let m = cond (eqb c 0x10) (set_meta l g.lists d w) q in
    cond_both (eqb c 0x0B) (end_upgrade l w) m (Tidy w)
    (λ _. end_tidy l w)
    (λ _. cond_both (eqb c 0x10) (set_meta l g.lists d w) q (Tidy w)
    (λ _. meta_tidy l w g.lists d)
    (λ _. cond_both (eqb c 0x13) (crc_query l w) r (Tidy w)
    (λ _. crc_tidy l w)
    (λ _. cond_both (eqb c 0x18) (read_fwc l d w) e (Tidy w)
    (λ _. read_tidy l d w)
    (λ _. erased_tidy l w d))))

-- ---- the shell

-- a world that keeps what another keeps
like : {w v u : World} → Keeps w v → u.request ≡ v.request → u.reply ≡ v.reply → u.e.frame ≡ v.e.frame → u.e.up ≡ v.e.up → Keeps w u
like k a b c d = record { request = a ∙ k.request; reply = b ∙ k.reply; frame = c ∙ k.frame; up = λ h. rw d (k.up h) }

module _ (l : Lent) (w v : World) (k : Keeps w v) where
  erase_tidy : (start size : ℕ) → Tidy w (run_erase l start size v)
  unfolding run_erase
  erase_tidy start size = tidy _ w _ (like k refl refl refl refl) (whether_brief (eqb (erasing l start size (dev_of v)).status 0))

  write_tidy : (off : ℕ) (x : Option Window) → Tidy w (run_write l off x v)
  unfolding run_write
  write_tidy off None = tidy fail w v k tt
  write_tidy off (Some x) =
      let t = from_scratch l off x.place x.len v.scratch (dev_of v) in
      let u = at_dev t.dev v in
      let f = flushing l (dev_of u) in
      cond_both (eqb t.count x.len) (ran (whether (eqb f.status 0)) (at_dev f.dev u)) (ran fail u) (Tidy w)
      (λ _. tidy _ w _ (like k refl refl refl refl) (whether_brief (eqb f.status 0)))
      (λ _. tidy fail w u (like k refl refl refl refl) tt)

  take_tidy : (off : ℕ) (x : Option Window) → Tidy w (run_read l off x v)
  unfolding run_read
  take_tidy off None = tidy fail w v k tt
  take_tidy off (Some x) =
      tidy _ w _ (like k refl refl refl refl) (whether_brief (eqb (into_scratch l off x.place x.len v.scratch (dev_of v)).told.count x.len))

  boot_tidy : (x : Option Window) → Tidy w (run_boot x v)
  unfolding run_boot
  boot_tidy None = tidy fail w v k tt
  boot_tidy (Some x) = tidy _ w _ (like k refl refl refl refl) (omega arith)

  line_tidy : (x : Option Line) → Tidy w (run_by l v x)
  line_tidy None = tidy fail w v k tt
  line_tidy (Some line.Done) = tidy _ w v k (omega arith)
  line_tidy (Some (line.Erase start size)) = erase_tidy start size
  line_tidy (Some (line.Write off len addr)) = write_tidy off (window_of v.e.base (length v.scratch) addr len)
  line_tidy (Some (line.Read off len addr)) = take_tidy off (window_of v.e.base (length v.scratch) addr len)
  line_tidy (Some (line.Boot addr len)) = boot_tidy (window_of v.e.base (length v.scratch) addr len)

text_tidy : (l : Lent) (d : List ℕ) (w : World) (x : Option ℕ) → Tidy w (shell_by l d w x)
unfolding run_line
text_tidy l d w None = tidy fail w w (keeps_refl w) tt
text_tidy l d w (Some n) = line_tidy l w _ (like (keeps_refl w) refl refl refl refl) (line_of (take n (drop 4 d)))

shell_tidy : (l : Lent) (d : List ℕ) (w : World) → Tidy w (shell l d w)
unfolding shell
shell_tidy l d w = text_tidy l d w (text_of d)

-- ---- every command

pub runs_tidy : (g : Given) (c : ℕ) (d : List ℕ) (w : World) → Tidy w (runs g c d w)
unfolding runs
runs_tidy g c d w = go (group_of c)
  where
    go : (x : Group) → Tidy w (runs_by g c d w x)
    go group.Memory = memory_tidy c d w
    go group.Shell = shell_tidy g.lent d w
    go group.Storage = storing_tidy g c d w
    go group.Plain = tidy _ w w (keeps_refl w) (plain_brief c w g.table)
