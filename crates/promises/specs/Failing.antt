-- Where a command does not answer OK, by its tests. A command tests in an order, and OK needs all of its tests. So it fails where they do
-- not hold together, whichever of them fails first: each lemma takes that the tests of its command lead to nothing, or to a failure, and
-- gives the fail reply (`write_fails` and its like); `read_odd` and `table_odd` take the tests that give the odd reply.
-- Gives.antt refutes a test by each row of Why.antt.
use Rattle.std.specs.Prelude.{◌≡◌, Option, None, Some, Result, Ok, Err, Bool, true, false, ◌&&◌, ℕ, ◌+◌, ◌-◌, ◌≤◌, ◌<◌, leb, eqb, take, drop}
use Rattle.std.proofs.Math.Path.{refl, ap}
use Rattle.std.proofs.Common.{◌∙◌, arith}
use Rattle.std.proofs.Math.Bool.{cond}
use mathlib.Core.List.{List, [], ◌∷◌}
use borrow.Author.Tests.{eqb-true, leb-true, le-leb, lt-leb}
use Rattle.std.proofs.Math.ListN.{length, length-drop}
use Rattle.std.proofs.Math.Seq.{length-take-le}
use Rattle.text.specs.Utf8.{is_utf8}
use Rattle.wire.specs.Bytes.{bytes_of, word_at}
use Rattle.storage.specs.World.{Told}
use Rattle.storage.specs.Store.{flushing, erasing}
use Rattle.storage.specs.Partition.{lookup}
use Rattle.storage.specs.declared.types.CallError.{CallError}
use Rattle.engine.specs.declared.shell.Line.{Line}
use Rattle.engine.specs.declared.shell.Line.TheVariants as line
use Rattle.engine.specs.World.{Given, World, dev_of, at_dev}
use Rattle.engine.specs.Reply.{Answer, ok, fail, odd, sent, whether, Ran, ran}
use Rattle.engine.specs.Command.{table_text, inside, read_by, read_of, Wrote, wrote, write_by, write_of}
use Rattle.engine.specs.Storing.{after_flush, end_upgrade, crc_query, probed, read_fwc_by, read_fwc, erased_by, erase_storage, partition_field, found_at, target_by, target_of, answer_to, aims, is_meta, set_meta}
use Rattle.engine.specs.Shell.{line_of, window_of}
use Rattle.engine.specs.Running.{run_erase, run_write, run_read, run_boot, run_by, run_line, shell_by, shell}
use Rattle.promises.specs.Why.{line_in, Off, cut_to, out_told, in_told, OutWhy, InWhy, RunWhy, Beyond, meta_in, out_window, out_short, out_flush, in_window, in_short}
use Rattle.promises.specs.Picked.{picked, and_both}
use Rattle.promises.specs.Answers.{pair_says, beyond, not_beyond, window_says, asks}

-- OK with no data, or a fail reply
whether_fails : (b : Bool) → (b ≡ true → ⊥) → whether b ≡ fail
whether_fails true h = absurd (h refl)
whether_fails false h = refl

-- a test says one of the two
pub not_both : (b : Bool) → b ≡ true → b ≡ false → ⊥
not_both b h k = let z : ◌≡◌ {A = ℕ} 0 1 = cc in omega arith

-- a command failed
abbrev pub Failed : Ran → Type 0
Failed r = r.answer ≡ fail

module _ (g : Given) (c : ℕ) (bytes : List ℕ) (w : World) where
  -- the first two words: address and length of READ and WRITE; for the shell the first is the length of its line
  abbrev a : ℕ
  a = word_at 4 bytes 0

  abbrev m : ℕ
  m = word_at 4 bytes 4

  -- ---- scratch

  -- WRITE: "first eight payload bytes give address and length, or the command is refused; the window must lie inside scratch"
  pub write_fails : (8 ≤ length bytes → m ≤ length bytes - 8 → (Beyond w a m → ⊥) → ⊥) → (write_of w.e.base w.scratch bytes).answer ≡ fail
  unfolding write_of
  write_fails h = pair_says g c bytes w (λ p. (write_by w.e.base w.scratch bytes p).answer ≡ fail) both (λ i. refl)
    where
      both : 8 ≤ length bytes → (write_by w.e.base w.scratch bytes (Some (a, m))).answer ≡ fail
      both i =
          picked (λ (r : Wrote). r.answer ≡ fail) (leb m (length bytes - 8) && inside w.e.base (length w.scratch) a m) _ (wrote fail w.scratch)
          (λ e. let k = and_both (leb m (length bytes - 8)) _ e in absurd (h i (leb-true m (length bytes - 8) k.0) (not_beyond g c bytes w a m k.1))) (λ e. refl)

  -- READ, as WRITE
  pub read_fails : (8 ≤ length bytes → (Beyond w a m → ⊥) → ⊥) → read_of w.e.base w.scratch bytes ≡ fail
  unfolding read_of
  read_fails h =
      pair_says g c bytes w (λ p. read_by w.e.base w.scratch p ≡ fail)
      (λ i. picked (λ (x : Answer). x ≡ fail) (inside w.e.base (length w.scratch) a m) _ fail (λ e. absurd (h i (not_beyond g c bytes w a m e))) (λ e. refl))
      (λ i. refl)

  -- ---- the storage

  flush_fails : (next : World → Ran) → ((flushing g.lent (dev_of w)).status ≡ 0 → Failed (next (at_dev (flushing g.lent (dev_of w)).dev w)))
      → Failed (after_flush w next (flushing g.lent (dev_of w)))
  flush_fails next h =
      let t = flushing g.lent (dev_of w) in
      picked Failed (eqb t.status 0) (next (at_dev t.dev w)) (ran fail (at_dev t.dev w)) (λ e. h (eqb-true t.status 0 e)) (λ e. refl)

  -- SET_UPG_END, where its flush fails
  pub upgrade_fails : ((flushing g.lent (dev_of w)).status ≡ 0 → ⊥) → Failed (end_upgrade g.lent w)
  unfolding end_upgrade
  upgrade_fails h = flush_fails (ran (ok [])) (λ e. absurd (h e))

  -- GET_FWC_CRC, where its flush fails
  pub crc_fails : ((flushing g.lent (dev_of w)).status ≡ 0 → ⊥) → Failed (crc_query g.lent w)
  unfolding crc_query
  crc_fails h = flush_fails (λ v. ran (ok (bytes_of 4 v.e.up.crc)) (probed g.lent v)) (λ e. absurd (h e))

  -- READ_FWC_DATA, where its pair is cut
  pub fwc_fails : (8 ≤ length bytes → ⊥) → Failed (read_fwc g.lent bytes w)
  unfolding read_fwc
  fwc_fails h = pair_says g c bytes w (λ p. Failed (read_fwc_by g.lent w p)) (λ i. absurd (h i)) (λ i. refl)

  abbrev erases : World → Told
  erases v = erasing g.lent (word_at 8 bytes 0) (word_at 8 bytes 8) (dev_of v)

  -- "ERASE_STORAGE needs 24 bytes, flushes, then erases"
  pub erase_fails : (24 ≤ length bytes → (flushing g.lent (dev_of w)).status ≡ 0 → (erases (at_dev (flushing g.lent (dev_of w)).dev w)).status ≡ 0 → ⊥)
      → Failed (erase_storage g.lent bytes w)
  unfolding erase_storage
  erase_fails h =
      let v = at_dev (flushing g.lent (dev_of w)).dev w in
      picked Failed (leb 24 (length bytes)) (after_flush w (λ v. erased_by v (erases v)) (flushing g.lent (dev_of w))) (ran fail w)
      (λ e. flush_fails (λ v. erased_by v (erases v)) (λ k. whether_fails (eqb (erases v).status 0) (λ x. h (leb-true 24 (length bytes) e) k (eqb-true (erases v).status 0 x))))
      (λ e. refl)

  -- a partition field that is not empty: "Unknown: fails"
  pub target_fails : (partition_field (meta_in bytes) ≡ [] → ⊥) → ((o : ℕ) → lookup g.lists (partition_field (meta_in bytes)) ≡ Ok (Some o) → ⊥)
      → answer_to (target_of g.lists (meta_in bytes)) ≡ fail
  unfolding target_of
  target_fails = go (partition_field (meta_in bytes))
    where
      by : (x : Result (Option ℕ) CallError) → ((o : ℕ) → x ≡ Ok (Some o) → ⊥) → answer_to (found_at x) ≡ fail
      by (Ok (Some o)) h = absurd (h o refl)
      by (Ok None) h = refl
      by (Err x) h = refl

      go : (f : List ℕ) → (f ≡ [] → ⊥) → ((o : ℕ) → lookup g.lists f ≡ Ok (Some o) → ⊥) → answer_to (target_by g.lists f) ≡ fail
      go [] h k = absurd (h refl)
      go (x ∷ xs) h k = by (lookup g.lists (x ∷ xs)) k

  -- SET_FWC_META "in order: 512 bytes at least, of which the last 512 count; `META`; flush", then the target
  pub meta_fails : (512 ≤ length bytes → is_meta (meta_in bytes) ≡ true → (flushing g.lent (dev_of w)).status ≡ 0 → answer_to (target_of g.lists (meta_in bytes)) ≡ fail)
      → Failed (set_meta g.lent g.lists bytes w)
  unfolding set_meta aims
  meta_fails h =
      let x = meta_in bytes in
      let f = after_flush w (aims g.lists x) (flushing g.lent (dev_of w)) in
      picked Failed (leb 512 (length bytes)) (cond (is_meta x) f (ran fail w)) (ran fail w)
      (λ e. picked Failed (is_meta x) f (ran fail w) (λ k. flush_fails (aims g.lists x) (h (leb-true 512 (length bytes) e) k)) (λ k. refl)) (λ e. refl)

  -- ---- the shell

  out_fails : (off len addr : ℕ) → OutWhy g.lent w off len addr → Failed (run_write g.lent off (window_of w.e.base (length w.scratch) addr len) (asks g c bytes w))
  unfolding run_write
  out_fails off len addr y = window_says g c bytes w addr len (λ x. Failed (run_write g.lent off x (asks g c bytes w))) at (λ i. refl)
    where
      t : Told
      t = out_told g.lent w off len addr

      f : Told
      f = flushing g.lent t.dev

      no : OutWhy g.lent w off len addr → (Off w addr → ⊥) → t.count ≡ cut_to w addr len → f.status ≡ 0 → ⊥
      no (out_window h) i j k = i h
      no (out_short h) i j k = h j
      no (out_flush h) i j k = h k

      at : (Off w addr → ⊥) → Failed (run_write g.lent off (Some (record { place = addr - w.e.base; len = cut_to w addr len })) (asks g c bytes w))
      at i =
          let u = at_dev t.dev (asks g c bytes w) in
          picked Failed (eqb t.count (cut_to w addr len)) (ran (whether (eqb f.status 0)) (at_dev f.dev u)) (ran fail u)
          (λ j. whether_fails (eqb f.status 0) (λ k. no y i (eqb-true t.count (cut_to w addr len) j) (eqb-true f.status 0 k))) (λ j. refl)

  in_fails : (off len addr : ℕ) → InWhy g.lent w off len addr → Failed (run_read g.lent off (window_of w.e.base (length w.scratch) addr len) (asks g c bytes w))
  unfolding run_read
  in_fails off len addr y =
      window_says g c bytes w addr len (λ x. Failed (run_read g.lent off x (asks g c bytes w)))
      (λ i. whether_fails (eqb t.count (cut_to w addr len)) (λ j. no y i (eqb-true t.count (cut_to w addr len) j))) (λ i. refl)
    where
      t : Told
      t = in_told g.lent w off len addr

      no : InWhy g.lent w off len addr → (Off w addr → ⊥) → t.count ≡ cut_to w addr len → ⊥
      no (in_window h) i j = i h
      no (in_short h) i j = h j

  boot_fails : (addr len : ℕ) → Off w addr → Failed (run_boot (window_of w.e.base (length w.scratch) addr len) (asks g c bytes w))
  unfolding run_boot
  boot_fails addr len y = window_says g c bytes w addr len (λ x. Failed (run_boot x (asks g c bytes w))) (λ i. absurd (i y)) (λ i. refl)

  -- a line that asks for something, for each of its reasons
  pub run_fails : (x : Option Line) → RunWhy g.lent w x → Failed (run_by g.lent (asks g c bytes w) x)
  unfolding run_erase
  run_fails None y = absurd y
  run_fails (Some line.Done) y = absurd y
  run_fails (Some (line.Erase start size)) y = let t = erasing g.lent start size (dev_of w) in whether_fails (eqb t.status 0) (λ e. y (eqb-true t.status 0 e))
  run_fails (Some (line.Write off len addr)) y = out_fails off len addr y
  run_fails (Some (line.Read off len addr)) y = in_fails off len addr y
  run_fails (Some (line.Boot addr len)) y = boot_fails addr len y

  -- RUN_SHELL_STR: "The line is a u32 length and that many UTF-8 bytes", which is run
  pub shell_fails : (4 ≤ length bytes → 4 + a ≤ length bytes → is_utf8 (line_in bytes) ≡ true → Failed (run_by g.lent (asks g c bytes w) (line_of (line_in bytes))))
      → Failed (shell g.lent bytes w)
  unfolding shell run_line
  shell_fails h =
      picked (λ (x : Option ℕ). Failed (shell_by g.lent bytes w x)) (leb 4 (length bytes) && (leb (4 + a) (length bytes) && is_utf8 (line_in bytes))) (Some a) None
      (λ e. let i = and_both (leb 4 (length bytes)) _ e in
      let j = and_both (leb (4 + a) (length bytes)) _ i.1 in h (leb-true 4 (length bytes) i.0) (leb-true (4 + a) (length bytes) j.0) j.1)
      (λ e. refl)

  -- ---- the odd reply

  sent_odd : (xs : List ℕ) → 4096 < length xs → sent xs ≡ odd
  unfolding sent
  sent_odd xs h = ap (λ (b : Bool). cond b (ok xs) odd) (lt-leb (length xs) 4096 h)

  -- what READ sends
  abbrev seen : List ℕ
  seen = take m (drop (a - w.e.base) w.scratch)

  seen_whole : inside w.e.base (length w.scratch) a m ≡ true → length seen ≡ m
  seen_whole e =
      let t = and_both (leb w.e.base a) _ e in
      let p = leb-true w.e.base a t.0 in
      let q = leb-true (a + m) (w.e.base + length w.scratch) t.1 in
      length-take-le m (drop (a - w.e.base) w.scratch) (omega (arith, length-drop (a - w.e.base) w.scratch))

  -- READ: "4,097 to 4,112: reply magic 0, command 1, status 0, length 0"
  pub read_odd : 8 ≤ length bytes → (Beyond w a m → ⊥) → 4096 < m → m ≤ 4112 → read_of w.e.base w.scratch bytes ≡ odd
  unfolding read_of
  read_odd i n h k =
      pair_says g c bytes w (λ p. read_by w.e.base w.scratch p ≡ odd)
      (λ _. picked (λ (x : Answer). x ≡ odd) (inside w.e.base (length w.scratch) a m) (cond (leb m 4112) (sent seen) (ok [])) fail
      (λ e. ap (λ (b : Bool). cond b (sent seen) (ok [])) (le-leb m 4112 k) ∙ sent_odd seen (let t = seen_whole e in omega arith)) (λ e. absurd (n (beyond g c bytes w a m e))))
      (λ j. absurd (omega arith))

  -- ---- the table's text

  -- an empty text
  pub table_fails : g.table ≡ [] → table_text g.table ≡ fail
  table_fails e = ap table_text e

  -- "a table text over 4,096"
  pub table_odd : 4096 < length g.table → table_text g.table ≡ odd
  table_odd = go g.table
    where
      go : (t : List ℕ) → 4096 < length t → table_text t ≡ odd
      go [] h = absurd (omega arith)
      go (b ∷ s) h = sent_odd (b ∷ s) h
