-- Only named reasons, of the commands: whatever a command answers, it is OK or has its row of Why.antt. `runs_says` goes through every
-- command once, test by test as the definitions go; `fail_why`, `odd_why` and `unsupported_why` are its three cases.
use Rattle.std.proofs.Math.Path.{◌≡◌, refl}
use Rattle.std.proofs.Common.{sym, subst, length-take}
use Rattle.std.specs.Prelude.{Option, None, Some, Result, Ok, Err, Bool, true, false, ◌&&◌, ◌||◌, ◌⊎◌, leb, eqb, take, drop}
use Rattle.std.proofs.Math.Bool.{cond}
use mathlib.Core.List.{List, [], ◌∷◌, ◌++◌}
use Rattle.std.proofs.Math.Logic.{inl, inr}
use Prim.Native.Nat.{ℕ, ◌+◌, ◌-◌, ◌≤◌, ◌<◌}
use native.Mathlib.Omega.{arith}
use borrow.Author.Tests.{eqb-true, eqb-false, leb-true, leb-false, ltb-true, ltb-false}
use Rattle.std.proofs.Math.Dec.{ltb}
use Rattle.std.proofs.Math.ListN.{length}
use Rattle.text.specs.Utf8.{is_utf8}
use Rattle.text.specs.Token.{tokens_of}
use Rattle.wire.specs.Bytes.{bytes_of, word_at}
use Rattle.storage.specs.World.{Told}
use Rattle.storage.specs.Open.{one_of}
use Rattle.storage.specs.Store.{flushing, erasing}
use Rattle.storage.specs.Partition.{lookup}
use Rattle.storage.specs.declared.types.CallError.{CallError}
use Rattle.engine.specs.declared.exec.Group.{Group}
use Rattle.engine.specs.declared.command.Short.{Short}
use Rattle.engine.specs.declared.command.Short.TheVariants as short
use Rattle.engine.specs.declared.shell.Line.{Line}
use Rattle.engine.specs.declared.shell.Line.TheVariants as line
use Rattle.engine.specs.declared.shell.Window.{Window}
use Rattle.engine.specs.World.{Given, World, with_flags, at_e, dev_of, at_dev}
use Rattle.engine.specs.Reply.{Answer, ok, fail, unsupported, odd, sent, whether, Ran, ran}
use Rattle.engine.specs.Command.{table_text, short_of, long_by, long_of, plain_by, plain, pair_of, inside, read_by, read_of, Wrote, wrote, write_by, write_of}
use Rattle.engine.specs.Storing.{after_flush, end_upgrade, crc_query, probed, read_fwc_by, read_fwc, erased_by, erase_storage, partition_field, found_at, target_by, target_of, answer_to, aims, is_meta, set_meta}
use Rattle.engine.specs.Shell.{line_of, window_of, is_reset}
use Rattle.engine.specs.Running.{run_erase, run_write, run_read, run_boot, run_by, run_line, shell_by, shell}
use Rattle.engine.specs.Exec.{wrote_by, memory, storing, runs_by, runs}
use Rattle.promises.specs.Why.{line_in, LineWhy, Off, cut_to, out_told, in_told, Unflushed, OutWhy, InWhy, RunWhy, Beyond, meta_in, Why, Large, of_scratch, of_shell, of_storage, of_word, of_more, known, Says, out_window, out_short, out_flush, in_window, in_short, write_cut, write_less, write_beyond, read_cut, read_beyond, shell_cut, shell_less, shell_text, shell_line_lem, shell_run, end_flush, meta_cut, meta_magic, meta_flush, meta_unknown, crc_flush, table_none, fwc_cut, erase_cut, erase_flush, erase_failed, read_large, table_large}
use Rattle.promises.specs.Picked.{picked, and_false, or_false, or_later, and_both}
use Rattle.promises.specs.Lines.{Lined, line_lined}

-- ---- the commands

-- none of two lists
none_both : (xs ys : List ℕ) (c : ℕ) → one_of xs c ≡ false → one_of ys c ≡ false → one_of (xs ++ ys) c ≡ false
unfolding one_of
none_both [] ys c p q = q
none_both (x ∷ xs) ys c p q = let h = or_false (eqb c x) (one_of xs c) p in rw h.0 (none_both xs ys c h.1 q)

one_later : (x : ℕ) (xs : List ℕ) (c : ℕ) → one_of (x ∷ xs) c ≡ true → eqb c x ≡ false → one_of xs c ≡ true
unfolding one_of
one_later x xs c = or_later (eqb c x) (one_of xs c)

one_last : (x c : ℕ) → one_of (x ∷ []) c ≡ true → c ≡ x
unfolding one_of
one_last x c = go (eqb c x) refl
  where
    go : (b : Bool) → eqb c x ≡ b → (b || false) ≡ true → c ≡ x
    go true e h = eqb-true c x e
    go false e h = absurd (let z : ◌≡◌ {A = ℕ} 0 1 = cc in omega arith)

module _ (g : Given) (c : ℕ) (bytes : List ℕ) (w : World) where
  -- whatever a command answers has its reason
  abbrev HasRow : Answer → Type 0
  HasRow = Says (Why g c bytes w) (one_of known c ≡ false) (Large g c bytes w)

  -- OK with no data, or a fail reply
  whether_says : (b : Bool) → (b ≡ false → Why g c bytes w) → HasRow (whether b)
  whether_says true h = tt
  whether_says false h = h refl

  -- where the window is not inside, and where it is
  pub beyond : (addr len : ℕ) → inside w.e.base (length w.scratch) addr len ≡ false → Beyond w addr len
  beyond addr len e = go (and_false _ _ e)
    where
      go : (leb w.e.base addr ≡ false) ⊎ (leb (addr + len) (w.e.base + length w.scratch) ≡ false) → Beyond w addr len
      go (inl h) = inl (leb-false w.e.base addr h)
      go (inr h) = inr (leb-false (addr + len) (w.e.base + length w.scratch) h)

  pub not_beyond : (addr len : ℕ) → inside w.e.base (length w.scratch) addr len ≡ true → Beyond w addr len → ⊥
  not_beyond addr len e = go (leb-true w.e.base addr h.0) (leb-true (addr + len) (w.e.base + length w.scratch) h.1)
    where
      h : (leb w.e.base addr ≡ true) × (leb (addr + len) (w.e.base + length w.scratch) ≡ true)
      h = and_both _ _ e

      go : w.e.base ≤ addr → addr + len ≤ w.e.base + length w.scratch → Beyond w addr len → ⊥
      go p q (inl r) = omega arith
      go p q (inr r) = omega arith

  -- the pair, or fewer than eight bytes
  pub pair_says : (P : Option (ℕ × ℕ) → Type 0) → (8 ≤ length bytes → P (Some (word_at 4 bytes 0, word_at 4 bytes 4))) → (length bytes < 8 → P None) → P (pair_of bytes)
  pair_says P h k = picked P (leb 8 (length bytes)) (Some (word_at 4 bytes 0, word_at 4 bytes 4)) None (λ e. h (leb-true 8 (length bytes) e)) (λ e. k (leb-false 8 (length bytes) e))

  -- more data than a reply takes
  sent_says : (xs : List ℕ) → (4096 < length xs → Large g c bytes w) → HasRow (sent xs)
  unfolding sent
  sent_says xs h = picked HasRow (leb (length xs) 4096) (ok xs) odd (λ e. tt) (λ e. h (leb-false (length xs) 4096 e))

  write_says : c ≡ 0x02 → HasRow (write_of w.e.base w.scratch bytes).answer
  unfolding write_of
  write_says n = pair_says (λ p. HasRow (write_by w.e.base w.scratch bytes p).answer) (λ i. both) (write_cut n)
    where
      a : ℕ
      a = word_at 4 bytes 0

      m : ℕ
      m = word_at 4 bytes 4

      refused : (leb m (length bytes - 8) ≡ false) ⊎ (inside w.e.base (length w.scratch) a m ≡ false) → Why g c bytes w
      refused (inl h) = write_less n (let k = leb-false m (length bytes - 8) h in omega arith)
      refused (inr h) = write_beyond n (beyond a m h)

      both : HasRow (write_by w.e.base w.scratch bytes (Some (a, m))).answer
      both =
          picked (λ (r : Wrote). HasRow r.answer) (leb m (length bytes - 8) && inside w.e.base (length w.scratch) a m) _ (wrote fail w.scratch) (λ e. tt)
          (λ e. refused (and_false _ _ e))

  read_says : c ≡ 0x03 → HasRow (read_of w.e.base w.scratch bytes)
  unfolding read_of
  read_says n = pair_says (λ p. HasRow (read_by w.e.base w.scratch p)) both (read_cut n)
    where
      a : ℕ
      a = word_at 4 bytes 0

      m : ℕ
      m = word_at 4 bytes 4

      s : List ℕ
      s = take m (drop (a - w.e.base) w.scratch)

      both : 8 ≤ length bytes → HasRow (read_by w.e.base w.scratch (Some (a, m)))
      both i =
          picked HasRow (inside w.e.base (length w.scratch) a m) (cond (leb m 4112) (sent s) (ok [])) fail
          (λ e. picked HasRow (leb m 4112) (sent s) (ok [])
          (λ h. sent_says s (λ k. let t = length-take m (drop (a - w.e.base) w.scratch) in read_large n i (not_beyond a m e) (omega arith) (leb-true m 4112 h))) (λ h. tt))
          (λ e. read_beyond n (beyond a m e))

  -- ---- the commands over the storage

  flush_says : (next : World → Ran) → (Unflushed g.lent (dev_of w) → Why g c bytes w) → HasRow (next (at_dev (flushing g.lent (dev_of w)).dev w)).answer
      → HasRow (after_flush w next (flushing g.lent (dev_of w))).answer
  flush_says next h k =
      let t = flushing g.lent (dev_of w) in
      picked (λ (r : Ran). HasRow r.answer) (eqb t.status 0) (next (at_dev t.dev w)) (ran fail (at_dev t.dev w)) (λ e. k) (λ e. h (eqb-false t.status 0 e))

  end_says : c ≡ 0x0B → HasRow (end_upgrade g.lent w).answer
  unfolding end_upgrade
  end_says n = flush_says (ran (ok [])) (end_flush n) tt

  crc_says : c ≡ 0x13 → HasRow (crc_query g.lent w).answer
  unfolding crc_query
  crc_says n = flush_says (λ v. ran (ok (bytes_of 4 v.e.up.crc)) (probed g.lent v)) (crc_flush n) tt

  fwc_says : c ≡ 0x18 → HasRow (read_fwc g.lent bytes w).answer
  unfolding read_fwc
  fwc_says n = pair_says (λ p. HasRow (read_fwc_by g.lent w p).answer) (λ i. tt) (fwc_cut n)

  erase_says : c ≡ 0x1B → HasRow (erase_storage g.lent bytes w).answer
  unfolding erase_storage
  erase_says n =
      let e : World → Told = λ v. erasing g.lent (word_at 8 bytes 0) (word_at 8 bytes 8) (dev_of v) in
      let v = at_dev (flushing g.lent (dev_of w)).dev w in
      picked (λ (r : Ran). HasRow r.answer) (leb 24 (length bytes)) (after_flush w (λ v. erased_by v (e v)) (flushing g.lent (dev_of w))) (ran fail w)
      (λ h. flush_says (λ v. erased_by v (e v)) (erase_flush n) (whether_says (eqb (e v).status 0) (λ k. erase_failed n (eqb-false (e v).status 0 k))))
      (λ h. erase_cut n (leb-false 24 (length bytes) h))

  target_says : c ≡ 0x10 → HasRow (answer_to (target_of g.lists (meta_in bytes)))
  unfolding target_of
  target_says n = go (partition_field (meta_in bytes)) refl
    where
      unknown : (b : ℕ) (f : List ℕ) → partition_field (meta_in bytes) ≡ b ∷ f → ((o : ℕ) → lookup g.lists (b ∷ f) ≡ Ok (Some o) → ⊥) → Why g c bytes w
      unknown b f p h = meta_unknown n (λ q. let z : ◌≡◌ {A = ℕ} 0 1 = cc in omega arith) (rw p h)

      by : (b : ℕ) (f : List ℕ) → partition_field (meta_in bytes) ≡ b ∷ f → (x : Result (Option ℕ) CallError) → lookup g.lists (b ∷ f) ≡ x → HasRow (answer_to (found_at x))
      by b f p (Ok (Some o)) e = tt
      by b f p (Ok None) e = unknown b f p (λ o q. let z : ◌≡◌ {A = ℕ} 0 1 = cc in omega arith)
      by b f p (Err x) e = unknown b f p (λ o q. let z : ◌≡◌ {A = ℕ} 0 1 = cc in omega arith)

      go : (f : List ℕ) → partition_field (meta_in bytes) ≡ f → HasRow (answer_to (target_by g.lists f))
      go [] p = tt
      go (x ∷ xs) p = by x xs p (lookup g.lists (x ∷ xs)) refl

  meta_says : c ≡ 0x10 → HasRow (set_meta g.lent g.lists bytes w).answer
  unfolding set_meta aims
  meta_says n =
      let m = meta_in bytes in
      let f = after_flush w (aims g.lists m) (flushing g.lent (dev_of w)) in
      picked (λ (r : Ran). HasRow r.answer) (leb 512 (length bytes)) (cond (is_meta m) f (ran fail w)) (ran fail w)
      (λ h. picked (λ (r : Ran). HasRow r.answer) (is_meta m) f (ran fail w) (λ k. flush_says (aims g.lists m) (meta_flush n) (target_says n)) (meta_magic n))
      (λ h. meta_cut n (leb-false 512 (length bytes) h))

  -- ---- the shell

  -- the window, or an address off scratch
  pub window_says : (addr len : ℕ) (P : Option Window → Type 0) → ((Off w addr → ⊥) → P (Some (record { place = addr - w.e.base; len = cut_to w addr len }))) → (Off w addr → P None)
      → P (window_of w.e.base (length w.scratch) addr len)
  window_says addr len P h k = picked P (leb w.e.base addr && ltb addr (w.e.base + length w.scratch)) _ None (λ e. h (on (and_both _ _ e))) (λ e. k (off (and_false _ _ e)))
    where
      on : (leb w.e.base addr ≡ true) × (ltb addr (w.e.base + length w.scratch) ≡ true) → Off w addr → ⊥
      on y (inl x) = let k = leb-true w.e.base addr y.0 in omega arith
      on y (inr x) = let k = ltb-true addr (w.e.base + length w.scratch) y.1 in omega arith

      off : (leb w.e.base addr ≡ false) ⊎ (ltb addr (w.e.base + length w.scratch) ≡ false) → Off w addr
      off (inl x) = inl (leb-false w.e.base addr x)
      off (inr x) = inr (ltb-false addr (w.e.base + length w.scratch) x)

  -- the line runs in a world that differs in a flag alone
  abbrev pub asks : World
  asks = at_e (with_flags w.e.upgrading (w.e.asked || is_reset (line_in bytes)) w.e) w

  module _ (n : c ≡ 0x05) where
    out_says : (off len addr : ℕ) → line_of (line_in bytes) ≡ Some (line.Write off len addr) → HasRow (run_write g.lent off (window_of w.e.base (length w.scratch) addr len) asks).answer
    unfolding run_write
    out_says off len addr e = window_says addr len (λ x. HasRow (run_write g.lent off x asks).answer) (λ i. at) (λ h. why (out_window h))
      where
        why : OutWhy g.lent w off len addr → Why g c bytes w
        why h = shell_run n (subst (RunWhy g.lent w) (sym e) h)

        t : Told
        t = out_told g.lent w off len addr

        f : Told
        f = flushing g.lent t.dev

        at : HasRow (run_write g.lent off (Some (record { place = addr - w.e.base; len = cut_to w addr len })) asks).answer
        at =
            let u = at_dev t.dev asks in
            picked (λ (r : Ran). HasRow r.answer) (eqb t.count (cut_to w addr len)) (ran (whether (eqb f.status 0)) (at_dev f.dev u)) (ran fail u)
            (λ k. whether_says (eqb f.status 0) (λ x. why (out_flush (eqb-false f.status 0 x)))) (λ k. why (out_short (eqb-false t.count (cut_to w addr len) k)))

    in_says : (off len addr : ℕ) → line_of (line_in bytes) ≡ Some (line.Read off len addr) → HasRow (run_read g.lent off (window_of w.e.base (length w.scratch) addr len) asks).answer
    unfolding run_read
    in_says off len addr e =
        let why : InWhy g.lent w off len addr → Why g c bytes w = λ h. shell_run n (subst (RunWhy g.lent w) (sym e) h) in
        let t = in_told g.lent w off len addr in
        window_says addr len (λ x. HasRow (run_read g.lent off x asks).answer)
        (λ i. whether_says (eqb t.count (cut_to w addr len)) (λ x. why (in_short (eqb-false t.count (cut_to w addr len) x)))) (λ h. why (in_window h))

    boot_says : (addr len : ℕ) → line_of (line_in bytes) ≡ Some (line.Boot addr len) → HasRow (run_boot (window_of w.e.base (length w.scratch) addr len) asks).answer
    unfolding run_boot
    boot_says addr len e = window_says addr len (λ x. HasRow (run_boot x asks).answer) (λ i. tt) (λ h. shell_run n (subst (RunWhy g.lent w) (sym e) h))

    run_says : (x : Option Line) → line_of (line_in bytes) ≡ x → Lined (LineWhy (tokens_of (line_in bytes))) x → HasRow (run_by g.lent asks x).answer
    unfolding run_erase
    run_says None e h = shell_line_lem n h
    run_says (Some line.Done) e h = tt
    run_says (Some (line.Erase start size)) e h =
        let t = erasing g.lent start size (dev_of w) in
        whether_says (eqb t.status 0) (λ x. shell_run n (subst (RunWhy g.lent w) (sym e) (eqb-false t.status 0 x)))
    run_says (Some (line.Write off len addr)) e h = out_says off len addr e
    run_says (Some (line.Read off len addr)) e h = in_says off len addr e
    run_says (Some (line.Boot addr len)) e h = boot_says addr len e

    shell_says : HasRow (shell g.lent bytes w).answer
    unfolding shell run_line
    shell_says =
        picked (λ (x : Option ℕ). HasRow (shell_by g.lent bytes w x).answer)
        (leb 4 (length bytes) && (leb (4 + word_at 4 bytes 0) (length bytes) && is_utf8 (line_in bytes))) (Some (word_at 4 bytes 0)) None
        (λ e. run_says (line_of (line_in bytes)) refl (line_lined (line_in bytes))) (λ e. bad (and_false _ _ e))
      where
        rest : (leb (4 + word_at 4 bytes 0) (length bytes) ≡ false) ⊎ (is_utf8 (line_in bytes) ≡ false) → Why g c bytes w
        rest (inl h) = shell_less n (leb-false (4 + word_at 4 bytes 0) (length bytes) h)
        rest (inr h) = shell_text n h

        bad : (leb 4 (length bytes) ≡ false) ⊎ ((leb (4 + word_at 4 bytes 0) (length bytes) && is_utf8 (line_in bytes)) ≡ false) → Why g c bytes w
        bad (inl h) = shell_cut n (leb-false 4 (length bytes) h)
        bad (inr h) = rest (and_false _ _ h)

  -- ---- the commands that touch the reply alone

  text_says : c ≡ 0x17 → HasRow (table_text g.table)
  text_says n = go g.table refl
    where
      go : (t : List ℕ) → g.table ≡ t → HasRow (table_text t)
      go [] e = table_none n e
      go (b ∷ s) e = sent_says (b ∷ s) (λ h. table_large n (rw e h))

  -- the commands before these are another's
  module _ (m : one_of of_scratch c ≡ false) (s : eqb c 0x05 ≡ false) (d : one_of of_storage c ≡ false) where
    abbrev Shorts : Short → Type 0
    Shorts short.Other = one_of of_word c ≡ false
    Shorts short.Empty = Unit {0}
    Shorts (short.Word x) = Unit {0}

    short_says : Shorts (short_of c w.e)
    unfolding one_of
    short_says =
        picked Shorts (eqb c 0x08) _ _ (λ _. tt)
        (λ h₁. picked Shorts (eqb c 0x09) _ _ (λ _. tt)
        (λ h₂. picked Shorts (eqb c 0x0A) _ _ (λ _. tt)
        (λ h₃. picked Shorts (eqb c 0x0C) _ _ (λ _. tt)
        (λ h₄. picked Shorts (eqb c 0x11) _ _ (λ _. tt)
        (λ h₅. picked Shorts (eqb c 0x14) _ _ (λ _. tt)
        (λ h₆. picked Shorts (eqb c 0x15) _ _ (λ _. tt)
        (λ h₇. picked Shorts (eqb c 0x19) _ _ (λ _. tt) (λ h₈. rw (h₁, h₂, h₃, h₄, h₅, h₆, h₇, h₈)))))))))

    long_says : one_of of_word c ≡ false → HasRow (long_of c w.e g.table)
    unfolding long_by long_of one_of
    long_says k =
        picked HasRow (eqb c 0x00) _ _ (λ _. tt)
        (λ h₁. picked HasRow (eqb c 0x16) _ _ (λ _. tt)
        (λ h₂. picked HasRow (eqb c 0x17) _ _ (λ e. text_says (eqb-true c 0x17 e))
        (λ h₃. picked HasRow (eqb c 0x1A) _ _ (λ _. tt)
        (λ h₄. none_both of_scratch (of_shell ++ of_storage ++ of_word ++ of_more) c m
        (none_both of_shell (of_storage ++ of_word ++ of_more) c (rw s)
        (none_both of_storage (of_word ++ of_more) c d (none_both of_word of_more c k (rw (h₁, h₂, h₃, h₄)))))))))

    plain_says : HasRow (plain c w.e g.table)
    unfolding plain
    plain_says = go (short_of c w.e) short_says
      where
        go : (x : Short) → Shorts x → HasRow (plain_by c w.e g.table x)
        go short.Empty h = tt
        go (short.Word x) h = tt
        go short.Other h = long_says h

  -- ---- by group

  memory_says : one_of of_scratch c ≡ true → HasRow (memory c bytes w).answer
  unfolding memory
  memory_says h =
      picked (λ (r : Ran). HasRow r.answer) (eqb c 0x02) (wrote_by w (write_of w.e.base w.scratch bytes)) (ran (read_of w.e.base w.scratch bytes) w)
      (λ e. write_says (eqb-true c 0x02 e)) (λ e. read_says (one_last 0x03 c (one_later 0x02 (0x03 ∷ []) c h e)))

  storing_says : one_of of_storage c ≡ true → HasRow (storing g c bytes w).answer
  unfolding storing
  storing_says h =
      let l = g.lent in
      let e = erase_storage l bytes w in
      let r = cond (eqb c 0x18) (read_fwc l bytes w) e in
      let q = cond (eqb c 0x13) (crc_query l w) r in
      let m = cond (eqb c 0x10) (set_meta l g.lists bytes w) q in
      let T : Ran → Type 0 = λ x. HasRow x.answer in
      picked T (eqb c 0x0B) (end_upgrade l w) m (λ x. end_says (eqb-true c 0x0B x))
      (λ h₁. picked T (eqb c 0x10) (set_meta l g.lists bytes w) q (λ x. meta_says (eqb-true c 0x10 x))
      (λ h₂. picked T (eqb c 0x13) (crc_query l w) r (λ x. crc_says (eqb-true c 0x13 x))
      (λ h₃. picked T (eqb c 0x18) (read_fwc l bytes w) e (λ x. fwc_says (eqb-true c 0x18 x))
      (λ h₄. erase_says (one_last 0x1B c (one_later 0x18 _ c (one_later 0x13 _ c (one_later 0x10 _ c (one_later 0x0B _ c h h₁) h₂) h₃) h₄))))))

  -- "a refusal or fail reply still needs a reason that these papers name": what any command answers is OK, or has its row
  pub runs_says : Says (Why g c bytes w) (one_of known c ≡ false) (Large g c bytes w) (runs g c bytes w).answer
  unfolding runs
  runs_says =
      let T : Group → Type 0 = λ x. HasRow (runs_by g c bytes w x).answer in
      picked T (one_of of_scratch c) _ _ memory_says
      (λ m. picked T (eqb c 0x05) _ _ (λ e. shell_says (eqb-true c 0x05 e))
      (λ s. picked T (one_of of_storage c) _ _ storing_says (plain_says m s)))

  -- "A fail reply is a header with status 1 and no data": a command answers it for one of its reasons
  pub fail_why : (runs g c bytes w).answer ≡ fail → Why g c bytes w
  fail_why e = subst HasRow e runs_says

  -- "reply data 4,097 to 4,112 bytes, or a table text over 4,096" (1e)
  pub odd_why : (runs g c bytes w).answer ≡ odd → Large g c bytes w
  odd_why e = subst HasRow e runs_says

  -- "An unsupported command (also 0x01 and 0x0D)": one that 01 does not have
  pub unsupported_why : (runs g c bytes w).answer ≡ unsupported → one_of known c ≡ false
  unsupported_why e = subst HasRow e runs_says
