-- Every named reason gives its answer, the converse of Answers.antt. There an answer other than OK has its row of Why.antt; here each row
-- gives that answer (`why_fails`, `large_odd`, `unknown_unsupported`), since it refutes one of the tests that OK needs (Failing.antt). So a
-- command fails exactly for the reasons of `Why`, has the odd reply exactly for those of `Large`, and is unsupported exactly where 01 does
-- not have it (`fails_iff`, `odd_iff`, `unsupported_iff`).
--   Between frames, a frame whose command has a reason then returns the status and leaves the reply that 01 names (`why_told`, `large_told`,
-- `unknown_told`, proofs/Gives.antt).
use Rattle.std.specs.Prelude.{◌≡◌, Option, false, List, ℕ, ◌+◌, eqb, length, replicate}
use Rattle.std.proofs.Math.Path.{refl}
use Rattle.std.proofs.Common.{sym, ap, subst, ◌∙◌, arith, length-append}
use Rattle.text.specs.Utf8.{is_utf8}
use Rattle.wire.specs.Header.{reply_magic, header_of}
use Rattle.storage.specs.Open.{one_of}
use Rattle.engine.specs.declared.shell.Line.{Line}
use Rattle.engine.specs.World.{Given, World}
use Rattle.engine.specs.Reply.{Answer, fail, unsupported, odd, reply_by}
use Rattle.engine.specs.Command.{table_text, long_by, long_of, plain, read_of, write_of}
use Rattle.engine.specs.Storing.{end_upgrade, crc_query, read_fwc, erase_storage, is_meta, set_meta}
use Rattle.engine.specs.Shell.{line_of}
use Rattle.engine.specs.Running.{run_by, shell}
use Rattle.engine.specs.Exec.{memory, storing, runs}
use Rattle.engine.proofs.Replies.{header_length}
use Rattle.promises.specs.Why.{line_in, meta_in, Why, Large, known, write_cut, write_less, write_beyond, read_cut, read_beyond, shell_cut, shell_less, shell_text, shell_line_lem, shell_run, end_flush, meta_cut, meta_magic, meta_flush, meta_unknown, crc_flush, table_none, fwc_cut, erase_cut, erase_flush, erase_failed, read_large, table_large}
use Rattle.promises.specs.Picked.{or_false}
use Rattle.promises.specs.Lines.{line_bad}
use Rattle.promises.specs.Answers.{asks, fail_why, odd_why, unsupported_why}
use Rattle.promises.specs.Failing.{not_both, Failed, write_fails, read_fails, upgrade_fails, crc_fails, fwc_fails, erase_fails, target_fails, meta_fails, run_fails, shell_fails, read_odd, table_fails, table_odd}

module _ (g : Given) (c : ℕ) (bytes : List ℕ) (w : World) where
  -- ---- by number

  -- a row is of its command
  by_number : (n : ℕ) (x : Answer) → (runs g n bytes w).answer ≡ x → c ≡ n → (runs g c bytes w).answer ≡ x
  by_number n x h e = subst (λ (k : ℕ). (runs g k bytes w).answer ≡ x) (sym e) h

  at_write : (write_of w.e.base w.scratch bytes).answer ≡ fail → c ≡ 0x02 → (runs g c bytes w).answer ≡ fail
  unfolding runs one_of memory
  at_write = by_number 0x02 fail

  at_read : (x : Answer) → read_of w.e.base w.scratch bytes ≡ x → c ≡ 0x03 → (runs g c bytes w).answer ≡ x
  unfolding runs one_of memory
  at_read = by_number 0x03

  at_shell : Failed (shell g.lent bytes w) → c ≡ 0x05 → (runs g c bytes w).answer ≡ fail
  unfolding runs one_of
  at_shell = by_number 0x05 fail

  at_end : Failed (end_upgrade g.lent w) → c ≡ 0x0B → (runs g c bytes w).answer ≡ fail
  unfolding runs one_of storing
  at_end = by_number 0x0B fail

  at_meta : Failed (set_meta g.lent g.lists bytes w) → c ≡ 0x10 → (runs g c bytes w).answer ≡ fail
  unfolding runs one_of storing
  at_meta = by_number 0x10 fail

  at_crc : Failed (crc_query g.lent w) → c ≡ 0x13 → (runs g c bytes w).answer ≡ fail
  unfolding runs one_of storing
  at_crc = by_number 0x13 fail

  at_table : (x : Answer) → table_text g.table ≡ x → c ≡ 0x17 → (runs g c bytes w).answer ≡ x
  unfolding runs one_of plain long_by long_of
  at_table = by_number 0x17

  at_fwc : Failed (read_fwc g.lent bytes w) → c ≡ 0x18 → (runs g c bytes w).answer ≡ fail
  unfolding runs one_of storing
  at_fwc = by_number 0x18 fail

  at_erase : Failed (erase_storage g.lent bytes w) → c ≡ 0x1B → (runs g c bytes w).answer ≡ fail
  unfolding runs one_of storing
  at_erase = by_number 0x1B fail

  -- ---- every reason gives its answer

  -- 1d, "executed command fails": it does for each of its reasons
  pub why_fails : Why g c bytes w → (runs g c bytes w).answer ≡ fail
  why_fails (write_cut n h) = at_write (write_fails g c bytes w (λ i j k. omega arith)) n
  why_fails (write_beyond n h) = at_write (write_fails g c bytes w (λ i j k. k h)) n
  why_fails (write_less n h) = at_write (write_fails g c bytes w (λ i j k. omega arith)) n
  why_fails (read_cut n h) = at_read fail (read_fails g c bytes w (λ i k. omega arith)) n
  why_fails (read_beyond n h) = at_read fail (read_fails g c bytes w (λ i k. k h)) n
  why_fails (shell_cut n h) = at_shell (shell_fails g c bytes w (λ i j k. absurd (omega arith))) n
  why_fails (shell_less n h) = at_shell (shell_fails g c bytes w (λ i j k. absurd (omega arith))) n
  why_fails (shell_text n h) = at_shell (shell_fails g c bytes w (λ i j k. absurd (not_both (is_utf8 (line_in bytes)) k h))) n
  why_fails (shell_line_lem n h) = at_shell (shell_fails g c bytes w (λ i j k. ap (λ (x : Option Line). (run_by g.lent (asks g c bytes w) x).answer) (line_bad (line_in bytes) h))) n
  why_fails (shell_run n h) = at_shell (shell_fails g c bytes w (λ i j k. run_fails g c bytes w (line_of (line_in bytes)) h)) n
  why_fails (end_flush n h) = at_end (upgrade_fails g c bytes w h) n
  why_fails (meta_cut n h) = at_meta (meta_fails g c bytes w (λ i j k. absurd (omega arith))) n
  why_fails (meta_magic n h) = at_meta (meta_fails g c bytes w (λ i j k. absurd (not_both (is_meta (meta_in bytes)) j h))) n
  why_fails (meta_flush n h) = at_meta (meta_fails g c bytes w (λ i j k. absurd (h k))) n
  why_fails (meta_unknown n h o) = at_meta (meta_fails g c bytes w (λ i j k. target_fails g c bytes w h o)) n
  why_fails (crc_flush n h) = at_crc (crc_fails g c bytes w h) n
  why_fails (table_none n h) = at_table fail (table_fails g c bytes w h) n
  why_fails (fwc_cut n h) = at_fwc (fwc_fails g c bytes w (λ i. omega arith)) n
  why_fails (erase_cut n h) = at_erase (erase_fails g c bytes w (λ i j k. omega arith)) n
  why_fails (erase_flush n h) = at_erase (erase_fails g c bytes w (λ i j k. h j)) n
  why_fails (erase_failed n h) = at_erase (erase_fails g c bytes w (λ i j k. h k)) n

  -- 1e, "reply data 4,097 to 4,112 bytes, or a table text over 4,096": the odd reply
  pub large_odd : Large g c bytes w → (runs g c bytes w).answer ≡ odd
  large_odd (read_large n i k h j) = at_read odd (read_odd g c bytes w i k h j) n
  large_odd (table_large n h) = at_table odd (table_odd g c bytes w h) n

  -- "An unsupported command (also 0x01 and 0x0D)": each that 01 does not have
  pub unknown_unsupported : one_of known c ≡ false → (runs g c bytes w).answer ≡ unsupported
  unfolding runs one_of plain long_by long_of
  unknown_unsupported h =
      let z₁ = or_false (eqb c 0x02) _ h in
      let z₂ = or_false (eqb c 0x03) _ z₁.1 in
      let z₃ = or_false (eqb c 0x05) _ z₂.1 in
      let z₄ = or_false (eqb c 0x0B) _ z₃.1 in
      let z₅ = or_false (eqb c 0x10) _ z₄.1 in
      let z₆ = or_false (eqb c 0x13) _ z₅.1 in
      let z₇ = or_false (eqb c 0x18) _ z₆.1 in
      let z₈ = or_false (eqb c 0x1B) _ z₇.1 in
      let s₁ = or_false (eqb c 0x08) _ z₈.1 in
      let s₂ = or_false (eqb c 0x09) _ s₁.1 in
      let s₃ = or_false (eqb c 0x0A) _ s₂.1 in
      let s₄ = or_false (eqb c 0x0C) _ s₃.1 in
      let s₅ = or_false (eqb c 0x11) _ s₄.1 in
      let s₆ = or_false (eqb c 0x14) _ s₅.1 in
      let s₇ = or_false (eqb c 0x15) _ s₆.1 in
      let s₈ = or_false (eqb c 0x19) _ s₇.1 in
      let l₁ = or_false (eqb c 0x00) _ s₈.1 in
      let l₂ = or_false (eqb c 0x16) _ l₁.1 in
      let l₃ = or_false (eqb c 0x17) _ l₂.1 in
      let l₄ = or_false (eqb c 0x1A) _ l₃.1 in
      rw (z₁.0, z₂.0, z₃.0, z₄.0, z₅.0, z₆.0, z₇.0, z₈.0, s₁.0, s₂.0, s₃.0, s₄.0, s₅.0, s₆.0, s₇.0, s₈.0, l₁.0, l₂.0, l₃.0, l₄.0) refl

  -- "a refusal or fail reply still needs a reason that these papers name": a fail reply is answered exactly for one
  pub fails_iff : (Why g c bytes w → (runs g c bytes w).answer ≡ fail) × ((runs g c bytes w).answer ≡ fail → Why g c bytes w)
  fails_iff = (why_fails, fail_why g c bytes w)

  -- the odd reply exactly where 1e has it
  pub odd_iff : (Large g c bytes w → (runs g c bytes w).answer ≡ odd) × ((runs g c bytes w).answer ≡ odd → Large g c bytes w)
  odd_iff = (large_odd, odd_why g c bytes w)

  -- and a command is unsupported exactly where 01 does not have it
  pub unsupported_iff : (one_of known c ≡ false → (runs g c bytes w).answer ≡ unsupported) × ((runs g c bytes w).answer ≡ unsupported → one_of known c ≡ false)
  unsupported_iff = (unknown_unsupported, unsupported_why g c bytes w)

-- ---- and it is told

pub odd_length : (c : ℕ) → length (reply_by c odd) ≡ 16
unfolding reply_by
odd_length c = header_length 0 1 0 0

pub unsupported_length : (c : ℕ) → length (reply_by c unsupported) ≡ 124
unfolding reply_by
unsupported_length c = length-append (header_of reply_magic c 1 108) (replicate 108 0) ∙ ap (λ (k : ℕ). k + 108) (header_length reply_magic c 1 108)
