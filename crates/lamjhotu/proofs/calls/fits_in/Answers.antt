-- Scratch, the numbers, the store.
use mathlib.Core.Path.{sym, ◌∙◌}
use Rattle.std.proofs.lemmas.Bool.{true≢false}
use Rattle.lamjhotu.proofs.Shorts.{but_scratch, but_numbers, but_told, numbers_same}
use Rattle.lamjhotu.proofs.calls.fits_in.Goals.{then-scratch_ok, else-scratch_ok}
use Rattle.lamjhotu.proofs.calls.fits_in.Goals as goal

pub returns-then-numbers_ok : goal.returns-then-numbers_ok
returns-then-numbers_ok c =
    elim c.if-scratch_ok.branch [
      | then-scratch_ok w ↦
          but_told _ _ _ _ _ _ _
          (numbers_same c.args.s.now c.args.request c.args.reply w.frame_at.ensures w.said_at.ensures w.word_at.ensures w.word_at-then-scratch_ok.ensures w.word_at-then-scratch_ok-2.ensures w.numbers_ok.ensures
          ∙ sym w.value-is ∙ c.if-numbers_ok.true)
          (rw (← c.small_at.ensures) (sym c.scratch_ok.ensures ∙ w.if-scratch_ok.true)) c.store_fits.ensures
      | else-scratch_ok w ↦ absurd (true≢false (sym c.if-numbers_ok.true ∙ w.value-is ∙ w.if-scratch_ok.false))
    ]

pub returns-else-numbers_ok : goal.returns-else-numbers_ok
returns-else-numbers_ok c =
    elim c.if-scratch_ok.branch [
      | then-scratch_ok w ↦
          c.if-numbers_ok.false
          ∙ but_numbers _ _ _ _ _ _ _
          (numbers_same c.args.s.now c.args.request c.args.reply w.frame_at.ensures w.said_at.ensures w.word_at.ensures w.word_at-then-scratch_ok.ensures w.word_at-then-scratch_ok-2.ensures w.numbers_ok.ensures
          ∙ sym w.value-is ∙ c.if-numbers_ok.false)
      | else-scratch_ok w ↦
          c.if-numbers_ok.false ∙ but_scratch _ _ _ _ _ _ _ (rw (← c.small_at.ensures) (sym c.scratch_ok.ensures ∙ w.if-scratch_ok.false))
    ]
