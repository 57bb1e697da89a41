-- The shifts of the register and the word are those of the eight bytes, by `crc_eight`.
use Rattle.std.proofs.Common.{ℕ, ap, ◌∙◌}
use Rattle.wire.specs.Crc.{◌⊕◌, shifts}
use Rattle.wire.proofs.Slices.{crc_eight}
use Rattle.wire.proofs.crc.step_word.Goals as goal

pub returns : goal.returns
unfolding ◌⊕◌
returns c =
    c.shifted.ensures ∙ ap (λ (x : ℕ). shifts 64 (c.args.r ⊕ x)) c.word.ensures
    ∙ crc_eight c.args.bytes.now c.args.r c.told-bytes c.fits-bytes
