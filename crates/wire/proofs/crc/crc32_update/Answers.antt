-- The register after the whole words takes in the bytes that are left; the complement of a register is the definition's.
use Rattle.std.proofs.Common.{ℕ, ◌/◌, List, length, sym, ap, ◌∙◌, ap₂, arith}
use Rattle.std.specs.List.{concat}
use Rattle.std.specs.Simd.{first_chunks}
use Rattle.wire.specs.Crc.{crc_from, complement, crc_update}
use Rattle.wire.proofs.Register.{not_is, crc_append}
use Rattle.wire.proofs.Slices.{words_rest}
use Rattle.wire.proofs.crc.crc32_update.Goals as goal

pub returns : goal.returns
unfolding crc_update
returns c =
    let s = c.args.s.now in
    let n : ℕ = length s / 8 in
    not_is c.by_bytes.result (omega arith)
    ∙ ap complement
    (c.by_bytes.ensures
    ∙ ap₂ crc_from (c.by_words.ensures ∙ ap₂ (λ (r : ℕ) (w : List (List ℕ)). crc_from r (concat w)) (not_is c.args.crc c.ranges.crc.fits) c.as_chunks.ensures.front) c.as_chunks.ensures.back
    ∙ sym (crc_append (concat (first_chunks 8 n s)) _ (complement c.args.crc))
    ∙ ap (crc_from (complement c.args.crc)) (words_rest s n))
