-- Past the end nothing is left; else the word is the lower half of four bytes from there on.
use Rattle.std.proofs.Common.{ℕ, ◌+◌, ◌%◌, List, take, drop, sym, ap, ◌∙◌, get_or-drop}
use Rattle.wire.specs.Bytes.{le, word_at}
use borrow.Rule.Slice.PartAt.{part_to_end}
use Rattle.wire.proofs.Words.{two, past}
use Rattle.wire.proofs.bytes.u16_at.Goals as goal

pub returns-then-s-at : goal.returns-then-s-at
unfolding word_at
returns-then-s-at c = sym (past 2 c.args.s.now c.args.at c.if-s-at.true)

pub returns : goal.returns
unfolding word_at
returns c =
    ap (λ (x : ℕ). x % 65536) (c.front.ensures.0 ∙ ap (λ (l : List ℕ). le (take 4 l)) (part_to_end c.args.s.now c.args.at))
    ∙ two (drop c.args.at c.args.s.now) (λ k. rw get_or-drop (c.type_inv.s (c.args.at + k)).fits)
