-- How a stream goes, case by case, as the code goes.
use Rattle.std.proofs.Common.{◌≡◌, ℕ, ◌+◌, Bool, true, false, cond, eqb, List, length, Result, Err, sym, refl, ap, ◌∙◌}
use Rattle.storage.specs.World.{Lent, Told}
use Rattle.storage.specs.Store.{flushing, writing}
use Rattle.engine.specs.declared.types.Failure.{Failure}
use Rattle.engine.specs.declared.types.Failure.TheVariants.{Failed}
use Rattle.engine.specs.World.{World, with_up, at_e, dev_of, Out, out_of}
use Rattle.engine.specs.Reply.{fail, whether, ends, ended_by, ends_by}
use Rattle.engine.specs.Stream.{taken, fed_by, fed, settled_by, settled, said_of, finishes, streamed_by, started, begins}
use Rattle.engine.proofs.Replies.{ends_is, whether_is}

-- ---- a piece

-- neither a piece nor the end of a stream touches the reply's room
pub fed_room : (l : Lent) (piece : List ℕ) (w : World) → (fed l piece w).reply ≡ w.reply
unfolding fed
fed_room l piece w = go w.e.up.aimed
  where
    t : Told
    t = writing l (w.e.up.target + w.e.up.written) piece (dev_of w)

    go : (b : Bool) → (cond b (fed_by w piece t) (at_e (with_up (taken piece (length piece) w.e.up) w.e) w)).reply ≡ w.reply
    go true = refl
    go false = refl

settled_room : (l : Lent) (w : World) → (settled l w).reply ≡ w.reply
unfolding settled
settled_room l w = go (eqb w.e.up.burn 0)
  where
    t : Told
    t = flushing l (dev_of w)

    go : (b : Bool) → (cond b (settled_by w t) w).reply ≡ w.reply
    go true = refl
    go false = refl

pub fed_fits : (l : Lent) (piece : List ℕ) (w v : World) → v ≡ fed l piece w → {n : ℕ} → length w.reply ≡ n → length v.reply ≡ n
fed_fits l piece w v p h = ap (λ (z : World). length z.reply) p ∙ ap length (fed_room l piece w) ∙ h

-- ---- the end

module _ (l : Lent) (w v : World) where
  -- the one reply, whatever it says, leaves status 0
  pub finish_told : v ≡ settled l w → length w.reply ≡ 4112 → {x : Result ℕ Failure} → x ≡ ended_by (whether (eqb v.e.up.burn 0)) → {s : ℕ} {u : World}
      → out_of s u ≡ ends_by 0x12 x v → out_of 0 u ≡ finishes l w
  unfolding finishes ends
  finish_told r h q p =
      let k : length v.reply ≡ 4112 = ap (λ (z : World). length z.reply) r ∙ ap length (settled_room l w) ∙ h in
      ap (λ (o : Out). out_of 0 o.w) (p ∙ ap (λ (x : Result ℕ Failure). ends_by 0x12 x v) q ∙ whether_is 0x12 (eqb v.e.up.burn 0) v k) ∙ ap said_of r

module _ (l : Lent) (n : ℕ) (w : World) where
  -- the world of a stream that has begun
  abbrev first : World
  first = at_e (with_up (started n w.e.up) w.e) w

  begin_by : (b : Bool) → w.e.up.valid ≡ b → begins l n w ≡ cond b (streamed_by l first) (ends 0x12 fail w)
  unfolding begins
  begin_by b t = ap (λ (b : Bool). cond b (streamed_by l first) (ends 0x12 fail w)) t

  pub begin_not : w.e.up.valid ≡ false → length w.reply ≡ 4112 → {o : Out} → o ≡ ends_by 0x12 (Err Failed) w → o ≡ begins l n w
  begin_not t h p = p ∙ ends_is 0x12 fail w h tt ∙ sym (begin_by false t)
