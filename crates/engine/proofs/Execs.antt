-- How a frame is executed, case by case, as the code goes.
use Rattle.std.proofs.Common.{◌≡◌, ℕ, ◌+◌, ◌-◌, ◌≤◌, Bool, true, false, cond, ◌&&◌, leb, Option, None, Some, Result, List, [], length, take, drop, sym, refl, ap, ◌∙◌, arith}
use Rattle.engine.specs.declared.types.Engine.{Engine}
use Rattle.engine.specs.declared.types.Failure.{Failure}
use Rattle.engine.specs.World.{Given, World, at_e, Out}
use Rattle.engine.specs.Reply.{ok, fail, placed, Gone, going, ends_by}
use Rattle.engine.specs.Command.{pair_of, inside, wrote, write_by, write_of}
use Rattle.std.proofs.lemmas.List.{length-take, drop-take, take-take}
use Rattle.engine.specs.Exec.{runs, IsOrder, begun, answered, performed, performs, exec_by, execs}
use Rattle.engine.proofs.Commands.{laid_none}
use Rattle.engine.proofs.Replies.{ends_is}
use Rattle.engine.proofs.Tidies.{runs_tidy}

-- ---- a command

-- WRITE leaves the reply room
pub write_none : (base : ℕ) (x d p : List ℕ) → placed (write_of base x d).answer p ≡ p
unfolding write_of
write_none base x d p = go (pair_of d)
  where
    by : (b : Bool) (y z : List ℕ) → placed (cond b (wrote (ok []) y) (wrote fail z)).answer p ≡ p
    by true y z = laid_none p 16
    by false y z = refl

    go : (q : Option (ℕ × ℕ)) → placed (write_by base x d q).answer p ≡ p
    go None = refl
    go (Some (addr, len)) = by (leb len (length d - 8) && inside base (length x) addr len) _ x

-- how a command ended that left such a world
abbrev ended : Result ℕ Failure → World → Gone
ended x w = record { ended = x; w = w }

-- it is run, and answered
pub answer_told : (g : Given) (c : ℕ) (d : List ℕ) (w : World) → length w.reply ≡ 4112 → {x : Gone} → x ≡ going (runs g c d w) → {o : Out} → o ≡ ends_by c x.ended x.w
    → o ≡ answered c (runs g c d w)
answer_told g c d w h p q =
    let t = runs_tidy g c d w in
    q ∙ ap (λ (x : Gone). ends_by c x.ended x.w) p ∙ ends_is c (runs g c d w).answer (runs g c d w).w (ap length t.keeps.reply ∙ h) t.brief

pub perform_told : (g : Given) (c : ℕ) (d : List ℕ) (w : World) → length w.reply ≡ 4112 → {f : Engine} → f ≡ begun c w.e → {x : Gone} → x ≡ going (runs g c d (at_e f w))
    → {o : Out} → o ≡ ends_by c x.ended x.w → o ≡ performed g c d w
perform_told g c d w h {f} r p s = answer_told g c d (at_e f w) h p s ∙ ap (λ (f : Engine). answered c (runs g c d (at_e f w))) r

-- ---- a frame

-- the data of a frame are a part of the room that holds it
data_in : (t : ℕ) (q d : List ℕ) → 16 + length d ≤ length (take t q) → d ≡ take (length d) (drop 16 (take t q)) → d ≡ take (length d) (drop 16 q)
data_in t q d h e =
    let l = length-take t q in
    let k : 16 + (t - 16) ≡ t = omega arith in
    e ∙ ap (λ (n : ℕ). take (length d) (drop 16 (take n q))) (sym k) ∙ ap (take (length d)) (drop-take 16 (t - 16) q) ∙ take-take (length d) (t - 16) (drop 16 q) (omega arith)

module _ (g : Given) (w : World) where
  pub exec_run : {c : ℕ} {d : List ℕ} → IsOrder (take w.e.frame.total w.request) c d → {o : Out} → o ≡ performed g c d w → o ≡ execs g w
  unfolding execs performs
  exec_run {c} {d} h s =
      s ∙ ap (λ (x : List ℕ). performed g c x w) (data_in w.e.frame.total w.request d h.whole h.within) ∙ ap (exec_by g w) (sym h.asked)
