-- A write's bytes, cut where the engine's state changes kind; each piece is one turn (protocol.rs `transport_write`).
use Rattle.std.specs.Prelude.{◌≡◌, ℕ, zero, suc, ◌-◌, ◌<◌, ◌≤◌, cond, List, [], ◌∷◌, length, take, drop, ◌==◌, ◌≢◌}
use Rattle.engine.specs.declared.types.Engine.{Engine}
use Rattle.engine.specs.declared.types.Frame.{Frame}
use Rattle.engine.specs.declared.types.Said.{Said}
use Rattle.engine.specs.World.{Given, World, Out, out_of}
use Rattle.engine.specs.Frame.{gathers}
use Rattle.engine.specs.Stream.{UpFit, streams}

-- ---- what holds between turns (01, 'In bounds')

abbrev pub SaidFit : Said → Type 0
SaidFit s = (s.pos ≤ s.len) × (s.len ≤ 4112)

abbrev pub FrameFit : Frame → Type 0
FrameFit f = (f.total ≡ 0 → f.len < 16) × ((f.total ≢ 0) → f.len < f.total) × (f.total ≤ 8208)

-- within a turn
pub record Mid (w : World) : Type 0 where
  pub request : length w.request ≡ 8208
  pub reply : length w.reply ≡ 4112
  pub said : SaidFit w.e.said
  pub up : UpFit w.e.up

-- between turns
pub record Fit (w : World) : Type 0 where
  pub mid : Mid w
  pub frame : FrameFit w.e.frame

-- ---- a turn

-- how many bytes the engine takes before its state changes kind: the stream's, else the header's, else the frame's
abbrev pub want_by : ℕ → Frame → ℕ
want_by left f = cond (left == 0) (cond (f.total == 0) (16 - f.len) (f.total - f.len)) left

abbrev pub want_of : Engine → ℕ
want_of e = want_by e.up.left e.frame

unfoldable pub turns : Given → List ℕ → World → Out
turns g p w = cond (w.e.up.left == 0) (gathers g p w) (streams g.lent p w)

-- ---- turn after turn

-- where a turn's status is 0, what k makes of the world that it leaves
unfoldable pub then_by : Out → (World → Out) → Out
then_by o k = cond (o.status == 0) (k o.w) o

-- the bytes of a turn: what is wanted, and never none
abbrev pub cut_of : World → ℕ
cut_of w = suc (want_of w.e - 1)

-- the pieces, one after the other, until one has a status other than 0. The number bounds how many there are
unfoldable pub goes : Given → ℕ → World → List ℕ → Out
goes g zero w d = out_of 0 w
goes g (suc k) w [] = out_of 0 w
goes g (suc k) w (b ∷ bs) = then_by (turns g (take (cut_of w) (b ∷ bs)) w) (λ v. goes g k v (drop (cut_of w) (b ∷ bs)))

unfoldable pub feeds : Given → World → List ℕ → Out
feeds g w d = goes g (length d) w d
