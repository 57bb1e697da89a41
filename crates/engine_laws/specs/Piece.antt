-- A piece of an open stream alone in a write (01, 'Frame rules'). To an engine in bounds, bytes that do not end the stream are one turn:
-- they go to the target, where there is one, and status is 0 (`piece_goes`). So such a write is what the storage is told of the bytes,
-- counted (`fed_stored`), and what an opening fixed of the store stays (`stored_shape`).
use Rattle.std.specs.Prelude.{◌≡◌, refl, Bool, true, false, cond, List, ℕ, ◌+◌, ◌<◌, length}
use Rattle.std.proofs.Common.{◌∙◌}
use Rattle.storage.specs.World.{Lent, dev, Told, told}
use Rattle.storage.specs.Store.{good, writing}
use Rattle.storage_laws.specs.Bounds.{either, writing_shape}
use Rattle.engine.specs.declared.types.Engine.{Engine}
use Rattle.engine.specs.World.{Given, World, dev_of, out_of}
use Rattle.engine.specs.Stream.{fed_by, fed}
use Rattle.engine.specs.Api.{fits, writes}
use Rattle.engine_laws.specs.Bounds.{write_feeds}
use Rattle.engine_laws.specs.Cut.{within_is}

-- THE LAW: a piece that does not end the stream goes to the target, where there is one, and nothing else happens
pub piece_goes : (g : Given) (w : World) (d : List ℕ) → fits g w ≡ true → 0 < length d → length d < w.e.up.left
    → writes g w d ≡ out_of 0 (fed g.lent d w)
piece_goes g w d f h i = write_feeds g w f d ∙ within_is g w d h i

-- what the storage is told of a piece: all of it is taken where there is no target
unfoldable pub stored_by : Lent → List ℕ → Engine → List ℕ → List ℕ → Told
stored_by l d e c b =
    cond e.up.aimed (writing l (e.up.target + e.up.written) d (dev e.store c b)) (told 0 (length d) (dev e.store c b))

fed_either : (w : World) (d : List ℕ) (b : Bool) (t u : Told) → cond b (fed_by w d t) (fed_by w d u) ≡ fed_by w d (cond b t u)
fed_either w d true t u = refl
fed_either w d false t u = refl

-- a piece is what the storage was told of it, counted
pub fed_stored : (l : Lent) (d : List ℕ) (w : World) → fed l d w ≡ fed_by w d (stored_by l d w.e w.chip w.buffer)
unfolding fed stored_by
fed_stored l d w =
    fed_either w d w.e.up.aimed (writing l (w.e.up.target + w.e.up.written) d (dev_of w)) (told 0 (length d) (dev_of w))

-- and the store's shape stays
pub stored_shape : (l : Lent) (d : List ℕ) (e : Engine) (c b : List ℕ) → good l (dev e.store c b) ≡ true
    → (stored_by l d e c b).dev.store.shape ≡ e.store.shape
unfolding stored_by
stored_shape l d e c b g =
    let x = dev e.store c b in
    let p = e.up.target + e.up.written in
    either (λ (t : Told). t.dev.store.shape ≡ e.store.shape) e.up.aimed (writing l p d x) (told 0 (length d) x) (writing_shape l x g p d) refl
