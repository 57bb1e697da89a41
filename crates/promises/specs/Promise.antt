-- The promise (demand 3): from an accepted opening of a NOR, after any calls and packets at all, between frames, an update that is cut
-- across writes anyhow lands whole at its place with every other byte as it was, and the queries behind it tell the truth. The chip
-- may have failed before: from the metadata on no call of it is told to fail. The argument: the two frames are smooth, so that no cut
-- and no read between can be told (Cuts.antt); as one write each does what Update.antt says; and so do the queries (Queries.antt).
-- Nothing is asked that a caller cannot have: proofs/Example.antt has a run that meets every condition. The promise itself, `promise` and
-- `promise_queries`, stands in proofs/Promise.antt; here is what an accepted opening and any calls leave.
use Rattle.std.specs.Prelude.{◌≡◌, true, ℕ, ◌≤◌, length}
use Rattle.std.proofs.Common.{sym, ap, subst, ◌∙◌, arith}
use mathlib.Core.List.{List, [], ◌∷◌}
use Rattle.storage.specs.declared.types.Kind.TheVariants.{Nor}
use Rattle.storage.specs.declared.types.Shape.{Shape}
use Rattle.storage.specs.Open.{nor_store}
use Rattle.storage.specs.Partition.{end_of}
use Rattle.storage_laws.specs.Faults.{QuietFrom}
use Rattle.storage_laws.specs.View.{Shows, view}
use Rattle.storage_laws.specs.Reasons.{nor_opening_lem}
use Rattle.engine.specs.World.{Given, World, at_e, dev_of, Out}
use Rattle.engine.specs.Api.{fits, fresh, Opening}
use Rattle.engine_laws.specs.Bounds.{Call, write, read, reset, after, after_all, write_feeds, write_fits, read_fits, reset_fits, nor_opening, nor_opening_is, nor_opening_fits}
use Rattle.engine_laws.specs.Carry.{feeds_left}
use Rattle.engine_laws.specs.Split.{Steady, order_steady, On, on_start, on_closed}
use Rattle.engine_laws.specs.Cut.{Quiet}
use Rattle.transport.specs.Port.{idle}
use Rattle.promises.specs.Runs.{Act, session, acted_all, all_calls, run_calls, session_fits}
use Rattle.promises.specs.Aside.{read_at_said}

-- ---- after any calls at all

module _ (g : Given) (w : World) where
  -- every call leads the storage on
  call_on : (v : World) (c : Call) → fits g v ≡ true → On g.lent (dev_of w) (dev_of v) → (fits g (after g v c) ≡ true) × On g.lent (dev_of w) (dev_of (after g v c))
  call_on v (write d) f o =
      let l = g.lent in
      (write_fits g v f d, subst (λ (x : Out). On l (dev_of w) (dev_of x.w)) (sym (write_feeds g v f d)) ((feeds_left g (On l (dev_of w)) (on_closed l (dev_of w)) v d).stays.store o))
  call_on v (read room) f o = (read_fits g v f room, subst (λ (x : World). On g.lent (dev_of w) (dev_of x)) (sym (read_at_said g v f room)) o)
  call_on v reset f o = (reset_fits g v f, o)

  run_on : (cs : List Call) (v : World) → fits g v ≡ true → On g.lent (dev_of w) (dev_of v) → On g.lent (dev_of w) (dev_of (after_all g v cs))
  unfolding after_all
  run_on [] v f o = o
  run_on (c ∷ cs) v f o = let k = call_on v c f o in run_on cs (after g v c) k.0 k.1

module _ (g : Given) (parts : World) (base stage device : ℕ) (e : (nor_opening g parts base stage device).number ≡ 0) (acts : List Act) where
  -- the engine as it is opened, and after these calls and packets
  abbrev pub opened : World
  opened = at_e (nor_opening g parts base stage device).e parts

  abbrev pub here : World
  here = (acted_all g (session idle opened) acts).w

  pub here_fits : fits g here ≡ true
  here_fits = session_fits g acts (session idle opened) (nor_opening_fits g parts base stage device e)

  opened_steady : Steady g.lent (dev_of opened)
  opened_steady =
      let s = nor_store (length parts.chip) (end_of g.lists) stage device in
      let i = nor_opening_is g parts base stage device e in
      let o = nor_opening_lem g.lent parts.chip parts.buffer g.lists base (length parts.scratch) stage device s i.1 in
      subst (λ (x : Opening). Steady g.lent (dev_of (at_e x.e parts))) (sym i.0) (order_steady g.lent (dev_of (at_e (fresh base s) parts)) o)

  here_on : On g.lent (dev_of opened) (dev_of here)
  here_on =
      let s = session idle opened in
      subst (λ (x : World). On g.lent (dev_of opened) (dev_of x)) (sym (run_calls g acts s))
      (run_on g opened (all_calls g s acts) opened (nor_opening_fits g parts base stage device e) (on_start g.lent (dev_of opened) opened_steady))

  here_shape : here.e.store.shape ≡ (nor_store (length parts.chip) (end_of g.lists) stage device).shape
  here_shape = here_on.shape ∙ ap (λ (x : Opening). x.e.store.shape) (nor_opening_is g parts base stage device e).0

  -- the chip is as long as it was, and the capacity no less
  pub here_chip : length here.chip ≡ length parts.chip
  here_chip = here_on.chip

  pub here_capacity : length here.chip ≤ here.e.store.shape.capacity
  here_capacity = let c = ap (λ (x : Shape). x.capacity) here_shape in omega (arith, here_chip)

  -- where no call of the chip from here on is told to fail
  pub here_quiet : QuietFrom g.lent.faults here.e.store.calls → Quiet g here
  here_quiet q =
      let k : opened.e.store.shape.kind ≡ Nor = ap (λ (x : Opening). x.e.store.shape.kind) (nor_opening_is g parts base stage device e).0 in
      record {
        kind = ap (λ (x : Shape). x.kind) here_on.shape ∙ k;
        taken = here_on.taken;
        shows = subst (λ (x : Shape). Shows (view (dev_of here)) x (dev_of here)) (sym here_on.shape) (here_on.shows k);
        quiet = q;
      }
