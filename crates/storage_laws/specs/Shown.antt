-- Whatever its chip does, a NOR store goes on to show something: each call, failed or not, leaves a state of which the laws of View,
-- Stream and Whole speak. So these hold after faults too. And a state that passes the tests of every call is such a state, where a
-- held sector lies within the chip.
use Rattle.std.specs.Prelude.{◌≡◌, refl, Bool, true, false, cond, List, ℕ, ◌+◌, ◌%◌, ◌≤◌, ◌<◌, length, take}
use Rattle.std.proofs.Common.{sym, ap, subst, ◌∙◌, le_refl, arith, length-take}
use Rattle.storage.specs.declared.types.Kind.{Kind}
use Rattle.storage.specs.declared.types.Kind.TheVariants.{Nor}
use Rattle.storage.specs.declared.types.Shape.{Shape}
use Rattle.storage.specs.declared.types.Store.{Store}
use Rattle.storage.specs.World.{Lent, Dev}
use Rattle.storage.specs.Chip.{next_call, over}
use Rattle.storage.specs.Nor.{flushes, written, erased, read_out}
use Rattle.storage.specs.Open.{by_kind}
use Rattle.storage.specs.Store.{good}
use Rattle.storage.proofs.Fold.{false_true}
use Rattle.storage.proofs.Over.{length_over}
use Rattle.storage.proofs.Opens.{sound}
use Rattle.storage.proofs.Programs.{Call}
use Rattle.storage_laws.specs.Steps.{Steps, flushes_along, written_along, erased_along, read_out_along}
use Rattle.storage_laws.specs.View.{Shows, view}

-- a held sector starts on its boundary, within n bytes
abbrev Within : ℕ → Store → Type 0
Within n s = s.held ≡ true → (s.at % 4096 ≡ 0) × (s.at + 4096 ≤ n)

-- what is shown is as long as the chip
view_long : (d : Dev) → Within (length d.chip) d.store → length (view d) ≡ length d.chip
unfolding view
view_long d h = go d.store.held refl
  where
    go : (b : Bool) → d.store.held ≡ b → length (cond b (over d.store.at (take 4096 d.buf) d.chip) d.chip) ≡ length d.chip
    go true t = length_over d.store.at (take 4096 d.buf) d.chip (simp length-take (omega (arith, (h t).1)))
    go false t = refl

-- a store over whole sectors, with room for one and a held one within the chip, shows its own view
self_shows : (sh : Shape) (d : Dev) → 4096 ≤ length d.buf → length d.chip % 4096 ≡ 0 → Within (length d.chip) d.store → d.store.shape ≡ sh
    → d.store.calls ≤ 18446744073709551615 → Shows (view d) sh d
self_shows sh d r w o f c = record { room = r; whole = w; on = o; long = sym (view_long d o); fixed = f; is = refl; calls = c }

-- as does one that passes the tests of every call, where a held sector lies within the chip
pub good_shows : (l : Lent) (d : Dev) → good l d ≡ true → d.store.shape.kind ≡ Nor → (d.store.held ≡ true → d.store.at < length d.chip)
    → d.store.calls ≤ 18446744073709551615 → Shows (view d) d.store.shape d
unfolding good
good_shows l d t k b c =
    let s = sound d.store (length d.chip) (length l.marks) (length d.buf) t in
    let w : length d.chip % 4096 ≡ 0 = (s.nor k).chip_whole in
    let z : d.store.held ≡ true → d.store.at % 4096 ≡ 0 = λ h. ap (λ (x : Kind). d.store.at % by_kind x 4096 d.store.shape.page) (sym k) ∙ s.held_start h in
    self_shows d.store.shape d s.room w (λ h. (z h, omega (arith, z h, b h))) refl c

-- a chip call leaves a state that shows something
called_self : (sh : Shape) (d e : Dev) → Call d e → Shows (view d) sh d → Shows (view e) sh e
called_self sh d e c s =
    let n : e.store.calls ≡ next_call d.store.calls = ap (λ (r : Store). r.calls) c.number in
    let b : length e.buf ≡ length d.buf = ap length c.buf in
    let w : length d.chip % 4096 ≡ 0 = s.whole in
    self_shows sh e (omega (arith, s.room)) (rw c.size w)
    (subst (λ (r : Store). Within (length e.chip) r) (sym c.number) (rw c.size s.on))
    (ap (λ (r : Store). r.shape) c.number ∙ s.fixed) (omega arith)

-- and so does every step
self_steps : (sh : Shape) (top : ℕ) → Steps (λ (e : Dev). Shows (view e) sh e) top
self_steps sh top =
    record {
      called = called_self sh;
      freed = λ d s. self_shows sh _ s.room s.whole (λ t. false_true t) s.fixed s.calls;
      holding = λ a d z l i s. self_shows sh _ s.room s.whole (λ t. (z, omega (arith, s.room))) s.fixed s.calls;
      buffer = λ b d q s. self_shows sh _ (omega (arith, s.room)) s.whole s.on s.fixed s.calls;
    }

module _ (F : List ℕ) (v : List ℕ) (sh : Shape) (d : Dev) (s : Shows v sh d) where
  self : Shows (view d) sh d
  self = subst (λ (l : List ℕ). Shows l sh d) (sym s.is) s

  -- a flush leaves a state that shows something
  pub flushes_shown : (let e = (flushes F d).dev in Shows (view e) sh e)
  flushes_shown = flushes_along F _ 0 (self_steps sh 0) d self

  -- so does a write
  pub written_shown : (off : ℕ) (xs : List ℕ) → (let e = (written F off xs d).dev in Shows (view e) sh e)
  written_shown off xs = written_along F _ _ (self_steps sh d.store.shape.capacity) off xs d (le_refl _) self

  -- so does an erase
  pub erased_shown : (start size : ℕ) → (let e = (erased F start size d).dev in Shows (view e) sh e)
  erased_shown start size = erased_along F _ 0 (self_steps sh 0) start size d self

  -- so does a read
  pub read_out_shown : (off : ℕ) (room : List ℕ) → (let e = (read_out F off room d).told.dev in Shows (view e) sh e)
  read_out_shown off room = read_out_along F _ 0 (self_steps sh 0) off room d self
