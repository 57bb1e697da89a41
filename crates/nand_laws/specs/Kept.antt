-- What every call of a NAND store keeps, whatever its chip does: the shape, the sizes of chip and buffer; the number of the next
-- call never falls; and a held page stays on its boundary below the capacity (01, 'In bounds').
use Rattle.std.specs.Prelude.{◌≡◌, refl, true, List, ℕ, ◌/◌, ◌%◌, ◌≤◌, ◌<◌, length, set}
use Rattle.std.proofs.Common.{sym, ap, subst, ◌∙◌, arith, length-set, length-take-le}
use Rattle.std.proofs.Math.Nat.{mul-mod_left}
use Rattle.std.proofs.Math.Seq.{length_front}
use Rattle.storage.specs.declared.types.Shape.{Shape}
use Rattle.storage.specs.declared.types.Store.{Store}
use Rattle.storage.specs.World.{Lent, Dev, dev}
use Rattle.storage.specs.Chip.{next_call}
use Rattle.storage.specs.Fold.{base}
use Rattle.storage.specs.Nor.{freed}
use Rattle.storage.specs.Nand.{Sound, blanks, remember, flushes, flushed, begins, written, erased, read_out}
use Rattle.storage.proofs.Fold.{false_true}
use Rattle.storage.proofs.Programs.{Call}
use Rattle.storage.proofs.NandCalls.{length_blanks}
use Rattle.storage.proofs.NandKeeps.{flushes_keeps, sound_as, sound_with}
use Rattle.storage.proofs.NandMoves.{start_is}
use Rattle.nand_laws.specs.Keeps.{flushed_keeps, written_keeps, erased_keeps, read_out_keeps}
use Rattle.std.specs.Prelude.{Option}

-- a held page starts on its boundary, below the capacity
abbrev pub OnPage : Store → Type 0
OnPage s = s.held ≡ true → (s.at % s.shape.page ≡ 0) × (s.at < s.shape.capacity)

-- what a call that goes from d to e keeps
pub record Kept (d e : Dev) : Type 0 where
  pub shape : e.store.shape ≡ d.store.shape
  pub chip : length e.chip ≡ length d.chip
  pub buf : length e.buf ≡ length d.buf
  pub calls : d.store.calls ≤ 18446744073709551615 → (d.store.calls ≤ e.store.calls) × (e.store.calls ≤ 18446744073709551615)
  pub on : OnPage d.store → OnPage e.store

-- what is kept is enough for the next call
pub kept_sound : {m : List ℕ} {d e : Dev} → Kept d e → Sound m d.store.shape d.buf → Sound m e.store.shape e.buf
kept_sound k s = sound_with k.buf (sound_as k.shape s)

pub kept_refl : (d : Dev) → Kept d d
kept_refl d = record { shape = refl; chip = refl; buf = refl; calls = λ h. (omega arith, h); on = λ h. h }

kept_trans : {d e f : Dev} → Kept d e → Kept e f → Kept d f
kept_trans {d} {e} {f} k m =
    record {
      shape = m.shape ∙ k.shape;
      chip = m.chip ∙ k.chip;
      buf = m.buf ∙ k.buf;
      calls = λ h. (omega (arith, k.calls h, m.calls (k.calls h).1), (m.calls (k.calls h).1).1);
      on = λ h. m.on (k.on h);
    }

-- ---- the steps that others are made of

-- a chip call
call_kept : (d e : Dev) → Call d e → Kept d e
call_kept d e c =
    let n : e.store.calls ≡ next_call d.store.calls = ap (λ (s : Store). s.calls) c.number in
    record {
      shape = ap (λ (s : Store). s.shape) c.number;
      chip = c.size;
      buf = ap length c.buf;
      calls = λ h. (omega arith, omega arith);
      on = λ h. subst (λ (s : Store). OnPage s) (sym c.number) h;
    }

-- another erased block
note_kept : (x : Option ℕ) (d : Dev) → Kept d (remember x d)
note_kept x d = record { shape = refl; chip = refl; buf = refl; calls = λ h. (omega arith, h); on = λ h. h }

-- a page let go
free_kept : (d : Dev) → Kept d (dev (freed d.store) d.chip d.buf)
free_kept d = record { shape = refl; chip = refl; buf = refl; calls = λ h. (omega arith, h); on = λ h t. false_true t }

-- a page begun, where the buffer has room for it
begin_kept : (a : ℕ) (d : Dev) → d.store.shape.page ≤ length d.buf → a % d.store.shape.page ≡ 0 → a < d.store.shape.capacity → Kept d (begins a d)
unfolding begins
begin_kept a d r z l =
    let p = d.store.shape.page in
    record {
      shape = refl;
      chip = refl;
      buf = length_front d.buf (blanks p) p (length_blanks p ∙ sym (length-take-le p d.buf r));
      calls = λ h. (omega arith, h);
      on = λ h t. (z, l);
    }

-- ---- what is made of them

module _ (d : Dev) where
  pub onward : (e f : Dev) → Call e f → Kept d e → Kept d f
  onward e f c k = kept_trans k (call_kept e f c)

  pub noted : (x : Option ℕ) (e : Dev) → Kept d e → Kept d (remember x e)
  noted x e k = kept_trans k (note_kept x e)

  pub let_go : (e : Dev) → Kept d e → Kept d (dev (freed e.store) e.chip e.buf)
  let_go e k = kept_trans k (free_kept e)

  pub with_byte : (i x : ℕ) (e : Dev) → Kept d e → Kept d (dev e.store e.chip (set e.buf i x))
  with_byte i x e k = record { shape = k.shape; chip = k.chip; buf = length-set e.buf i x ∙ k.buf; calls = k.calls; on = k.on }

  -- a page begun below the capacity, where the buffer has room for it
  pub begun : d.store.shape.page ≤ length d.buf → (a : ℕ) (e : Dev) → a < d.store.shape.capacity → Kept d e → Kept d (begins (base d.store.shape.page a) e)
  begun room a e t k =
      let p = d.store.shape.page in
      let q : e.store.shape.page ≡ p = ap (λ (s : Shape). s.page) k.shape in
      let c : e.store.shape.capacity ≡ d.store.shape.capacity = ap (λ (s : Shape). s.capacity) k.shape in
      let z : base p a % p ≡ 0 = ap (λ (n : ℕ). n % p) (sym (start_is p a)) ∙ mul-mod_left (a / p) p in
      kept_trans k (begin_kept (base p a) e (omega (arith, k.buf)) (rw q z) (omega arith))

module _ (l : Lent) (d : Dev) where
  pub flushes_kept : Kept d (flushes l d).dev
  flushes_kept = flushes_keeps (Kept d) (onward d) (noted d) l (let_go d) d (kept_refl d)

  pub flushed_kept : Kept d (flushed l d).dev
  flushed_kept = flushed_keeps (Kept d) (onward d) (noted d) l (let_go d) d (kept_refl d)

  -- a write, where the buffer has room for a page
  pub written_kept : d.store.shape.page ≤ length d.buf → (off : ℕ) (xs : List ℕ) → Kept d (written l off xs d).dev
  written_kept room = written_keeps (Kept d) (onward d) (noted d) l (let_go d) d (kept_refl d) (begun d room) (with_byte d)

  pub erased_kept : (start size : ℕ) → Kept d (erased l start size d).dev
  erased_kept = erased_keeps (Kept d) (onward d) (noted d) l (let_go d) d (kept_refl d)

  pub read_out_kept : (off : ℕ) (room : List ℕ) → Kept d (read_out l off room d).told.dev
  read_out_kept = read_out_keeps (Kept d) (onward d) (noted d) l (let_go d) d (kept_refl d)
