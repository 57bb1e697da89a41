-- The cut law by what a caller sees, whatever the chip does. A NOR write that stopped has left a byte uncounted, or has counted all
-- and stands at a sector's end with the full sector still held, since its flush failed. So where every byte is counted and no full
-- sector waits, nothing failed, and a write of both parts is the one and then the other. The second condition is needed: after a
-- failed flush at a sector's end the write of both stops, while a second call flushes once more.
use Rattle.std.specs.Prelude.{◌≡◌, Bool, cond, ◌⊎◌, eqb, take, set}
use Rattle.std.proofs.Math.Path.{refl, sym}
use Rattle.std.proofs.Common.{ap, ◌∙◌, eqb-true, length-append}
use Rattle.std.proofs.Math.Bool.{true, false}
use mathlib.Core.List.{List, [], ◌∷◌, ◌++◌}
use Rattle.std.proofs.Math.Logic.{inl, inr, ⊎_elim}
use Prim.Native.Nat.{ℕ, suc, ◌+◌, ◌-◌, ◌%◌, ◌≤◌, ◌<◌}
use native.Mathlib.Omega.{arith}
use Rattle.std.proofs.Math.ListN.{length}
use Rattle.storage.specs.declared.types.Store.{Store}
use Rattle.storage.specs.World.{Dev, dev, Out, out, and_then, Told, told}
use Rattle.storage.specs.Fold.{Run, run, seals, step, writes}
use Rattle.storage.specs.Nor.{erase_sector, write_bytes, freed, flushes, loads, closes, written}
use Rattle.storage.proofs.Programs.{Call}
use Rattle.storage.proofs.Sectors.{erase_call, write_call}
use Rattle.storage.proofs.Fold.{false_true, stopped, reached, no_less}
use Rattle.storage.proofs.Nors.{written_told}
use Rattle.nand_laws.specs.Cut.{both}
use Rattle.storage_laws.specs.Stream.{split}

then_stuck : (o : Out) (f : Dev → Out) (H : Dev → Type 0) → H o.dev → ((e : Dev) → H e → (f e).ok ≡ false → H (f e).dev) → (and_then o f).ok ≡ false → H (and_then o f).dev
then_stuck o f H h k = go o.ok
  where
    go : (b : Bool) → (cond b (f o.dev) o).ok ≡ false → H (cond b (f o.dev) o).dev
    go true e = k o.dev h e
    go false e = h

called_held : (d e : Dev) → Call d e → d.store.held ≡ true → e.store.held ≡ true
called_held d e c h = ap (λ (s : Store). s.held) c.number ∙ h

module _ (F : List ℕ) where
  -- a flush that fails keeps the sector
  pub flush_stuck : (d : Dev) → (flushes F d).ok ≡ false → (flushes F d).dev.store.held ≡ true
  unfolding flushes
  flush_stuck d = go d.store.held refl
    where
      a : ℕ
      a = d.store.at

      xs : List ℕ
      xs = take 4096 d.buf

      H : Dev → Type 0
      H e = e.store.held ≡ true

      E : Dev → Out
      E w = out true (dev (freed w.store) w.chip w.buf)

      W : Dev → Out
      W e = and_then (write_bytes F a xs e) E

      go : (b : Bool) → d.store.held ≡ b → (cond b (and_then (erase_sector F a d) W) (out true d)).ok ≡ false → (cond b (and_then (erase_sector F a d) W) (out true d)).dev.store.held ≡ true
      go true h =
          then_stuck (erase_sector F a d) W H (called_held d _ (erase_call F a d) h)
          (λ e k. then_stuck (write_bytes F a xs e) E H (called_held e _ (write_call F a xs e) k) (λ w m t. false_true (sym t)))
      go false h = λ t. false_true (sym t)

  -- the write came to no byte past the n-th address, or stands at a full sector that is held
  Stuck : ℕ → Run → Type 0
  Stuck n o = (o.at < n) ⊎ ((o.at % 4096 ≡ 0) × (o.dev.store.held ≡ true))

  step_stuck : (a x : ℕ) (d : Dev) → (step 4096 (loads F) (closes F) (run true a d) x).ok ≡ false → Stuck (a + 1) (step 4096 (loads F) (closes F) (run true a d) x)
  unfolding step seals closes Stuck
  step_stuck a x d = go l.ok (eqb ((a + 1) % 4096) 0) refl
    where
      l : Out
      l = loads F a d

      e : Dev
      e = dev l.dev.store l.dev.chip (set l.dev.buf (a % 4096) x)

      f : Bool → Out
      f c = cond c (flushes F e) (out true e)

      o : Bool → Bool → Run
      o b c = cond b (run (f c).ok (a + 1) (f c).dev) (run false a l.dev)

      go : (b c : Bool) → eqb ((a + 1) % 4096) 0 ≡ c → (o b c).ok ≡ false → ((o b c).at < a + 1) ⊎ (((o b c).at % 4096 ≡ 0) × ((o b c).dev.store.held ≡ true))
      go true true q t = inr (eqb-true ((a + 1) % 4096) 0 q, flush_stuck e t)
      go true false q t = false_true (sym t)
      go false c q t = inl (omega arith)

  stuck_on : (m n : ℕ) (o : Run) → m ≤ n → Stuck m o → Stuck n o
  unfolding Stuck
  stuck_on m n o h s = ⊎_elim (λ l. inl (omega arith)) (λ r. inr r) s

  -- after the first byte: it went on, and what is left stopped, or it stopped there
  rest_stuck : (xs : List ℕ) (a : ℕ) (b : Bool) (i : ℕ) (e : Dev) → (b ≡ true → i ≡ a + 1) → (b ≡ false → Stuck (a + 1) (run b i e))
      → ((j : ℕ) → (writes 4096 (loads F) (closes F) xs (run true j e)).ok ≡ false → Stuck (j + length xs) (writes 4096 (loads F) (closes F) xs (run true j e)))
      → (writes 4096 (loads F) (closes F) xs (run b i e)).ok ≡ false → Stuck (a + suc (length xs)) (writes 4096 (loads F) (closes F) xs (run b i e))
  rest_stuck xs a true i e h k rec t = let q : i ≡ a + 1 = h refl in stuck_on (i + length xs) (a + suc (length xs)) _ (omega arith) (rec i t)
  rest_stuck xs a false i e h k rec t = rw (stopped 4096 (loads F) (closes F) xs i e) (stuck_on (a + 1) (a + suc (length xs)) _ (omega arith) (k refl))

  writes_stuck : (xs : List ℕ) (a : ℕ) (d : Dev) → (writes 4096 (loads F) (closes F) xs (run true a d)).ok ≡ false
      → Stuck (a + length xs) (writes 4096 (loads F) (closes F) xs (run true a d))
  unfolding writes
  writes_stuck [] a d t = false_true (sym t)
  writes_stuck (x ∷ xs) a d t =
      let s = step 4096 (loads F) (closes F) (run true a d) x in
      rest_stuck xs a s.ok s.at s.dev (λ e. reached 4096 (loads F) (closes F) (x ∷ []) a d e) (λ e. step_stuck a x d e) (λ j. writes_stuck xs j s.dev) t

  -- every byte is counted, and no full sector waits for its flush: nothing failed
  module _ (xs : List ℕ) (a : ℕ) (d : Dev) (c : a + length xs ≤ d.store.shape.capacity) (n : (written F a xs d).count ≡ length xs)
      (w : (a + length xs) % 4096 ≡ 0 → (written F a xs d).dev.store.held ≡ false) where
    not_stuck : (o : Run) → o ≡ writes 4096 (loads F) (closes F) xs (run true a d) → Stuck (a + length xs) o → ⊥
    unfolding Stuck
    not_stuck o q s =
        let r : written F a xs d ≡ told 0 (o.at - a) o.dev = sym (written_told F a xs d c q) in
        let m : o.at - a ≡ length xs = sym (ap (λ (t : Told). t.count) r) ∙ n in
        let l : a ≤ o.at = no_less 4096 (loads F) (closes F) xs a d q in
        let at : o.at ≡ a + length xs = omega arith in
        let v : (a + length xs) % 4096 ≡ 0 → o.dev.store.held ≡ false = λ z. sym (ap (λ (t : Told). t.dev.store.held) r) ∙ w z in
        ⊎_elim (λ k. omega arith) (λ k. false_true (sym (v (rw (← at) k.0)) ∙ k.1)) s

    pub full_ok : (writes 4096 (loads F) (closes F) xs (run true a d)).ok ≡ true
    full_ok = go (writes 4096 (loads F) (closes F) xs (run true a d)).ok refl
      where
        go : (b : Bool) → (writes 4096 (loads F) (closes F) xs (run true a d)).ok ≡ b → (writes 4096 (loads F) (closes F) xs (run true a d)).ok ≡ true
        go true e = e
        go false e = absurd (not_stuck _ refl (writes_stuck xs a d e))

  -- the cut law: where the first part was written in full and no full sector waits, a write of both is the one and then the other
  pub cut : (xs ys : List ℕ) (a : ℕ) (d : Dev) → a + length (xs ++ ys) ≤ d.store.shape.capacity → (written F a xs d).count ≡ length xs
      → ((a + length xs) % 4096 ≡ 0 → (written F a xs d).dev.store.held ≡ false) → written F a (xs ++ ys) d ≡ both (written F) a xs ys d
  cut xs ys a d c n w =
      let m = length-append xs ys in
      split F xs ys a d (full_ok xs a d (omega arith) n w) c
