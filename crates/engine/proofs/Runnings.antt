-- The device table of `get_bootdevice`, laid into its window.
use Rattle.std.proofs.Common.{◌≡◌, ℕ, ◌+◌, ◌-◌, ◌%◌, ◌^◌, ◌≤◌, List, ◌++◌, length, take, drop, Option, Some, None, Ok, ok_or, sym, ap, ◌∙◌, subst, append_assoc, arith}
use borrow.Rule.Slice.PartMut.{put_mid, mid_len, Post-is}
use lib.Seq.{sets, sets-eq}
use Rattle.storage.specs.Open.{block_size_of}
use Rattle.engine.specs.declared.types.Engine.{Engine}
use Rattle.engine.specs.declared.types.Failure.TheVariants.{Failed}
use Rattle.engine.specs.declared.shell.Window.{Window}
use Rattle.engine.specs.World.{world}
use Rattle.engine.specs.Reply.{gone, going}
use Rattle.engine.specs.Shell.{boot_table}
use Rattle.engine.specs.Running.{Held, run_boot}
use Rattle.engine.proofs.Tables.{boot_length, boot_wraps}
use Rattle.engine.proofs.Commands.{laid_none}

-- ---- what `ok_or` and its `?` give

pub some_of : {A : Type 0} (o : Option A) {x : A} → ok_or o Failed ≡ Ok x → o ≡ Some x
some_of None e = absurd cc
some_of (Some y) e = cc

-- ---- `get_bootdevice`

-- the end of a window is within scratch
held_end : {size : ℕ} {at : Window} {win : Option Window} → Held win size → win ≡ Some at → at.place + at.len ≤ size
held_end {size} k h = subst (λ (v : Option Window). Held v size) h k

-- a part that comes back is laid over the whole
part_back : (a n : ℕ) (x y : List ℕ) → a + n ≤ length x → length y ≡ n → put_mid a (a + n - a) x y ≡ sets x a y
part_back a n x y h k =
    ap (λ (z : List ℕ). take a x ++ (y ++ z)) (Post-is a (a + n) x (omega arith) ∙ ap (λ (m : ℕ). drop (a + m) x) (sym k))
    ∙ sym (append_assoc (take a x) y (drop (a + length y) x)) ∙ sym (sets-eq y x a (rw k h))

module _ (e : Engine) (q p c b x : List ℕ) {win : Option Window} where
  pub boot_told : {at : Window} → win ≡ Some at → Held win (length x) → {n m : ℕ} → n ≡ block_size_of e.store → m ≡ e.store.shape.capacity
      → {y : List ℕ} → y ≡ boot_table e.base (at.place % 2 ^ 32) n m (take (at.place + at.len - at.place) (drop at.place x))
      → gone (Ok 0) (world e q p c b (put_mid at.place (at.place + at.len - at.place) x y)) ≡ going (run_boot win (world e q p c b x))
  unfolding run_boot
  boot_told {at} h k {n} {m} i j {y} t =
      let g : at.place + at.len ≤ length x = held_end k h in
      let f : at.place + at.len - at.place ≡ at.len = omega arith in
      let z : length y ≡ at.len = ap length t ∙ boot_length _ _ _ _ (take (at.place + at.len - at.place) (drop at.place x)) ∙ mid_len at.place (at.place + at.len) x g ∙ f in
      rw (h, laid_none p 16, part_back at.place at.len x y g z, t, i, j, f, boot_wraps)
