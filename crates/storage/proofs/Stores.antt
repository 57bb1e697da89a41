-- What the tests of a call give to the functions of its kind.
use mathlib.Core.Path.{◌≡◌, sym, ◌∙◌}
use mathlib.Core.Bool.{Bool, true}
use Prim.Native.Nat.{◌≤◌}
use native.Mathlib.Omega.{arith}
use lib.ListN.{length}
use Rattle.storage.specs.declared.types.Kind.TheVariants.{Nand}
use Rattle.storage.specs.World.{Lent, Dev}
use Rattle.storage.specs.Nand.{Sound}
use Rattle.storage.specs.Store.{good}
use Rattle.storage.proofs.Opens as Opened

module _ (l : Lent) (d : Dev) {g : Bool} (p : g ≡ good l d) (h : g ≡ true) where
  numbers : Opened.Sound d.store (length d.chip) (length l.marks) (length d.buf)
  unfolding good
  numbers = Opened.sound d.store (length d.chip) (length l.marks) (length d.buf) (sym p ∙ h)

  pub room : 4096 ≤ length d.buf
  room = numbers.room

  pub shaped : d.store.shape.kind ≡ Nand → Sound l.marks d.store.shape d.buf
  shaped k =
      let n = numbers.nand k in
      record {
        shaped = record {
          page_ok_lem = n.numbers.page_ok_lem;
          page_some = omega (arith, n.numbers.page_low);
          page_most = n.numbers.page_high;
          pages_some = omega (arith, n.numbers.pages_low);
          pages_most = n.numbers.pages_high;
          blocks_most = n.numbers.blocks_high;
          marked = n.marks_are;
          capacity_most = numbers.capacity_most;
        };
        room = numbers.room;
      }
