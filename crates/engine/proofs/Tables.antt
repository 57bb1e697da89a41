-- Laws of the device table: the name's address, the cases of the name, and that the table is as long as its room.
use Rattle.std.proofs.Common.{◌≡◌, ℕ, ◌+◌, ◌%◌, ◌^◌, Bool, true, false, cond, leb, List, length, replicate, sym, refl, ap, ◌∙◌}
use native.Mathlib.Nat.{mod-add-mod, add-mod-mod}
use lib.ListN.{length-replicate}
use lib.Seq.{sets, length-sets}
use Rattle.text.specs.Token.{ascii}
use Rattle.wire.specs.Bytes.{laid}
use Rattle.engine.specs.Shell.{put_word, boot_words, boot_name, boot_table}

laid_length : (s : List ℕ) (at : ℕ) (xs : List ℕ) → length (laid s at xs) ≡ length s
unfolding laid
laid_length s at xs = go (leb (at + length xs) (length s))
  where
    go : (t : Bool) → length (cond t (sets s at xs) s) ≡ length s
    go true = length-sets s at xs
    go false = refl

module _ (base at : ℕ) (s : List ℕ) where
  name_length : length (boot_name base at s) ≡ length s
  unfolding boot_name
  name_length = go (leb 0x52 (length s))
    where
      go : (t : Bool) → length (cond t (put_word (laid s 0x40 (ascii "artinchip spi-nor\0")) 0x24 ((base + at + 0x40) % 2 ^ 32)) s) ≡ length s
      go true = simp laid_length
      go false = refl

-- the table is as long as its room
pub boot_length : (base at block capacity : ℕ) (s : List ℕ) → length (boot_table base at block capacity s) ≡ length s
unfolding boot_table boot_words
boot_length base at block capacity s = name_length base at _ ∙ simp (laid_length, length-replicate)

-- the place counts modulo 2^32, as the sum that is written does
pub boot_wraps : (base at block capacity : ℕ) (s : List ℕ) → boot_table base (at % 2 ^ 32) block capacity s ≡ boot_table base at block capacity s
unfolding boot_table boot_name
boot_wraps base at block capacity s =
    ap (λ (k : ℕ). cond (leb 0x52 (length t)) (put_word (laid t 0x40 (ascii "artinchip spi-nor\0")) 0x24 k) t)
    (sym (mod-add-mod (base + at % 2 ^ 32) (2 ^ 32) 0x40) ∙ ap (λ (k : ℕ). (k + 0x40) % 2 ^ 32) (add-mod-mod base at (2 ^ 32)) ∙ mod-add-mod (base + at) (2 ^ 32) 0x40)
  where
    t : List ℕ
    t = boot_words block capacity (replicate (length s) 0)
