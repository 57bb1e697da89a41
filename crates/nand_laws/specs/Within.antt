-- A NAND store in order: what the laws of its calls ask of a state, that the steps which the calls are made of keep it, and that it can
-- be met.
use Rattle.std.specs.Prelude.{◌≡◌, true, List, [], ◌∷◌, ◌++◌, ℕ, zero, suc, ◌+◌, ◌*◌, ◌/◌, ◌%◌, ◌≤◌, ◌<◌, length, take, drop, set, get_or}
use Rattle.std.proofs.Common.{sym, ap, subst, ◌∙◌, mul_comm, arith, length-set, length-take-le, take_at}
use Rattle.std.proofs.Math.Nat.{mul-mod_left}
use Rattle.std.proofs.Math.Seq.{length_front, take-set-lt}
use Rattle.storage.specs.declared.types.Kind.{Kind}
use Rattle.storage.specs.declared.types.Kind.TheVariants.{Nand}
use Rattle.storage.specs.World.{Lent, Dev, dev}
use Rattle.storage.specs.Fold.{base}
use Rattle.storage.specs.Open.{nand_store, by_kind}
use Rattle.storage.specs.Nand.{block_size, blanks, noting, begins}
use Rattle.storage.specs.Store.{good}
use Rattle.storage.proofs.Fold.{false_true}
use Rattle.storage.proofs.Opens.{sound}
use Rattle.storage.proofs.NandCalls.{length_blanks}
use Rattle.storage.proofs.NandMoves.{start_is}
use Rattle.std.specs.Prelude.{Option}

-- ---- what is asked of a state, and of a range

abbrev pub Bytes : List ℕ → Type 0
Bytes xs = (i : ℕ) → get_or xs i 0 < 256

-- the bytes of the held page, and the number of its block
abbrev pub page_of : Dev → List ℕ
page_of d = take d.store.shape.page d.buf

abbrev pub block_of : Dev → ℕ
block_of d = d.store.at / block_size d.store

-- a store of a sound shape over a whole chip, with room for a page; a held page lies on its boundary within the chip
pub record Within (l : Lent) (d : Dev) : Type 0 where
  pub page_some : 0 < d.store.shape.page
  pub pages_some : 0 < d.store.shape.pages
  pub marked : length l.marks ≡ d.store.shape.blocks
  pub whole : length d.chip ≡ d.store.shape.blocks * block_size d.store
  pub room : d.store.shape.page ≤ length d.buf
  pub on : d.store.held ≡ true → d.store.at % d.store.shape.page ≡ 0
  pub below : d.store.held ≡ true → d.store.at < length d.chip
  pub bytes : d.store.held ≡ true → Bytes (page_of d)

-- n bytes from an address on lie below the capacity and below the chip's end
pub record Inside (d : Dev) (off n : ℕ) : Type 0 where
  pub low : off + n ≤ d.store.shape.capacity
  pub short : off + n ≤ length d.chip

-- ---- bytes below 256

-- 0xFF is a byte
bytes_blanks : (n : ℕ) → Bytes (blanks n)
unfolding blanks
bytes_blanks zero i = omega arith
bytes_blanks (suc n) zero = omega arith
bytes_blanks (suc n) (suc i) = bytes_blanks n i

-- bytes with a byte set in them
bytes_set : (xs : List ℕ) (i x : ℕ) → x < 256 → Bytes xs → Bytes (set xs i x)
bytes_set [] i x k h j = h j
bytes_set (y ∷ ys) zero x k h zero = k
bytes_set (y ∷ ys) zero x k h (suc j) = h (suc j)
bytes_set (y ∷ ys) (suc i) x k h zero = h 0
bytes_set (y ∷ ys) (suc i) x k h (suc j) = bytes_set ys i x k (λ n. h (suc n)) j

-- the front of bytes
pub bytes_take : (n : ℕ) (xs : List ℕ) → Bytes xs → Bytes (take n xs)
bytes_take zero xs h i = omega arith
bytes_take (suc n) [] h i = omega arith
bytes_take (suc n) (x ∷ xs) h zero = h 0
bytes_take (suc n) (x ∷ xs) h (suc i) = bytes_take n xs (λ j. h (suc j)) i

-- a byte before bytes
pub bytes_more : (x : ℕ) (xs : List ℕ) → x < 256 → Bytes xs → Bytes (x ∷ xs)
bytes_more x xs k h zero = k
bytes_more x xs k h (suc i) = h i

-- ---- the steps keep a state within

-- a state with the same page and sizes, which holds nothing more
pub within_as : (l : Lent) (e f : Dev) → f.store.shape ≡ e.store.shape → length f.chip ≡ length e.chip → f.buf ≡ e.buf → f.store.at ≡ e.store.at
    → (f.store.held ≡ true → e.store.held ≡ true) → Within l e → Within l f
within_as l e f shape long buf at held w =
    record {
      page_some = rw shape w.page_some;
      pages_some = rw shape w.pages_some;
      marked = rw shape w.marked;
      whole = rw (shape, long) w.whole;
      room = rw (shape, buf) w.room;
      on = λ t. rw (shape, at) (w.on (held t));
      below = λ t. rw (at, long) (w.below (held t));
      bytes = λ t. rw (shape, buf) (w.bytes (held t));
    }

-- a byte set in the page buffer
pub set_within : (l : Lent) (i x : ℕ) (d : Dev) → i < d.store.shape.page → x < 256 → Within l d → Within l (dev d.store d.chip (set d.buf i x))
set_within l i x d h k w =
    record {
      page_some = w.page_some;
      pages_some = w.pages_some;
      marked = w.marked;
      whole = w.whole;
      room = rw (length-set d.buf i x) w.room;
      on = w.on;
      below = w.below;
      bytes = λ t. subst (λ (ys : List ℕ). Bytes ys) (sym (take-set-lt d.store.shape.page d.buf i x h)) (bytes_set (page_of d) i x k (w.bytes t));
    }

-- a page of 0xFF begun for an address within the chip
pub begin_within : (l : Lent) (p a : ℕ) (f : Dev) → f.store.shape.page ≡ p → Within l f → a < length f.chip → Within l (begins (base p a) f)
unfolding begins
begin_within l p a f q w h =
    let n = f.store.shape.page in
    let long : length (blanks n ++ drop n f.buf) ≡ length f.buf = length_front f.buf (blanks n) n (length_blanks n ∙ sym (length-take-le n f.buf w.room)) in
    record {
      page_some = w.page_some;
      pages_some = w.pages_some;
      marked = w.marked;
      whole = w.whole;
      room = rw long w.room;
      on = λ t. rw q (ap (λ (i : ℕ). i % p) (sym (start_is p a)) ∙ mul-mod_left (a / p) p);
      below = λ t. omega arith;
      bytes = λ t. subst (λ (ys : List ℕ). Bytes ys) (sym (take_at (blanks n) (drop n f.buf) n (length_blanks n))) (bytes_blanks n);
    }

-- ---- that it can be met

-- as with what every call tests before it does anything, where a held page lies within the chip and is of bytes
pub sound_within : (l : Lent) (d : Dev) → good l d ≡ true → d.store.shape.kind ≡ Nand → (d.store.held ≡ true → d.store.at < length d.chip)
    → (d.store.held ≡ true → Bytes (page_of d)) → Within l d
unfolding good
sound_within l d t k b h =
    let s = sound d.store (length d.chip) (length l.marks) (length d.buf) t in
    let n = s.nand k in
    record {
      page_some = omega (arith, n.numbers.page_low);
      pages_some = omega (arith, n.numbers.pages_low);
      marked = n.marks_are;
      whole = n.chip_is ∙ mul_comm (d.store.shape.page * d.store.shape.pages) d.store.shape.blocks;
      room = omega (arith, n.numbers.page_high, s.room);
      on = λ e. ap (λ (x : Kind). d.store.at % by_kind x 4096 d.store.shape.page) (sym k) ∙ s.held_start e;
      below = b;
      bytes = h;
    }

-- as with a store that holds nothing, whatever block was erased last, over any chip of its size and any marks of its blocks
pub within_free : (l : Lent) (page pages blocks capacity stage device : ℕ) (e : Option ℕ) (chip buf : List ℕ) → 0 < page → 0 < pages → length l.marks ≡ blocks
    → length chip ≡ blocks * (page * pages) → page ≤ length buf → Within l (dev (noting e (nand_store page pages blocks capacity stage device)) chip buf)
within_free l page pages blocks capacity stage device e chip buf h k m c r =
    record {
      page_some = h;
      pages_some = k;
      marked = m;
      whole = c;
      room = r;
      on = λ t. false_true t;
      below = λ t. false_true t;
      bytes = λ t. false_true t;
    }
