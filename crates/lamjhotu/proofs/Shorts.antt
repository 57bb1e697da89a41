-- Reads and short queries on the state's bytes. Row 9 is tested without the record being put together (`fits_so`, `fits_not`); a state in
-- bounds whose frame is as long as its total is between frames (`idle-so`), so that a query alone is the answer that `query_alone` of
-- engine_laws gives (`query_told`); and a read is the next bytes of the reply (`next_told`, `read_told`).
use mathlib.Core.Path.{◌≡◌, refl, sym, ap, ◌∙◌}
use Rattle.std.specs.Prelude.{Some, Result, Ok, Err}
use mathlib.Core.Bool.{Bool, true, false, ◌&&◌, cond}
use mathlib.Core.List.{List, ◌++◌}
use Prim.Native.Nat.{ℕ, zero, suc, ◌+◌, ◌-◌, ◌^◌, ◌≤◌, min}
use native.Mathlib.Omega.{arith}
use Rattle.std.proofs.lemmas.Bool.{true≢false, cond-true, and_parts}
use borrow.Author.Tests.{le-leb, eqb-true, ne_eqb}
use lib.Dec.{eqb}
use lib.ListN.{length, get_or, take, drop}
use lib.Seq.{sets}
use Rattle.std.proofs.Common.{length-drop, length-take-le}
use Rattle.wire.specs.Bytes.{word_at, laid}
use Rattle.storage.specs.Open.{in_bounds, parts_fit, nor_fits, scratch_ok}
use Rattle.storage.specs.Partition.{lists_ok}
use Rattle.storage.specs.Store.{good}
use Rattle.engine.specs.declared.types.Failure.{Failure}
use Rattle.engine.specs.declared.types.Failure.TheVariants.{Failed, Unsupported, Odd}
use Rattle.engine.specs.declared.types.Engine.{Engine}
use Rattle.engine.specs.declared.types.Frame.{Frame}
use Rattle.engine.specs.declared.types.Said.{Said}
use Rattle.storage.specs.declared.types.Store.{Store}
use Rattle.engine.specs.World.{Given, World, world, with_said, dev_of}
use Rattle.engine.specs.Reply.{status_is, length_is, placing}
use Rattle.engine.specs.Reply as said
use Rattle.engine.specs.Command.{plain, asking}
use Rattle.engine.specs.Short.{alone_of, Answer, answered, answered_by, answer_of, answers}
use Rattle.engine.specs.Feed.{SaidFit, FrameFit}
use Rattle.engine.specs.Api.{rooms_ok, frame_ok, said_ok, bounds_ok, up_ok, engine_ok, fits, writes, reads}
use Rattle.engine.proofs.Commands.{plain_sees}
use Rattle.engine.proofs.Apis.{said_fit, world_fit}
use Rattle.engine.proofs.Replies.{front_is}
use Rattle.engine_laws.specs.Query.{query_alone}
use Rattle.lamjhotu.specs.State.{set_of, pack_over, frame_at, said_at, update_at, shape_at, store_at, unpack_of}
use Rattle.lamjhotu.specs.Calls.{kept, wrote, wrote_by, writes_in, Took, took, reads_in, fits_but, idle_of, Asked, asks, asked, next_by}
use Rattle.lamjhotu.specs.CallLaws.{write_refused, read_refused}
use Rattle.lamjhotu.proofs.Fronts.{unpack_front, kept_by}

-- ---- tests that went so

no_last : (a b c : Bool) {d : Bool} → d ≡ false → false ≡ (a && (b && (c && d)))
no_last false b c h = refl
no_last true false c h = refl
no_last true true false h = refl
no_last true true true h = sym h

no_first : (a b c d : Bool) → (a && b) ≡ false → false ≡ (a && (b && (c && d)))
no_first false b c d h = refl
no_first true false c d h = refl
no_first true true c d h = absurd (true≢false h)

both_so : (a b c : Bool) {d : Bool} → (a && b) ≡ true → d ≡ true → c ≡ (a && (b && (c && d)))
both_so true true true h i = sym i
both_so true true false h i = refl
both_so true false c h i = absurd (true≢false (sym h))
both_so false b c h i = absurd (true≢false (sym h))

with_lists : (a b c l d : Bool) → (a && (b && (c && d))) ≡ true → l ≡ true → (a && (b && (c && (l && d)))) ≡ true
with_lists true true true true d h i = h
with_lists true true true false d h i = absurd (true≢false (sym i))
with_lists true true false l d h i = absurd (true≢false (sym h))
with_lists true false c l d h i = absurd (true≢false (sym h))
with_lists false b c l d h i = absurd (true≢false (sym h))

not_lists : (a b c l d : Bool) → l ≡ false → (a && (b && (c && (l && d)))) ≡ false
not_lists true true true true d i = absurd (true≢false i)
not_lists true true true false d i = refl
not_lists true true false l d i = refl
not_lists true false c l d i = refl
not_lists false b c l d i = refl

not_rest : (a b c l d : Bool) → (a && (b && (c && d))) ≡ false → (a && (b && (c && (l && d)))) ≡ false
not_rest true true true true d h = h
not_rest true true true false d h = refl
not_rest true true false l d h = refl
not_rest true false c l d h = refl
not_rest false b c l d h = refl

-- ---- row 9

module _ (s : List ℕ) (chip marks buffer : ℕ) where
  pub nor_told : {r : Bool} → set_of (get_or s 138 0) ≡ true → r ≡ nor_fits (word_at 8 s 56) (set_of (get_or s 137 0)) (word_at 8 s 88) chip buffer
      → r ≡ (in_bounds (store_at s) && parts_fit (store_at s) chip marks buffer)
  unfolding nor_fits in_bounds parts_fit store_at shape_at
  nor_told h k = rw h k

-- the numbers that were read are the state's
pub numbers_same : (s : List ℕ) (request reply : ℕ) {f : Frame} {a : Said} {x y z : ℕ} {r : Bool} → f ≡ frame_at s → a ≡ said_at s → x ≡ word_at 8 s 32 → y ≡ word_at 8 s 40 → z ≡ word_at 8 s 48
    → r ≡ (rooms_ok request reply && (frame_ok f && (said_ok a && bounds_ok x y z)))
    → (rooms_ok request reply && (frame_ok (frame_at s) && (said_ok (said_at s) && bounds_ok (word_at 8 s 32) (word_at 8 s 40) (word_at 8 s 48)))) ≡ r
numbers_same s request reply {f} {a} {x} {y} {z} h i j k l m =
    ap (λ (f : Frame). rooms_ok request reply && (frame_ok f && (said_ok (said_at s) && bounds_ok (word_at 8 s 32) (word_at 8 s 40) (word_at 8 s 48)))) (sym h)
    ∙ ap (λ (a : Said). rooms_ok request reply && (frame_ok f && (said_ok a && bounds_ok (word_at 8 s 32) (word_at 8 s 40) (word_at 8 s 48)))) (sym i)
    ∙ ap (λ (x : ℕ). rooms_ok request reply && (frame_ok f && (said_ok a && bounds_ok x (word_at 8 s 40) (word_at 8 s 48)))) (sym j)
    ∙ ap (λ (y : ℕ). rooms_ok request reply && (frame_ok f && (said_ok a && bounds_ok x y (word_at 8 s 48)))) (sym k)
    ∙ ap (λ (z : ℕ). rooms_ok request reply && (frame_ok f && (said_ok a && bounds_ok x y z))) (sym l)
    ∙ sym m

module _ (s : List ℕ) (request reply chip buffer scratch marks : ℕ) where
  abbrev fine : Bool
  fine = in_bounds (store_at s) && parts_fit (store_at s) chip marks buffer

  abbrev numbers : Bool
  numbers = frame_ok (frame_at s) && (said_ok (said_at s) && bounds_ok (word_at 8 s 32) (word_at 8 s 40) (word_at 8 s 48))

  pub but_scratch : scratch_ok (word_at 4 s 124) scratch ≡ false → false ≡ fits_but (unpack_of s) request reply chip buffer scratch marks
  unfolding fits_but engine_ok up_ok unpack_of update_at
  but_scratch h = no_last (rooms_ok request reply) numbers fine h

  pub but_numbers : (rooms_ok request reply && numbers) ≡ false → false ≡ fits_but (unpack_of s) request reply chip buffer scratch marks
  unfolding fits_but engine_ok up_ok unpack_of update_at
  but_numbers h = no_first (rooms_ok request reply) numbers fine (scratch_ok (word_at 4 s 124) scratch) h

  pub but_told : {r : Bool} → (rooms_ok request reply && numbers) ≡ true → scratch_ok (word_at 4 s 124) scratch ≡ true → r ≡ fine
      → r ≡ fits_but (unpack_of s) request reply chip buffer scratch marks
  unfolding fits_but engine_ok up_ok unpack_of update_at
  but_told h i j = j ∙ both_so (rooms_ok request reply) numbers fine h i

module _ (g : Given) (s q p c b x : List ℕ) where
  abbrev at_state : World
  at_state = world (unpack_of s) q p c b x

  abbrev but : Bool
  but = fits_but (unpack_of s) (length q) (length p) (length c) (length b) (length x) (length g.lent.marks)

  pub fits_so : but ≡ true → lists_ok g.lists ≡ true → fits g at_state ≡ true
  unfolding fits fits_but good
  fits_so h i =
      with_lists (rooms_ok (length q) (length p)) (engine_ok (unpack_of s)) (good g.lent (dev_of at_state)) (lists_ok g.lists) (scratch_ok (unpack_of s).base (length x)) h i

  pub fits_lists : lists_ok g.lists ≡ false → fits g at_state ≡ false
  unfolding fits
  fits_lists i =
      not_lists (rooms_ok (length q) (length p)) (engine_ok (unpack_of s)) (good g.lent (dev_of at_state)) (lists_ok g.lists) (scratch_ok (unpack_of s).base (length x)) i

  pub fits_not : but ≡ false → fits g at_state ≡ false
  unfolding fits fits_but good
  fits_not h =
      not_rest (rooms_ok (length q) (length p)) (engine_ok (unpack_of s)) (good g.lent (dev_of at_state)) (lists_ok g.lists) (scratch_ok (unpack_of s).base (length x)) h

-- ---- an answer

status_few : (x : Result ℕ Failure) → status_is x ≡ 9 → ⊥
status_few (Ok n) h = omega arith
status_few (Err Failed) h = omega arith
status_few (Err Unsupported) h = omega arith
status_few (Err Odd) h = omega arith

answer_few : (c : ℕ) (e : Engine) (t p : List ℕ) → (answer_of c e t p).status ≡ 9 → ⊥
unfolding answer_of
answer_few c e t p h = status_few (placing (plain c e t) p).ended h

-- the answer from the record's four parts
pub answer_sees : (c : ℕ) (e : Engine) (t p : List ℕ) → answer_of c (asking e.base e.up.burn e.up.run e.store) t p ≡ answer_of c e t p
unfolding answer_of
answer_sees c e t p = ap (λ (a : said.Answer). answered_by c (placing a p)) (plain_sees c e t)

asking_sees : (s : List ℕ) (k : ℕ) (tb p : List ℕ) {st : Store} {base burn run : ℕ} → st ≡ store_at s → base ≡ word_at 4 s 124 → burn ≡ word_at 4 s 116 → run ≡ word_at 4 s 120
    → answer_of k (asking base burn run st) tb p ≡ answer_of k (unpack_of s) tb p
unfolding unpack_of update_at
asking_sees s k tb p a b c e = rw (a, b, c, e) (answer_sees k (unpack_of s) tb p)

-- the answer of a state's record, from its four parts, and its place in the state
pub ask_told : (s rest q p d tb : List ℕ) (k : ℕ) (r : Result ℕ Failure) {st : Store} {base burn run m l : ℕ} {t u v : List ℕ} → length s ≡ 652 → length t ≡ 652 → st ≡ store_at s → base ≡ word_at 4 s 124 → burn ≡ word_at 4 s 116
    → run ≡ word_at 4 s 120 → answered r v ≡ answer_of k (asking base burn run st) tb p → m ≡ status_is r → l ≡ length_is r → u ≡ laid q 0 d
    → t ≡ pack_over s (with_said (record { len = l; pos = 0 }) (unpack_of s)) → asks m (t ++ rest) u v ≡ asked (s ++ rest) q d (answer_of k (unpack_of (s ++ rest)) tb p)
ask_told s rest q p d tb k r {l = l} {v = v} x y a b c e f m n h i =
    let g : answered r v ≡ answer_of k (unpack_of (s ++ rest)) tb p = f ∙ asking_sees s k tb p a b c e ∙ ap (λ (e : Engine). answer_of k e tb p) (sym (unpack_front s rest x)) in
    rw (m, h, kept_by s rest x (λ (e : Engine). with_said (record { len = l; pos = 0 }) e) y i, n) (ap (asked (s ++ rest) q d) g)

-- ---- a query alone, between frames

-- what a state in bounds says whose frame is as long as its total
frame_none : (f : Frame) → FrameFit f → f.len ≡ f.total → f.total ≡ 0
frame_none f h i = go f.total refl
  where
    go : (n : ℕ) → f.total ≡ n → f.total ≡ 0
    go zero e = e
    go (suc n) e = absurd (omega (arith, h.1 (λ z. omega arith)))

module _ (g : Given) (s q p c b x : List ℕ) (f : fits g (world (unpack_of s) q p c b x) ≡ true) (i : idle_of s ≡ true) where
  frame_of : FrameFit (frame_at s)
  unfolding unpack_of
  frame_of = (world_fit g (world (unpack_of s) q p c b x) f).frame

  len_is : word_at 8 s 0 ≡ word_at 8 s 8
  unfolding idle_of
  len_is = eqb-true (word_at 8 s 0) (word_at 8 s 8) (and_parts (eqb (word_at 8 s 0) (word_at 8 s 8)) (eqb (word_at 8 s 48) (word_at 8 s 8)) i).0

  left_is : word_at 8 s 48 ≡ word_at 8 s 8
  unfolding idle_of
  left_is = eqb-true (word_at 8 s 48) (word_at 8 s 8) (and_parts (eqb (word_at 8 s 0) (word_at 8 s 8)) (eqb (word_at 8 s 48) (word_at 8 s 8)) i).1

  total_none : word_at 8 s 8 ≡ 0
  total_none = frame_none (frame_at s) frame_of len_is

  -- the write of a query alone is its answer
  pub query_told : (d : List ℕ) {m n : ℕ} {t u v z : List ℕ} {k : ℕ} → 652 ≤ length s → z ≡ s → alone_of d ≡ Some k → m ≡ n → asks n t u v ≡ asked z q d (answer_of k (unpack_of z) g.table p)
      → wrote m t u v c b x ≡ writes_in g s q p c b x d
  unfolding writes_in unpack_of update_at
  query_told d {t = t} {u = u} {v = v} {k = k} h j a m r =
      let w : World = world (unpack_of s) q p c b x in
      let y : Answer = answer_of k (unpack_of s) g.table p in
      let o : writes g w d ≡ answers w d y = query_alone g w d k f (len_is ∙ total_none) total_none (left_is ∙ total_none) a in
      ap (λ (z : ℕ). wrote z t u v c b x) m
      ∙ ap (λ (z : Asked). wrote z.number z.state z.request z.reply c b x) (r ∙ ap (λ (z : List ℕ). asked z q d (answer_of k (unpack_of z) g.table p)) j)
      ∙ ap (λ (t : Bool). wrote y.status (cond t s (kept s (with_said (record { len = y.len; pos = 0 }) (unpack_of s)))) (laid q 0 d) y.reply c b x) (sym (ne_eqb y.status 9 (answer_few k (unpack_of s) g.table p)))
      ∙ ap (wrote_by s) (sym o)
      ∙ sym (cond-true _ _ _ (le-leb 652 (length s) h))

-- ---- a refusal

module _ (g : Given) (s q p c b x : List ℕ) (f : fits g (world (unpack_of s) q p c b x) ≡ false) where
  pub write_none : (d : List ℕ) {z : List ℕ} → z ≡ s → wrote 9 z q p c b x ≡ writes_in g s q p c b x d
  write_none d i = ap (λ (z : List ℕ). wrote 9 z q p c b x) i ∙ sym (write_refused g s q p c b x f d)

  pub read_none : (room : List ℕ) {z : List ℕ} → z ≡ s → took (2 ^ 32 - 1) z room ≡ reads_in g s q p c b x room
  read_none room i = ap (λ (z : List ℕ). took (2 ^ 32 - 1) z room) i ∙ sym (read_refused g s q p c b x f room)

-- ---- a read

but_said : (a f h i c d : Bool) → (a && ((f && (h && i)) && (c && d))) ≡ true → (a ≡ true) × (h ≡ true)
but_said true true true i c d k = (refl, refl)
but_said true true false i c d k = absurd (true≢false (sym k))
but_said true false h i c d k = absurd (true≢false (sym k))
but_said false f h i c d k = absurd (true≢false (sym k))

pub read_fit : (s : List ℕ) (request reply chip buffer scratch marks : ℕ) → fits_but (unpack_of s) request reply chip buffer scratch marks ≡ true
    → SaidFit (said_at s) × (reply ≡ 4112)
unfolding fits_but engine_ok up_ok unpack_of update_at
read_fit s request reply chip buffer scratch marks h =
    let k : (rooms_ok request reply ≡ true) × (said_ok (said_at s) ≡ true) =
    but_said (rooms_ok request reply) (frame_ok (frame_at s)) (said_ok (said_at s)) (bounds_ok (word_at 8 s 32) (word_at 8 s 40) (word_at 8 s 48))
    (in_bounds (store_at s) && parts_fit (store_at s) chip marks buffer) (scratch_ok (word_at 4 s 124) scratch) h in
    (said_fit (said_at s) k.1, eqb-true reply 4112 (and_parts (eqb request 8208) (eqb reply 4112) k.0).1)

module _ (s p room : List ℕ) where
  abbrev pos : ℕ
  pos = word_at 8 s 24

  pub next_told : {n : ℕ} {t y : List ℕ} → length p ≡ 4112 → SaidFit (said_at s) → n ≡ min (word_at 8 s 16 - pos) (length room)
      → y ≡ take (pos + n - pos) (drop pos p) → t ≡ kept s (with_said (record { len = word_at 8 s 16; pos = pos + n }) (unpack_of s))
      → took n t (y ++ drop n room) ≡ next_by s p room
  unfolding next_by
  next_told {n} {y = y} l h i j k =
      let e : pos + n - pos ≡ n = omega arith in
      let z : y ≡ take n (drop pos p) = j ∙ ap (λ (m : ℕ). take m (drop pos p)) e in
      let f : length (take n (drop pos p)) ≡ n = length-take-le n (drop pos p) (simp length-drop (omega (arith, i, l, h.0, h.1))) in
      let r : sets room 0 (take n (drop pos p)) ≡ y ++ drop n room =
      front_is room (take n (drop pos p)) (omega (arith, f, i)) ∙ ap (λ (m : ℕ). take n (drop pos p) ++ drop m room) f ∙ ap (λ (x : List ℕ). x ++ drop n room) (sym z) in
      rw (k, ← i, r)

-- the same from the place that the code has read
pub next_so : (s p room : List ℕ) {a : Said} {n : ℕ} {t y : List ℕ} → length p ≡ 4112 → SaidFit (said_at s) → a ≡ said_at s → n ≡ min (a.len - a.pos) (length room)
    → y ≡ take (a.pos + n - a.pos) (drop a.pos p) → t ≡ kept s (with_said (record { len = a.len; pos = a.pos + n }) (unpack_of s))
    → took n t (y ++ drop n room) ≡ next_by s p room
next_so s p room {a} {n} {t} {y} l h e i j k =
    next_told s p room l h (i ∙ ap (λ (z : Said). min (z.len - z.pos) (length room)) e) (j ∙ ap (λ (z : Said). take (z.pos + n - z.pos) (drop z.pos p)) e)
    (k ∙ ap (λ (z : Said). kept s (with_said (record { len = z.len; pos = z.pos + n }) (unpack_of s))) e)

pub read_told : (g : Given) (s q p c b x room : List ℕ) {r : Took} {z : List ℕ} → 652 ≤ length s → z ≡ s → fits g (world (unpack_of s) q p c b x) ≡ true → r ≡ next_by z p room
    → r ≡ reads_in g s q p c b x room
unfolding reads_in reads next_by unpack_of
read_told g s q p c b x room h j f i = i ∙ ap (λ (z : List ℕ). next_by z p room) j ∙ rw f (sym (cond-true _ _ _ (le-leb 652 (length s) h)))
