-- In bounds for ever (01, row 9 and 'In bounds'): every call from an engine that fits its parts leaves one that fits them, and none is
-- refused with 9; and an accepted opening gives such an engine. So after an accepted opening no call with the same parts meets a 9,
-- whatever was written, and whatever the chip did.
use Rattle.std.specs.Prelude.{◌≡◌, Result, Ok, Bool, true, false, ◌&&◌, cond, List, [], ◌∷◌, ℕ, ◌+◌, ◌-◌, ◌≤◌, ◌^◌, min, leb, ltb, eqb, length}
use Rattle.std.proofs.Math.Path.{refl}
use Rattle.std.proofs.Common.{sym, ap, ◌∙◌, arith, le-leb, lt-ltb, eq-eqb, eqb-true}
use Rattle.std.proofs.lemmas.Bool.{eqb-false}
use Rattle.storage.specs.declared.types.Store.{Store}
use Rattle.storage.specs.declared.types.Refusal.{Refusal}
use Rattle.storage.specs.declared.types.Refusal.TheVariants as refusal
use Rattle.storage.specs.World.{Lent, Dev, dev}
use Rattle.storage.specs.Partition.{lists_ok, end_of}
use Rattle.storage.specs.Open as opens
use Rattle.storage.specs.Open.{scratch_ok, nor_size, numbers_ok, nor_store, nand_store, unless}
use Rattle.storage.specs.Store.{good}
use Rattle.storage.proofs.Opens.{opened_nor_lem, opened_nand_lem}
use Rattle.storage_laws.specs.Bounds.{flushing_good, erasing_good, writing_good, reading_good}
use Rattle.storage_laws.specs.Reasons.{nor_opening_lem, nand_opening_lem}
use Rattle.engine.specs.declared.types.Frame.{Frame}
use Rattle.engine.specs.declared.types.Said.{Said}
use Rattle.engine.specs.declared.types.Update.{Update}
use Rattle.engine.specs.World.{Given, World, at_e, dev_of}
use Rattle.engine.specs.Stream.{UpFit}
use Rattle.engine.specs.Feed.{SaidFit, FrameFit, Fit, feeds}
use Rattle.engine.specs.Api.{rooms_ok, frame_ok, said_ok, up_ok, engine_ok, fits, fresh, Opening, ready, refused, opened_by, opened_nor, opened_nand, writes, Read, read_by, reads, cleared}
use Rattle.engine.proofs.Apis.{world_fit}
use Rattle.engine_laws.specs.Carry.{Closed, Left, feeds_left, feeds_fit}

-- ---- the test and what it says

split : (a b : Bool) → (a && b) ≡ true → (a ≡ true) × (b ≡ true)
split true b e = (refl, e)
split false b e = absurd (let z : ◌≡◌ {A = ℕ} 0 1 = cc in omega arith)

both : (a b : Bool) → a ≡ true → b ≡ true → (a && b) ≡ true
both a b p q = rw (p, q)

-- an engine and its parts in bounds
pub record InBounds (g : Given) (w : World) : Type 0 where
  pub fit : Fit w
  pub store : good g.lent (dev_of w) ≡ true
  pub table : lists_ok g.lists ≡ true
  pub scratch : scratch_ok w.e.base (length w.scratch) ≡ true

-- the test finds nothing else
pub in_bounds : (g : Given) (w : World) → fits g w ≡ true → InBounds g w
unfolding fits
in_bounds g w e =
    let a = split (rooms_ok (length w.request) (length w.reply)) _ e in
    let b = split (engine_ok w.e) _ a.1 in
    let c = split (good g.lent (dev_of w)) _ b.1 in
    let d = split (lists_ok g.lists) _ c.1 in
    record { fit = world_fit g w e; store = c.0; table = d.0; scratch = d.1 }

rooms_ok_lem : (request reply : ℕ) → request ≡ 8208 → reply ≡ 4112 → rooms_ok request reply ≡ true
rooms_ok_lem request reply p q = both _ _ (eq-eqb request 8208 p) (eq-eqb reply 4112 q)

frame_ok_lem : (f : Frame) → FrameFit f → frame_ok f ≡ true
frame_ok_lem f h = go (eqb f.total 0) refl
  where
    go : (t : Bool) → eqb f.total 0 ≡ t → cond t (ltb f.len 16) (ltb f.len f.total && leb f.total 8208) ≡ true
    go true e = lt-ltb f.len 16 (h.0 (eqb-true f.total 0 e))
    go false e = both _ _ (lt-ltb f.len f.total (h.1 (eqb-false f.total 0 e))) (le-leb f.total 8208 h.2)

said_ok_fit : (s : Said) → SaidFit s → said_ok s ≡ true
said_ok_fit s h = both _ _ (le-leb s.pos s.len h.0) (le-leb s.len 4112 h.1)

up_ok_fit : (u : Update) → UpFit u → up_ok u ≡ true
unfolding up_ok
up_ok_fit u h = both _ _ (le-leb u.target (2 ^ 31) h.1) (lt-ltb (u.written + u.left) (2 ^ 32) h.0)

-- and the test takes what is in bounds
pub bounds_fit : (g : Given) (w : World) → InBounds g w → fits g w ≡ true
unfolding fits engine_ok
bounds_fit g w b =
    let m = b.fit.mid in
    both _ _ (rooms_ok_lem (length w.request) (length w.reply) m.request m.reply)
    (both _ _ (both _ _ (frame_ok_lem w.e.frame b.fit.frame) (both _ _ (said_ok_fit w.e.said m.said) (up_ok_fit w.e.up m.up)))
    (both _ _ b.store (both _ _ b.table b.scratch)))

-- ---- write

-- every storage call keeps the tests of a later one
good_closed : (l : Lent) → Closed l (λ (d : Dev). good l d ≡ true)
good_closed l =
    record {
      flush = λ d h. flushing_good l d h;
      erase = λ start size d h. erasing_good l d h start size;
      write = λ off xs d h. writing_good l d h off xs;
      read = λ off room d h. reading_good l d h off room;
    }

module _ (g : Given) (w : World) where
  feeds_good : (d : List ℕ) → Left (λ (x : Dev). good g.lent x ≡ true) w (feeds g w d)
  feeds_good d = feeds_left g (λ (x : Dev). good g.lent x ≡ true) (good_closed g.lent) w d

  feeds_bounds : (d : List ℕ) → InBounds g w → InBounds g (feeds g w d).w
  feeds_bounds d b =
      let s = (feeds_good d).stays in
      record { fit = feeds_fit g w d b.fit; store = s.store b.store; table = b.table; scratch = rw (s.base, s.scratch) b.scratch }

  module _ (f : fits g w ≡ true) where
    -- a write in bounds is the write of its pieces
    pub write_feeds : (d : List ℕ) → writes g w d ≡ feeds g w d
    unfolding writes
    write_feeds d = rw f

    -- a write leaves an engine in bounds
    pub write_fits : (d : List ℕ) → fits g (writes g w d).w ≡ true
    write_fits d = rw (write_feeds d) (bounds_fit g (feeds g w d).w (feeds_bounds d (in_bounds g w f)))

    -- it answers 0 or 1
    pub write_told : (d : List ℕ) → (writes g w d).status ≤ 1
    write_told d = rw (write_feeds d) (feeds_good d).small

    -- so it is never refused
    pub write_taken : (d : List ℕ) → (writes g w d).status ≡ 9 → ⊥
    write_taken d e = omega (arith, write_told d)

    -- ---- read

    abbrev many : List ℕ → ℕ
    many room = min (w.e.said.len - w.e.said.pos) (length room)

    read_is : (room : List ℕ) → reads g w room ≡ read_by w room (many room)
    unfolding reads
    read_is room = rw f

    -- a read answers a count: what waits, or what the room takes
    pub read_told : (room : List ℕ) → (reads g w room).got ≡ Ok (min (w.e.said.len - w.e.said.pos) (length room))
    read_told room = ap (λ (r : Read). r.got) (read_is room)

    -- it leaves an engine in bounds
    pub read_fits : (room : List ℕ) → fits g (at_e (reads g w room).e w) ≡ true
    read_fits room =
        let b = in_bounds g w f in
        let m = b.fit.mid in
        rw (read_is room)
        (bounds_fit g (at_e (read_by w room (many room)).e w)
        (record {
          fit = record { mid = record { request = m.request; reply = m.reply; said = (omega (arith, m.said.0), m.said.1); up = m.up }; frame = b.fit.frame };
          store = b.store;
          table = b.table;
          scratch = b.scratch;
        }))

    -- ---- reset

    -- a reset leaves an engine in bounds
    pub reset_fits : fits g (at_e (cleared w.e) w) ≡ true
    reset_fits =
        let b = in_bounds g w f in
        let m = b.fit.mid in
        bounds_fit g (at_e (cleared w.e) w)
        (record {
          fit =
              record {
                mid = record { request = m.request; reply = m.reply; said = (omega arith, omega arith); up = (omega arith, omega arith) };
                frame = (λ z. omega arith, λ n. absurd (n refl), omega arith);
              };
          store = b.store;
          table = b.table;
          scratch = b.scratch;
        })

-- ---- any run of calls

-- a call with its bytes or its room
pub data Call : Type 0 where
  write : List ℕ → Call
  read : List ℕ → Call
  reset : Call

-- what a call leaves
abbrev pub after : Given → World → Call → World
after g w (write d) = (writes g w d).w
after g w (read room) = at_e (reads g w room).e w
after g w reset = at_e (cleared w.e) w

-- what a run of calls leaves
unfoldable pub after_all : Given → World → List Call → World
after_all g w [] = w
after_all g w (c ∷ cs) = after_all g (after g w c) cs

-- a call that is not refused
abbrev pub Accepted : Given → World → Call → Type 0
Accepted g w (write d) = (writes g w d).status ≤ 1
Accepted g w (read room) = (reads g w room).got ≡ Ok (min (w.e.said.len - w.e.said.pos) (length room))
Accepted g w reset = Unit {0}

-- a run of which none is
abbrev pub AllAccepted : Given → World → List Call → Type 0
AllAccepted g w [] = Unit {0}
AllAccepted g w (c ∷ cs) = Accepted g w c × AllAccepted g (after g w c) cs

after_fits : (g : Given) (w : World) (c : Call) → fits g w ≡ true → fits g (after g w c) ≡ true
after_fits g w (write d) f = write_fits g w f d
after_fits g w (read room) f = read_fits g w f room
after_fits g w reset f = reset_fits g w f

accepted : (g : Given) (w : World) (c : Call) → fits g w ≡ true → Accepted g w c
accepted g w (write d) f = write_told g w f d
accepted g w (read room) f = read_told g w f room
accepted g w reset f = tt

-- any run of calls from an engine in bounds leaves one in bounds
pub run_fits : (g : Given) (cs : List Call) (w : World) → fits g w ≡ true → fits g (after_all g w cs) ≡ true
unfolding after_all
run_fits g [] w f = f
run_fits g (c ∷ cs) w f = run_fits g cs (after g w c) (after_fits g w c f)

-- and none of its calls is refused
pub run_accepted : (g : Given) (cs : List Call) (w : World) → fits g w ≡ true → AllAccepted g w cs
run_accepted g [] w f = tt
run_accepted g (c ∷ cs) w f = (accepted g w c f, run_accepted g cs (after g w c) (after_fits g w c f))

-- ---- openings

-- an engine over a store as it is opened
fresh_fits : (g : Given) (w : World) (base : ℕ) (s : Store) → rooms_ok (length w.request) (length w.reply) ≡ true → good g.lent (dev s w.chip w.buffer) ≡ true
    → lists_ok g.lists ≡ true → base + length w.scratch ≤ 4294967296 → fits g (at_e (fresh base s) w) ≡ true
unfolding fits engine_ok up_ok scratch_ok
fresh_fits g w base s r p t h = both _ _ r (both _ _ p (both _ _ t (le-leb (base + length w.scratch) 4294967296 h)))

-- an opening that is accepted passed every test
rooms_passed : (r : Bool) (base : ℕ) (o : Result Store Refusal) → (cond r (opened_by base o) (refused 9)).number ≡ 0 → r ≡ true
rooms_passed true base o e = refl
rooms_passed false base o e = absurd (omega arith)

nor_passed : (a b c d : Bool) (base : ℕ) (s : Store) → (opened_by base (unless a refusal.Buffer (unless b refusal.ChipSize (unless c refusal.Partitions (unless d refusal.Scratch (Ok s)))))).number ≡ 0
    → unless a refusal.Buffer (unless b refusal.ChipSize (unless c refusal.Partitions (unless d refusal.Scratch (Ok s)))) ≡ Ok s
nor_passed true true true true base s e = refl
nor_passed true true true false base s e = absurd (omega arith)
nor_passed true true false d base s e = absurd (omega arith)
nor_passed true false c d base s e = absurd (omega arith)
nor_passed false b c d base s e = absurd (omega arith)

nand_passed : (a b c : Bool) (base : ℕ) (s : Store) → (opened_by base (unless a refusal.Partitions (unless b refusal.Geometry (unless c refusal.Scratch (Ok s))))).number ≡ 0
    → unless a refusal.Partitions (unless b refusal.Geometry (unless c refusal.Scratch (Ok s))) ≡ Ok s
nand_passed true true true base s e = refl
nand_passed true true false base s e = absurd (omega arith)
nand_passed true false c base s e = absurd (omega arith)
nand_passed false b c base s e = absurd (omega arith)

module _ (g : Given) (w : World) (base stage device : ℕ) where
  -- the opening of a NOR over these parts
  abbrev pub nor_opening : Opening
  nor_opening = opened_nor (length w.request) (length w.reply) (length w.chip) (length w.buffer) g.lists base (length w.scratch) stage device

  -- and of its storage
  abbrev pub nor_opened : Result Store Refusal
  nor_opened = opens.opened_nor (length w.chip) (length w.buffer) g.lists base (length w.scratch) stage device

  nor_is : nor_opening ≡ cond (rooms_ok (length w.request) (length w.reply)) (opened_by base nor_opened) (refused 9)
  unfolding opened_nor
  nor_is = refl

  nor_ready : (opened_by base nor_opened).number ≡ 0 → nor_opened ≡ Ok (nor_store (length w.chip) (end_of g.lists) stage device)
  unfolding opens.opened_nor
  nor_ready e =
      nor_passed (leb 4096 (length w.buffer)) (nor_size (length w.chip)) (lists_ok g.lists) (scratch_ok base (length w.scratch)) base
      (nor_store (length w.chip) (end_of g.lists) stage device) e

  -- an accepted opening of a NOR is that of its storage, with rooms of the right sizes
  pub nor_opening_is : nor_opening.number ≡ 0
      → (let s = nor_store (length w.chip) (end_of g.lists) stage device in
      (nor_opening ≡ ready (fresh base s)) × (nor_opened ≡ Ok s) × (rooms_ok (length w.request) (length w.reply) ≡ true))
  nor_opening_is e =
      let z = ap (λ (o : Opening). o.number) (sym nor_is) ∙ e in
      let r = rooms_passed (rooms_ok (length w.request) (length w.reply)) base nor_opened z in
      let q : nor_opening ≡ opened_by base nor_opened = nor_is ∙ ap (λ (b : Bool). cond b (opened_by base nor_opened) (refused 9)) r in
      let y = nor_ready (ap (λ (o : Opening). o.number) (sym q) ∙ e) in
      (q ∙ ap (opened_by base) y, y, r)

  -- it gives an engine in bounds, with the parts that it was opened with
  pub nor_opening_fits : nor_opening.number ≡ 0 → fits g (at_e nor_opening.e w) ≡ true
  nor_opening_fits e =
      let s = nor_store (length w.chip) (end_of g.lists) stage device in
      let i = nor_opening_is e in
      let p = opened_nor_lem (length w.chip) (length w.buffer) g.lists base (length w.scratch) stage device s i.1 in
      let k = nor_opening_lem g.lent w.chip w.buffer g.lists base (length w.scratch) stage device s i.1 in
      rw i.0 (fresh_fits g w base s i.2 k.taken p.table p.scratch_fits)

  -- so no call of any run after it is refused
  pub nor_run : (cs : List Call) → nor_opening.number ≡ 0 → AllAccepted g (at_e nor_opening.e w) cs
  nor_run cs e = run_accepted g cs (at_e nor_opening.e w) (nor_opening_fits e)

  module _ (page pages blocks capacity : ℕ) where
    -- the opening of a NAND over these parts
    abbrev pub nand_opening : Opening
    nand_opening = opened_nand (length w.request) (length w.reply) (length w.chip) page pages blocks (length g.lent.marks) capacity g.lists base (length w.scratch) stage device

    -- and of its storage
    abbrev pub nand_opened : Result Store Refusal
    nand_opened = opens.opened_nand (length w.chip) page pages blocks (length g.lent.marks) capacity g.lists base (length w.scratch) stage device

    nand_is : nand_opening ≡ cond (rooms_ok (length w.request) (length w.reply)) (opened_by base nand_opened) (refused 9)
    unfolding opened_nand
    nand_is = refl

    nand_ready : (opened_by base nand_opened).number ≡ 0 → nand_opened ≡ Ok (nand_store page pages blocks capacity stage device)
    unfolding opens.opened_nand
    nand_ready e =
        nand_passed (lists_ok g.lists) (numbers_ok page pages blocks (length w.chip) (length g.lent.marks) capacity) (scratch_ok base (length w.scratch)) base
        (nand_store page pages blocks capacity stage device) e

    -- an accepted opening of a NAND gives an engine in bounds, with the parts that it was opened with and a buffer of 4,096 bytes or more
    pub nand_opening_fits : nand_opening.number ≡ 0 → 4096 ≤ length w.buffer → fits g (at_e nand_opening.e w) ≡ true
    nand_opening_fits e h =
        let s = nand_store page pages blocks capacity stage device in
        let z = ap (λ (o : Opening). o.number) (sym nand_is) ∙ e in
        let r = rooms_passed (rooms_ok (length w.request) (length w.reply)) base nand_opened z in
        let q : nand_opening ≡ opened_by base nand_opened = nand_is ∙ ap (λ (b : Bool). cond b (opened_by base nand_opened) (refused 9)) r in
        let y = nand_ready (ap (λ (o : Opening). o.number) (sym q) ∙ e) in
        let p = opened_nand_lem (length w.chip) page pages blocks (length g.lent.marks) capacity g.lists base (length w.scratch) stage device s y in
        let k = nand_opening_lem g.lent w.chip w.buffer page pages blocks capacity g.lists base (length w.scratch) stage device s h y in
        rw (q ∙ ap (opened_by base) y) (fresh_fits g w base s r k.taken p.table p.scratch_fits)

    -- so no call of any run after it is refused
    pub nand_run : (cs : List Call) → nand_opening.number ≡ 0 → 4096 ≤ length w.buffer → AllAccepted g (at_e nand_opening.e w) cs
    nand_run cs e h = run_accepted g cs (at_e nand_opening.e w) (nand_opening_fits e h)
