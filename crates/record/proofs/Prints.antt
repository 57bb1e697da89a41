-- Bytes that are written piece by piece stand behind one another, and those that are read piece by piece stood so.
use Rattle.std.proofs.Common.{zero, suc, Bool, true, false, true≢false, ◌≡◌, ◌≤◌, ◌<◌, ◌+◌, ◌-◌, ℕ, List, [], ◌∷◌, ◌++◌, length, take, drop, min, Some, None, IfSome, refl, sym, ap, ◌∙◌, subst, arith, append_assoc, append-nil, length-drop, length-append, length-take}
use borrow.Rule.Slice.PartAt.{part_to_end}
use Rattle.std.proofs.Math.Seq.{take-add, take-append_seam, drop-append_seam}
use Rattle.std.proofs.lemmas.List.{take_min, drop_min}
use Rattle.std.specs.declared.option.Option.{Option}
use Rattle.std.specs.Fmt.{WritesText}
use Rattle.std.specs.Io.KnownBytes.{Appends, Consumes, Keeps}
use Rattle.std.proofs.KnownBytes.{Appends-nil, Appends-trans, Consumes-trans, Consumes-kept}
use Rattle.std.proofs.lemmas.Fmt.{contents_after_writes}
use Rattle.record.specs.declared.Next.{Next}
use Rattle.record.specs.declared.Next.TheVariants.{Record, Bad, End}
use Rattle.record.specs.Record.{Grows, Shrinks}
use Rattle.record.specs.Print.{packet_line, packet_lines, sent_lines}

-- a write behind the first i bytes took n more
pub appends_more : (a b c : Option (List ℕ)) (s : List ℕ) (i n : ℕ) → Appends a b (take i s) → Appends b c (take n (take (length s - i) (drop i s)))
    → Appends a c (take (i + n) s)
appends_more a b c s i n p q = subst (Appends a c) (ap (λ (l : List ℕ). take i s ++ take n l) (part_to_end s i) ∙ sym (take-add i n s)) (Appends-trans a b c _ _ p q)

-- some behind some others
pub grows_trans : (a b c : Option (List ℕ)) → Grows a b → Grows b c → Grows a c
grows_trans a b c p q = (p.0 ++ q.0, Appends-trans a b c p.0 q.0 p.1 q.1)

-- what holds of all that was laid into an empty room holds of the text
pub laid_text : {A : Type 0} (took : A → List ℕ → A → Type 0) (bytes : A → List ℕ) → ((w : A) (bs : List ℕ) (v : A) → took w bs v → bytes v ≡ bytes w ++ bs)
    → (o : Option (List ℕ)) (w v : A) → bytes w ≡ [] → WritesText took w o v → (P : List ℕ → Type 0) → P (bytes v) → IfSome o P
laid_text took bytes appends None w v empty wrote P p = tt
laid_text took bytes appends (Some bs) w v empty wrote P p = subst P (contents_after_writes took bytes appends w bs v wrote ∙ ap (λ (l : List ℕ). l ++ bs) empty) p

-- a read behind others, one that failed, and some behind some
pub shrinks_more : (a b c : Option (List ℕ)) (bs : List ℕ) → Shrinks a b → Consumes b c bs → Shrinks a c
shrinks_more a b c bs p q = (p.0 ++ bs, Consumes-trans a b c p.0 bs p.1 q)

pub shrinks_kept : (a b c : Option (List ℕ)) → Shrinks a b → Keeps b c → Shrinks a c
shrinks_kept a b c p q = (p.0, Consumes-kept a b c p.0 p.1 q)

pub shrinks_trans : (a b c : Option (List ℕ)) → Shrinks a b → Shrinks b c → Shrinks a c
shrinks_trans a b c p q = shrinks_more a b c q.0 p q.1

-- the lines so far, and then those of the rest, are the lines of all
abbrev pub LinesSoFar : ℕ → List ℕ → Option (List ℕ) → Option (List ℕ) → List ℕ → Type 0
LinesSoFar n all old new rest = (bytes : List ℕ) × (most : ℕ) × Appends old new bytes × (length rest ≤ most) × (bytes ++ packet_lines n most rest ≡ all)

pub lines_begin : (n most : ℕ) (old : Option (List ℕ)) (bs : List ℕ) → length bs ≤ most → LinesSoFar n (packet_lines n most bs) old old bs
lines_begin n most old bs enough = ([], most, Appends-nil old, enough, refl)

first_line : (n most : ℕ) (rest : List ℕ) → 0 < length rest → length rest ≤ most
    → (k : ℕ) × (length rest ≤ suc k) × (packet_lines n most rest ≡ packet_line n (take 512 rest) ++ packet_lines n k (drop 512 rest))
first_line n most [] some enough = absurd (omega (arith, some))
first_line n zero (b ∷ bs) some enough = absurd (omega (arith, enough))
first_line n (suc k) (b ∷ bs) some enough = (k, enough, refl)

-- what comes off the front, at most n of them, are the first n
front_is : (n : ℕ) (rest x t : List ℕ) → rest ≡ x ++ t → length x ≡ min n (length rest) → (take n rest ≡ x) × (drop n rest ≡ t)
front_is n rest x t split few = (
  sym (take_min n rest) ∙ ap (λ k. take k rest) (sym few) ∙ ap (take (length x)) split ∙ take-append_seam x t,
  sym (drop_min n rest) ∙ ap (λ k. drop k rest) (sym few) ∙ ap (drop (length x)) split ∙ drop-append_seam x t,
)

pub lines_more : (n : ℕ) (all : List ℕ) (old mid new : Option (List ℕ)) (rest x t : List ℕ) → LinesSoFar n all old mid rest
    → rest ≡ x ++ t → length x ≡ min 512 (length rest) → 0 < length rest → Appends mid new (packet_line n x) → LinesSoFar n all old new t
lines_more n all old mid new rest x t (bytes, most, printed, enough, whole) split few some line =
    let (k, left, first) = first_line n most rest some enough in
    let (front, back) = front_is 512 rest x t split few in
    let low : length t ≤ k = omega (arith, left, some, ap length back, length-drop 512 rest) in
    let parts : packet_lines n most rest ≡ packet_line n x ++ packet_lines n k t =
    first ∙ ap (λ l. packet_line n l ++ packet_lines n k (drop 512 rest)) front ∙ ap (λ l. packet_line n x ++ packet_lines n k l) back in (
      bytes ++ packet_line n x,
      k,
      Appends-trans old mid new bytes (packet_line n x) printed line,
      low,
      append_assoc bytes (packet_line n x) (packet_lines n k t) ∙ ap (λ l. bytes ++ l) (sym parts) ∙ whole,
    )

no_lines : (n most : ℕ) (rest : List ℕ) → length rest ≡ 0 → packet_lines n most rest ≡ []
no_lines n zero rest none = refl
no_lines n (suc most) [] none = refl
no_lines n (suc most) (b ∷ bs) none = absurd (omega (arith, none))

pub lines_end : (n : ℕ) (all : List ℕ) (old new : Option (List ℕ)) (rest : List ℕ) → LinesSoFar n all old new rest → length rest ≡ 0 → Appends old new all
lines_end n all old new rest (bytes, most, printed, enough, whole) none =
    subst (Appends old new) (sym (append-nil bytes) ∙ ap (λ l. bytes ++ l) (sym (no_lines n most rest none)) ∙ whole) printed

pub lines_stay : (n : ℕ) (all : List ℕ) (old new : Option (List ℕ)) (rest : List ℕ) → LinesSoFar n all old new rest → Grows old new
lines_stay n all old new rest (bytes, most, printed, enough, whole) = (bytes, printed)

pub with_csw : (n moved : ℕ) (sent bs : List ℕ) (csw : Bool) (old mid new : Option (List ℕ)) → csw ≡ true → bs ≡ take 13 (drop moved sent)
    → Appends old mid (packet_lines n (length sent) (take moved sent)) → Appends mid new (packet_line n bs) → Appends old new (sent_lines n sent moved csw)
with_csw n moved sent bs true old mid new is behind lines line =
    Appends-trans old mid new _ _ lines (subst (λ l. Appends mid new (packet_line n l)) behind line)
with_csw n moved sent bs false old mid new is behind lines line = absurd (true≢false (sym is))

pub without_csw : (n moved : ℕ) (sent : List ℕ) (csw : Bool) (old new : Option (List ℕ)) → csw ≡ false
    → Appends old new (packet_lines n (length sent) (take moved sent)) → Appends old new (sent_lines n sent moved csw)
without_csw n moved sent true old new is lines = absurd (true≢false is)
without_csw n moved sent false old new is lines = subst (Appends old new) (sym (append-nil _)) lines

-- where nothing was left, nothing was read
pub none_read : (a b c : Option (List ℕ)) (buf : List ℕ) (n : ℕ) → a ≡ Some [] → Shrinks a b → Consumes b c (take n buf) → n ≤ length buf → n ≡ 0
none_read a b c buf n e s = taken b c (rw e at s)
  where
    taken : (b c : Option (List ℕ)) → Shrinks (Some []) b → Consumes b c (take n buf) → n ≤ length buf → n ≡ 0
    taken None c p q h = absurd p.1
    taken (Some y) None p q h = absurd q
    taken (Some y) (Some z) p q h = omega (arith, h, ap length p.1, ap length q, length-append p.0 y, length-append (take n buf) z, length-take n buf)

pub none_left : (a b : Option (List ℕ)) → Shrinks a b → a ≡ Some [] → b ≡ Some []
none_left a b p e = left b (rw e at p)
  where
    left : (b : Option (List ℕ)) → Shrinks (Some []) b → b ≡ Some []
    left None p = absurd p.1
    left (Some []) p = refl
    left (Some (y ∷ ys)) p = absurd (omega (arith, ap length p.1, length-append p.0 (y ∷ ys)))

-- what is no end is another thing
abbrev is_end : Next → Bool
is_end (Record kind len) = false
is_end Bad = false
is_end End = true

pub not_record : (next : Next) (kind len : ℕ) → next ≡ Record kind len → next ≡ End → ⊥
not_record next kind len is e = true≢false (sym (ap is_end e) ∙ ap is_end is)

pub not_bad : (next : Next) → next ≡ Bad → next ≡ End → ⊥
not_bad next is e = true≢false (sym (ap is_end e) ∙ ap is_end is)
