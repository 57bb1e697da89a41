-- Laws of partitions: one partition, the walk over the lists, and the lookup. Exported for callers: `Fine`, `fine` (what lists have that
-- are not refused), `end_most`, `find_most`, `lookup_at`, `lookup_most`.
use mathlib.Core.Path.{◌≡◌, refl, sym, ap, ◌∙◌}
use mathlib.Core.Bool.{Bool, true, false, ◌&&◌, cond}
use mathlib.Core.List.{List, [], ◌∷◌}
use mathlib.Core.Logic.{◌⊎◌, inl, inr}
use Prim.Native.Nat.{ℕ, ◌+◌, ◌-◌, max, ◌≤◌, ◌<◌}
use native.Mathlib.Nat.{zero-max, max-zero}
use native.Mathlib.Omega.{arith}
use borrow.Author.Tests.{le-leb, lt-leb, leb-true, eq-eqb, ne_eqb, eqb-true, eqb-false}
use lib.Dec.{leb, eqb}
use lib.ListN.{length, take, drop, length-drop}
use lib.Pointwise.{pointwise}
use Rattle.std.specs.Prelude.{nat_eq, find as first}
use Rattle.std.specs.declared.iter.Zip.{Zip}
use Rattle.std.proofs.Common.{Iter}
use Rattle.std.proofs.lemmas.Bool.{and_parts}
use Rattle.std.proofs.lemmas.Fn.{fronts}
use Rattle.std.proofs.lemmas.Iterator.{zips}
use Rattle.std.proofs.lemmas.List.{nil_from_length}
use Rattle.std.proofs.lemmas.Option.{cond_some}
use Rattle.std.specs.Iterator.Adapters.{zip_first, zip_second}
use Rattle.std.specs.Slice.Iter.{iter_rest}
use Rattle.std.specs.Option.{option_map}
use Rattle.text.specs.Utf8.{is_utf8}
use Rattle.text.specs.Token.{same}
use Rattle.text.proofs.Tokens.{same_is}
use Rattle.std.specs.Prelude.{Option, Some, None, Ok, Err}
use Rattle.storage.specs.declared.types.CallError.TheVariants.{Refused}
use Rattle.storage.specs.Partition.{Lists, lists, Part, part, parts_of, parts, total, part_ok, all, lists_ok, table_end, end_of, part_end, table_of, find, wanted, lookup}

-- ---- one partition

part_bad : (p : Part) → None ≡ part_end p → part_ok p ≡ false
unfolding part_end
part_bad p e = go (part_ok p) e
  where
    go : (t : Bool) → None ≡ cond t (Some (p.offset + p.size)) None → t ≡ false
    go true h = absurd (let z : ◌≡◌ {A = ℕ} 0 1 = cc in omega arith)
    go false h = refl

part_good : (p : Part) (h : ℕ) → Some h ≡ part_end p → (part_ok p ≡ true) × (h ≡ p.offset + p.size)
unfolding part_end
part_good p h e = let z = cond_some (part_ok p) (p.offset + p.size) h (sym e) in (z.0, sym z.1)

-- ---- the walk: the largest end so far, with what is left of the lists

unfoldable pub goes : ℕ → List ℕ → List ℕ → List ℕ → List ℕ → Option ℕ
goes e os ss ns b = cond (eqb (total ns) (length b) && all (parts_of os ss ns b)) (Some (max e (table_end (parts_of os ss ns b)))) None

module _ (os ss ns b : List ℕ) where
  pub table_many : 32 < length os → None ≡ table_of (lists os ss ns b)
  unfolding table_of lists_ok
  table_many h = rw (lt-leb (length os) 32 h)

  module _ (few : length os ≤ 32) where
    pub table_sizes : (length ss ≡ length os → ⊥) → None ≡ table_of (lists os ss ns b)
    unfolding table_of lists_ok
    table_sizes h = rw (le-leb (length os) 32 few, ne_eqb (length ss) (length os) h)

    module _ (like : length ss ≡ length os) where
      pub table_lens : (length ns ≡ length os → ⊥) → None ≡ table_of (lists os ss ns b)
      unfolding table_of lists_ok
      table_lens h = rw (le-leb (length os) 32 few, eq-eqb (length ss) (length os) like, ne_eqb (length ns) (length os) h)

      pub table_goes : length ns ≡ length os → goes 0 os ss ns b ≡ table_of (lists os ss ns b)
      unfolding goes table_of lists_ok parts
      table_goes h = rw (le-leb (length os) 32 few, eq-eqb (length ss) (length os) like, eq-eqb (length ns) (length os) h, zero-max)

shift : (n t m : ℕ) → n ≤ m → eqb (n + t) m ≡ eqb t (m - n)
shift n t m h = go (eqb t (m - n)) refl
  where
    go : (u : Bool) → eqb t (m - n) ≡ u → eqb (n + t) m ≡ u
    go true e = eq-eqb (n + t) m (omega (arith, eqb-true t (m - n) e))
    go false e = ne_eqb (n + t) m (λ k. eqb-false t (m - n) e (omega arith))

-- one partition is tested, and the rest
sorted : (e n t m : ℕ) (p : Part) (ps : List Part) → n ≤ m
    → cond (eqb (n + t) m && all (p ∷ ps)) (Some (max e (table_end (p ∷ ps)))) None
    ≡ cond (part_ok p) (cond (eqb t (m - n) && all ps) (Some (max (max (p.offset + p.size) e) (table_end ps))) None) None
unfolding all table_end
sorted e n t m p ps h = rw (shift n t m h) (go (eqb t (m - n)) (part_ok p) (all ps))
  where
    x : ℕ
    x = p.offset + p.size

    assoc : max e (max x (table_end ps)) ≡ max (max x e) (table_end ps)
    assoc = omega arith

    go : (u v w : Bool)
        → cond (u && (v && w)) (Some (max e (max x (table_end ps)))) None
        ≡ cond v (cond (u && w) (Some (max (max x e) (table_end ps))) None) None
    go true true true = ap Some assoc
    go true true false = refl
    go true false w = refl
    go false true w = refl
    go false false w = refl

-- a turn takes one of each list, and its name off the names' bytes
module _ (e o s n : ℕ) (os ss ns b : List ℕ) {all-o all-s all-n : List ℕ} (ho : all-o ≡ o ∷ os) (hs : all-s ≡ s ∷ ss) (hn : all-n ≡ n ∷ ns) where
  pub goes_short : length b < n → None ≡ goes e all-o all-s all-n b
  unfolding goes total
  goes_short h = rw (hn, ne_eqb (n + total ns) (length b) (λ k. omega arith))

  here : Part
  here = part (take n b) o s

  goes_part : n ≤ length b → goes e all-o all-s all-n b ≡ cond (part_ok here) (goes (max (o + s) e) os ss ns (drop n b)) None
  unfolding goes total parts_of here
  goes_part h = rw (ho, hs, hn, length-drop n b) (sorted e n (total ns) (length b) (part (take n b) o s) (parts_of os ss ns (drop n b)) h)

  module _ {r : Option ℕ} {name : List ℕ} (h : n ≤ length b) (cut : name ≡ take n b) (q : r ≡ part_end (part name o s)) where
    at_here : r ≡ part_end here
    unfolding here
    at_here = q ∙ ap (λ (x : List ℕ). part_end (part x o s)) cut

    pub goes_bad : r ≡ None → None ≡ goes e all-o all-s all-n b
    goes_bad z = sym (goes_part h ∙ rw (part_bad here (sym z ∙ at_here)))

    pub goes_on : (x : ℕ) {rest : List ℕ} → r ≡ Some x → rest ≡ drop n b → goes (max x e) os ss ns rest ≡ goes e all-o all-s all-n b
    unfolding here
    goes_on x z w =
        let g = part_good here x (sym z ∙ at_here) in
        rw (w, g.1) (sym (goes_part h ∙ rw g.0))

-- the three lists side by side, as the code goes over them
abbrev pub Side : Type 0
Side = Zip (Zip (Iter ℕ) (Iter ℕ)) (Iter ℕ)

module _ (z : Side) where
  abbrev pub offsets_left : List ℕ
  offsets_left = iter_rest (zip_first (zip_first z))

  abbrev pub sizes_left : List ℕ
  sizes_left = iter_rest (zip_second (zip_first z))

  abbrev pub lens_left : List ℕ
  lens_left = iter_rest (zip_second z)

-- they are of like length, and with the largest end so far they say what all of them say
abbrev pub Walks : Lists → ℕ → List ℕ → Side → Type 0
Walks l e b z =
    (length (sizes_left z) ≡ length (offsets_left z)) × (length (lens_left z) ≡ length (offsets_left z)) × (goes e (offsets_left z) (sizes_left z) (lens_left z) b ≡ table_of l)

-- where one of them ends, all do
spent : (z : Side) → ((u : Zip (Iter ℕ) (Iter ℕ)) × zips fronts fronts (zip_first z) None u) ⊎ ((u : Iter ℕ) × fronts (zip_second z) None u)
    → length (sizes_left z) ≡ length (offsets_left z) → length (lens_left z) ≡ length (offsets_left z) → length (offsets_left z) ≡ 0
spent z (inl a) h k = by a.1
  where
    by : ((u : Iter ℕ) × fronts (zip_first (zip_first z)) None u) ⊎ ((u : Iter ℕ) × fronts (zip_second (zip_first z)) None u) → length (offsets_left z) ≡ 0
    by (inl x) = x.1.0
    by (inr x) = sym h ∙ x.1.0
spent z (inr a) h k = sym k ∙ a.1.0

pub goes_end : (l : Lists) (e : ℕ) (b : List ℕ) (z : Side) → ((u : Zip (Iter ℕ) (Iter ℕ)) × zips fronts fronts (zip_first z) None u) ⊎ ((u : Iter ℕ) × fronts (zip_second z) None u)
    → Walks l e b z → cond (eqb 0 (length b)) (Some e) None ≡ table_of l
unfolding goes total parts_of all table_end
goes_end l e b z a w =
    let n = spent z a w.0 w.1 in
    go (offsets_left z) (sizes_left z) (lens_left z) n (w.1 ∙ n) ∙ w.2
  where
    go : (os ss ns : List ℕ) → length os ≡ 0 → length ns ≡ 0 → cond (eqb 0 (length b)) (Some e) None ≡ goes e os ss ns b
    go os ss ns x v = rw (nil_from_length os x, nil_from_length ns v, max-zero) (by (eqb 0 (length b)))
      where
        by : (t : Bool) → cond t (Some e) None ≡ cond (t && true) (Some e) None
        by true = refl
        by false = refl

-- ---- the lookup by std's words

abbrev pub is_named : List ℕ → Part → Bool
is_named w p = pointwise nat_eq p.name w

pub find_is : (w : List ℕ) (ps : List Part) → option_map (λ (p : Part). p.offset) (first (is_named w) ps) ≡ find w ps
unfolding find
find_is w [] = refl
find_is w (p ∷ ps) = rw (same_is p.name w) (go (same p.name w) (find_is w ps))
  where
    go : (t : Bool) → option_map (λ (q : Part). q.offset) (first (is_named w) ps) ≡ find w ps
        → option_map (λ (q : Part). q.offset) (cond t (Some p) (first (is_named w) ps)) ≡ cond t (Some p.offset) (find w ps)
    go true e = refl
    go false e = e

-- ---- all of the lists

module _ (os ss ns b : List ℕ) where
  -- what lists have that are not refused
  pub record Fine : Type 0 where
    pub few : length os ≤ 32
    pub like_sizes : length ss ≡ length os
    pub like_lens : length ns ≡ length os
    pub like_names : total ns ≡ length b
    pub each : all (parts_of os ss ns b) ≡ true

  pub fine : lists_ok (lists os ss ns b) ≡ true → Fine
  unfolding lists_ok parts
  fine h =
      let p = and_parts (leb (length os) 32) _ h in
      let q = and_parts (eqb (length ss) (length os)) _ p.1 in
      let r = and_parts (eqb (length ns) (length os)) _ q.1 in
      let s = and_parts (eqb (total ns) (length b)) _ r.1 in
      record { few = leb-true (length os) 32 p.0; like_sizes = eqb-true (length ss) (length os) q.0; like_lens = eqb-true (length ns) (length os) r.0; like_names = eqb-true (total ns) (length b) s.0; each = s.1 }

-- ---- laws for callers

-- ends are at most 2^31
part_most : (p : Part) → part_ok p ≡ true → p.offset + p.size ≤ 2147483648
unfolding part_ok
part_most p e =
    let a = and_parts (leb (length p.name) 64) _ e in
    let b = and_parts (is_utf8 p.name) _ a.1 in
    leb-true (p.offset + p.size) 2147483648 b.1

ends_most : (ps : List Part) → all ps ≡ true → table_end ps ≤ 2147483648
unfolding all table_end
ends_most [] e = omega arith
ends_most (p ∷ ps) e =
    let b = and_parts (part_ok p) (all ps) e in
    omega (arith, part_most p b.0, ends_most ps b.1)

module _ (l : Lists) where
  all_ok : lists_ok l ≡ true → all (parts l) ≡ true
  unfolding parts
  all_ok h = (fine l.offsets l.sizes l.lens l.names h).each

  end_is : lists_ok l ≡ true → end_of l ≡ table_end (parts l)
  unfolding end_of
  end_is h = rw h

  pub end_most : end_of l ≤ 2147483648
  unfolding end_of
  end_most = go (lists_ok l) refl
    where
      go : (t : Bool) → lists_ok l ≡ t → cond t (table_end (parts l)) 0 ≤ 2147483648
      go true e = ends_most (parts l) (all_ok e)
      go false e = omega arith

-- a partition that is found starts below the largest end
pub find_most : (w : List ℕ) (ps : List Part) (o : ℕ) → find w ps ≡ Some o → o ≤ table_end ps
unfolding find table_end
find_most w [] o e = absurd (let z : ◌≡◌ {A = ℕ} 0 1 = cc in omega arith)
find_most w (p ∷ ps) o e = go (same p.name w) e (find_most w ps o)
  where
    go : (t : Bool) → cond t (Some p.offset) (find w ps) ≡ Some o → (find w ps ≡ Some o → o ≤ table_end ps) → o ≤ max (p.offset + p.size) (table_end ps)
    go true h k = let z : p.offset ≡ o = cc in omega arith
    go false h k = let z = k h in omega arith

module _ (l : Lists) where
  -- what is looked up is found in lists that are not refused, by a text that is UTF-8
  pub lookup_at : (n : List ℕ) (o : ℕ) → lookup l n ≡ Ok (Some o) → (lists_ok l ≡ true) × (is_utf8 n ≡ true) × (find (wanted n) (parts l) ≡ Some o)
  unfolding lookup
  lookup_at n o e = go (lists_ok l) (is_utf8 n) e
    where
      go : (t u : Bool) → cond t (Ok (cond u (find (wanted n) (parts l)) None)) (Err Refused) ≡ Ok (Some o) → (t ≡ true) × (u ≡ true) × (find (wanted n) (parts l) ≡ Some o)
      go true true h = (refl, refl, cc)
      go true false h = absurd (let z : ◌≡◌ {A = ℕ} 0 1 = cc in omega arith)
      go false u h = absurd (let z : ◌≡◌ {A = ℕ} 0 1 = cc in omega arith)

  -- a target is at most the largest end, and that at most 2^31
  pub lookup_most : (n : List ℕ) (o : ℕ) → lookup l n ≡ Ok (Some o) → (o ≤ end_of l) × (o ≤ 2147483648)
  lookup_most n o e =
      let a = lookup_at n o e in
      let m : o ≤ end_of l = rw (end_is l a.0) (find_most (wanted n) (parts l) o a.2) in
      (m, omega (arith, end_most l))
