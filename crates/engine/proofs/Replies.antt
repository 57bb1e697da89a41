-- A reply as the code lays it, data first and then the header, is the reply as it is defined.
use Rattle.std.proofs.Common.{◌≡◌, ℕ, ◌+◌, ◌≤◌, Bool, true, false, List, [], ◌++◌, length, take, drop, replicate, sym, refl, ap, ◌∙◌, append_assoc, zero-add, arith, length-append, length-take-le, drop_at}
use lib.ListN.{length-replicate}
use lib.Seq.{sets, length-sets, sets-eq}
use Rattle.wire.specs.Bytes.{bytes_of, laid}
use Rattle.wire.specs.Header.{header_of}
use Rattle.storage.proofs.Fold.{laid_sets}
use Rattle.engine.specs.World.{World, with_said, at_e, at_reply, out_of}
use Rattle.engine.proofs.Commands.{laid_none}
use Rattle.engine.specs.Reply.{Answer, ok, fail, unsupported, odd, whether, status_by, reply_by, replied, ends, ended_by, placed, ends_by}

-- a header has sixteen bytes
pub header_length : (magic command status len : ℕ) → length (header_of magic command status len) ≡ 16
unfolding header_of bytes_of
header_length magic command status len = refl

-- what is laid at the front
pub front_is : (s xs : List ℕ) → length xs ≤ length s → sets s 0 xs ≡ xs ++ drop (length xs) s
front_is s xs h =
    let z : 0 + length xs ≡ length xs = zero-add (length xs) in
    sets-eq xs s 0 (omega arith) ∙ ap (λ (k : ℕ). xs ++ drop k s) z

-- what is laid behind, and then in front of it, is laid as one
pub laid_before : (s xs ys : List ℕ) → length xs + length ys ≤ length s → laid (laid s (length xs) ys) 0 xs ≡ sets s 0 (xs ++ ys)
laid_before s xs ys h =
    let n = length xs in
    let m : n ≤ length s = omega arith in
    let a : sets s n ys ≡ take n s ++ (ys ++ drop (n + length ys) s) = sets-eq ys s n h ∙ append_assoc (take n s) ys (drop (n + length ys) s) in
    let l : length (sets s n ys) ≡ length s = length-sets s n ys in
    let z : length (xs ++ ys) ≡ n + length ys = length-append xs ys in
    let d : drop n (sets s n ys) ≡ ys ++ drop (n + length ys) s = ap (drop n) a ∙ drop_at (take n s) (ys ++ drop (n + length ys) s) n (length-take-le n s m) in
    ap (λ (t : List ℕ). laid t 0 xs) (laid_sets n s ys h)
    ∙ laid_sets 0 (sets s n ys) xs (rw l (omega arith))
    ∙ front_is (sets s n ys) xs (rw l m)
    ∙ ap (λ (t : List ℕ). xs ++ t) d
    ∙ sym (append_assoc xs ys (drop (n + length ys) s))
    ∙ ap (λ (k : ℕ). (xs ++ ys) ++ drop k s) (sym z)
    ∙ sym (front_is s (xs ++ ys) (omega arith))

-- data that a reply takes
abbrev pub Brief : Answer → Type 0
Brief (ok bytes) = length bytes ≤ 4096
Brief fail = Unit {0}
Brief unsupported = Unit {0}
Brief odd = Unit {0}

said_as : (w : World) (n m s : ℕ) (p r : List ℕ) → n ≡ m → p ≡ r
    → out_of s (at_e (with_said (record { len = n; pos = 0 }) w.e) (at_reply p w)) ≡ out_of s (at_e (with_said (record { len = m; pos = 0 }) w.e) (at_reply r w))
said_as w n m s p r h k = rw (h, k)

-- the header is laid before data that lie behind its place
front : (magic command status len : ℕ) (s ys : List ℕ) → length s ≡ 4112 → length ys ≤ 4096
    → laid (laid s 16 ys) 0 (header_of magic command status len) ≡ sets s 0 (header_of magic command status len ++ ys)
front magic command status len s ys e h =
    let x = header_of magic command status len in
    let n : length x ≡ 16 = header_length magic command status len in
    ap (λ (k : ℕ). laid (laid s k ys) 0 x) (sym n) ∙ laid_before s x ys (omega arith)

alone : (magic command status len : ℕ) (s : List ℕ) → length s ≡ 4112
    → laid s 0 (header_of magic command status len) ≡ sets s 0 (header_of magic command status len)
alone magic command status len s e =
    let x = header_of magic command status len in
    let n : length x ≡ 16 = header_length magic command status len in
    laid_sets 0 s x (omega arith)

pub ends_is : (command : ℕ) (a : Answer) (w : World) → length w.reply ≡ 4112 → Brief a → ends_by command (ended_by a) (at_reply (placed a w.reply) w) ≡ ends command a w
unfolding ends replied status_by reply_by
ends_is command (ok bytes) w e h =
    let x = header_of 0x52475055 command 0 (length bytes) in
    said_as w _ _ _ _ _ (omega (arith, length-append x bytes, header_length 0x52475055 command 0 (length bytes))) (front 0x52475055 command 0 (length bytes) w.reply bytes e h)
ends_is command fail w e h = said_as w _ _ _ _ _ (sym (header_length 0x52475055 command 1 0)) (alone 0x52475055 command 1 0 w.reply e)
ends_is command unsupported w e h =
    let x = header_of 0x52475055 command 1 108 in
    let z : length {A = ℕ} (replicate 108 0) ≡ 108 = length-replicate {A = ℕ} 108 0 in
    said_as w _ _ _ _ _ (omega (arith, length-append x (replicate 108 0), header_length 0x52475055 command 1 108)) (front 0x52475055 command 1 108 w.reply (replicate 108 0) e (omega arith))
ends_is command odd w e h = said_as w _ _ _ _ _ (sym (header_length 0 1 0 0)) (alone 0 1 0 0 w.reply e)

-- OK with no data, or a fail reply
pub whether_is : (command : ℕ) (b : Bool) (w : World) → length w.reply ≡ 4112 → ends_by command (ended_by (whether b)) w ≡ ends command (whether b) w
whether_is command true w e =
    ap (λ (p : List ℕ). ends_by command (ended_by (whether true)) (at_reply p w)) (sym (laid_none w.reply 16)) ∙ ends_is command (ok []) w e (omega arith)
whether_is command false w e = ends_is command fail w e tt
