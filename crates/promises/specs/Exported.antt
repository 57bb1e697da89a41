-- Uniqueness of the exported contracts: any two outcomes that the contract of a function of the crate `lamjhotu` admits for the same
-- arguments are equal, the answer and every lent byte. As in Clauses.antt, `Learnt` is the function's `ensures` as the checker made it.
use Rattle.std.specs.Prelude.{◌≡◌, List, [], ℕ}
use Rattle.std.proofs.Common.{ap}
use Rattle.lamjhotu.specs.Calls.{Told, told, Wrote, wrote, Took, took}
use Rattle.lamjhotu.proofs.calls.lamjhotu_record_len.Reads as record_len
use Rattle.lamjhotu.proofs.calls.lamjhotu_crc32.Reads as crc32
use Rattle.lamjhotu.proofs.calls.lamjhotu_open_nor.Reads as open_nor
use Rattle.lamjhotu.proofs.calls.lamjhotu_open_nand.Reads as open_nand
use Rattle.lamjhotu.proofs.calls.lamjhotu_write.Reads as write
use Rattle.lamjhotu.proofs.calls.lamjhotu_read.Reads as read
use Rattle.lamjhotu.proofs.calls.lamjhotu_reset.Reads as reset
use Rattle.lamjhotu.proofs.calls.lamjhotu_host_upgrading.Reads as host_upgrading
use Rattle.lamjhotu.proofs.calls.lamjhotu_reset_requested.Reads as reset_requested
use Rattle.promises.specs.Fixed.{meet}
use Rattle.promises.specs.Clauses.{Fixes, Returns}

-- the arguments at exit behind the first eight
abbrev past8 : {A B C D E F G H X : Type 0} → A × (B × (C × (D × (E × (F × (G × (H × X))))))) → X
past8 s = s.1.1.1.1.1.1.1.1

-- an answer and the record's bytes
told_fixed : (d : Told) (n n' : ℕ) (s s' : List ℕ) → told n s ≡ d → told n' s' ≡ d → (n ≡ n') × (s ≡ s')
told_fixed d n n' s s' h h' = let e = meet h h' in (ap (λ (t : Told). t.number) e, ap (λ (t : Told). t.state) e)

-- and every room that a write may change
wrote_fixed : (d : Wrote) (n n' : ℕ) (s s' q q' p p' c c' b b' x x' : List ℕ) → wrote n s q p c b x ≡ d → wrote n' s' q' p' c' b' x' ≡ d
    → (n ≡ n') × (s ≡ s') × (q ≡ q') × (p ≡ p') × (c ≡ c') × (b ≡ b') × (x ≡ x')
wrote_fixed d n n' s s' q q' p p' c c' b b' x x' h h' =
    let e = meet h h' in (
      ap (λ (t : Wrote). t.number) e,
      ap (λ (t : Wrote). t.state) e,
      ap (λ (t : Wrote). t.request) e,
      ap (λ (t : Wrote). t.reply) e,
      ap (λ (t : Wrote). t.chip) e,
      ap (λ (t : Wrote). t.buffer) e,
      ap (λ (t : Wrote). t.scratch) e,
    )

-- and the room of a read
took_fixed : (d : Took) (n n' : ℕ) (s s' m m' : List ℕ) → took n s m ≡ d → took n' s' m' ≡ d → (n ≡ n') × (s ≡ s') × (m ≡ m')
took_fixed d n n' s s' m m' h h' = let e = meet h h' in (ap (λ (t : Took). t.number) e, ap (λ (t : Took). t.state) e, ap (λ (t : Took). t.room) e)

-- `lamjhotu_record_len`
pub record_len_one : Returns record_len.Learnt
record_len_one k a r r' s s' = meet

-- `lamjhotu_crc32`
pub crc32_one : Returns crc32.Learnt
crc32_one k a r r' s s' = meet

-- `lamjhotu_open_nor`: the number, and the record
pub open_nor_one : Fixes open_nor.Learnt (λ k r r' s s'. (r ≡ r') × (s.0.now ≡ s'.0.now))
open_nor_one k a r r' s s' = told_fixed _ r r' _ _

-- `lamjhotu_open_nand`: the number, and the record
pub open_nand_one : Fixes open_nand.Learnt (λ k r r' s s'. (r ≡ r') × (s.0.now ≡ s'.0.now))
open_nand_one k a r r' s s' = told_fixed _ r r' _ _

-- `lamjhotu_write`: the status, the record, and request, reply, chip, buffer and scratch
pub write_one : Fixes write.Learnt (λ k r r' s s'.
    (r ≡ r')
    × (s.0.now ≡ s'.0.now)
    × (s.1.0.now ≡ s'.1.0.now)
    × ((past8 s).1.1.1.1.0.now ≡ (past8 s').1.1.1.1.0.now)
    × ((past8 s).1.0.now ≡ (past8 s').1.0.now)
    × ((past8 s).1.1.0.now ≡ (past8 s').1.1.0.now)
    × ((past8 s).1.1.1.0.now ≡ (past8 s').1.1.1.0.now))
write_one k a r r' s s' = wrote_fixed _ r r' _ _ _ _ _ _ _ _ _ _ _ _

-- `lamjhotu_read`: the count or the refusal, the record, and the room
pub read_one : Fixes read.Learnt (λ k r r' s s'.
    (r ≡ r')
    × (s.0.now ≡ s'.0.now)
    × ((past8 s).1.1.1.0.now ≡ (past8 s').1.1.1.0.now))
read_one k a r r' s s' h h' = took_fixed _ r r' _ _ _ _ (h [] []) (h' [] [])

-- `lamjhotu_reset`: the answer, and the record
pub reset_one : Fixes reset.Learnt (λ k r r' s s'. (r ≡ r') × (s.0.now ≡ s'.0.now))
reset_one k a r r' s s' = told_fixed _ r r' _ _

-- `lamjhotu_host_upgrading`
pub host_upgrading_one : Returns host_upgrading.Learnt
host_upgrading_one k a r r' s s' = meet

-- `lamjhotu_reset_requested`
pub reset_requested_one : Returns reset_requested.Learnt
reset_requested_one k a r r' s s' = meet
