-- That the two largest rooms have their length is a law, as to compute it goes too deep.
use Rattle.std.proofs.Common.{ℕ, sym}
use Rattle.std.proofs.lemmas.List.{length-replicate}
use Rattle.lab.proofs.main.Goals as goal

pub slice_bounds-lab-end-7 : goal.slice_bounds-lab-end-7
slice_bounds-lab-end-7 c = sym (length-replicate {A = ℕ} 1048576 0)

pub slice_bounds-lab-end-8 : goal.slice_bounds-lab-end-8
slice_bounds-lab-end-8 c = sym (length-replicate {A = ℕ} 1048576 0)
