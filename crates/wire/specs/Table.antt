-- A table of a function's values: what stands at each place. A const array equals such a table by computation.
use Rattle.std.specs.Prelude.{◌≡◌, ℕ, zero, suc, ◌+◌, ◌<◌, List, [], ◌∷◌, slice_index}
use Rattle.std.proofs.Common.{ap, ◌∙◌, sym, add-zero, zero-add, add-suc, suc-add, le_of_suc-le-suc, not-suc-le-zero}

-- f i, f (i + 1), .. : n of them
unfoldable pub table_of : (ℕ → ℕ) → ℕ → ℕ → List ℕ
table_of f zero i = []
table_of f (suc n) i = f i ∷ table_of f n (suc i)

from : (f : ℕ → ℕ) (n i k : ℕ) → k < n → slice_index (table_of f n i) k ≡ f (i + k)
unfolding table_of
from f zero i k h = absurd (not-suc-le-zero h)
from f (suc n) i zero h = ap f (sym (add-zero i))
from f (suc n) i (suc k) h = from f n (suc i) k (le_of_suc-le-suc h) ∙ ap f (suc-add i k ∙ sym (add-suc i k))

-- the rule at each place
pub at : (f : ℕ → ℕ) (n k : ℕ) → k < n → slice_index (table_of f n 0) k ≡ f k
at f n k h = from f n 0 k h ∙ ap f (zero-add k)
