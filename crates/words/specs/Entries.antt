-- A table's rule, shown at all of its entries by one test that is computed over the table.
use Rattle.std.specs.Prelude.{ℕ, zero, suc, ◌+◌, ◌<◌, ◌≡◌, Bool, true, ◌&&◌, List, [], ◌∷◌, length, get_or}
use Rattle.std.proofs.Common.{subst, sym, ◌∙◌, add-zero, zero-add, add-suc, suc-add, le_of_suc-le-suc, not-suc-le-zero}
use Rattle.words.specs.BoolLaws.{and_left, and_right}

-- the test passes at each entry and its place, counted from i
abbrev pub every : (ℕ → ℕ → Bool) → ℕ → List ℕ → Bool
every test i [] = true
every test i (x ∷ xs) = test i x && every test (suc i) xs

from : (test : ℕ → ℕ → Bool) (xs : List ℕ) (i : ℕ) → every test i xs ≡ true → (k : ℕ) → k < length xs → test (i + k) (get_or xs k 0) ≡ true
from test [] i t k h = absurd (not-suc-le-zero h)
from test (x ∷ xs) i t zero h = rw add-zero (and_left _ _ t)
from test (x ∷ xs) i t (suc k) h =
    subst (λ (m : ℕ). test m (get_or xs k 0) ≡ true) (suc-add i k ∙ sym (add-suc i k))
    (from test xs (suc i) (and_right (test i x) _ t) k (le_of_suc-le-suc h))

pub entry_rule : (test : ℕ → ℕ → Bool) (xs : List ℕ) → every test 0 xs ≡ true → (k : ℕ) → k < length xs → test k (get_or xs k 0) ≡ true
entry_rule test xs t k h = subst (λ (m : ℕ). test m (get_or xs k 0) ≡ true) (zero-add k) (from test xs 0 t k h)
