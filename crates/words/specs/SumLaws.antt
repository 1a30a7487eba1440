-- Bytes laid over zeros: the numbers in them are sums of what stood there and what was laid.
use Rattle.std.specs.Prelude.{ℕ, zero, suc, ◌+◌, ◌*◌, ◌<◌, ◌≡◌, refl, List, [], ◌∷◌, ◌++◌, length, get_or, replicate}
use Rattle.std.proofs.Common.{sym, ap₂, ◌∙◌, add-zero, zero-add, le_trans, zero-lt-suc, arith}
use Rattle.std.proofs.Math.Nat.{le-suc}
use Rattle.words.specs.Bytes.{AreBytes, be_at}

-- a list of zeros has no other element, past its end too
pub zero_get : (n i : ℕ) → get_or {A = ℕ} (replicate n 0) i 0 ≡ 0
zero_get zero i = refl
zero_get (suc n) zero = refl
zero_get (suc n) (suc i) = zero_get n i

pub bytes_zeros : (n : ℕ) → AreBytes (replicate n 0)
bytes_zeros n i = rw (zero_get n i) (zero-lt-suc 255)

-- x in the place of zeros
pub over_zeros : (p x t : List ℕ) (i : ℕ) → get_or (p ++ (x ++ t)) i 0 ≡ get_or (p ++ (replicate (length x) 0 ++ t)) i 0 + get_or (replicate (length p) 0 ++ x) i 0
over_zeros [] [] t i = sym (add-zero (get_or t i 0))
over_zeros [] (y ∷ x) t zero = sym (zero-add y)
over_zeros [] (y ∷ x) t (suc i) = over_zeros [] x t i
over_zeros (y ∷ p) x t zero = sym (add-zero y)
over_zeros (y ∷ p) x t (suc i) = over_zeros p x t i

pub be_at-sum : (k : ℕ) (s t u : List ℕ) (at : ℕ) → ((i : ℕ) → get_or s i 0 ≡ get_or t i 0 + get_or u i 0) → be_at k s at ≡ be_at k t at + be_at k u at
unfolding be_at
be_at-sum zero s t u at h = refl
be_at-sum (suc k) s t u at h = ap₂ (λ (x y : ℕ). x * 256 + y) (be_at-sum k s t u at h) (h (at + k)) ∙ omega arith

pub be_at_zeros : (k : ℕ) (s : List ℕ) (at : ℕ) → ((i : ℕ) → i < k → get_or s (at + i) 0 ≡ 0) → be_at k s at ≡ 0
unfolding be_at
be_at_zeros zero s at h = refl
be_at_zeros (suc k) s at h = ap₂ (λ (x y : ℕ). x * 256 + y) (be_at_zeros k s at (λ i l. h i (le_trans l (le-suc k)))) (h k (omega arith))
