-- Laws of the tests on lists, in the form in which a loop over the elements needs them.
use Rattle.std.specs.Prelude.{ℕ, zero, suc, ◌+◌, ◌-◌, ◌<◌, ◌≤◌, ◌≡◌, refl, Bool, true, false, ◌&&◌, List, [], ◌∷◌, eqb, leb, length, get_or, drop, replicate}
use Rattle.std.proofs.Common.{ap, ap₂, add-one, arith, eqb-true, eq-eqb, drop_of_length-le, drop-cons}
use Rattle.std.specs.List.{list_all}
use Rattle.words.specs.Lists.{same_bytes, all_zero, all_within}
use Rattle.words.specs.BoolLaws.{and_left, and_right, and_true, and_false, and_assoc}

-- the test says that the lists are equal
pub same_equal : (a b : List ℕ) → same_bytes a b ≡ true → a ≡ b
unfolding same_bytes
same_equal [] [] t = refl
same_equal [] (y ∷ b) t = cc
same_equal (x ∷ a) [] t = cc
same_equal (x ∷ a) (y ∷ b) t =
    ap₂ (λ (u : ℕ) (l : List ℕ). u ∷ l)
    (eqb-true x y (and_left _ _ t))
    (same_equal a b (and_right (eqb x y) _ t))

pub same_refl : (a : List ℕ) → same_bytes a a ≡ true
unfolding same_bytes
same_refl [] = refl
same_refl (x ∷ a) = rw (eq-eqb x x refl) (same_refl a)

pub same_lengths : (a b : List ℕ) → (length a ≡ length b → ⊥) → same_bytes a b ≡ false
unfolding same_bytes
same_lengths [] [] n = absurd (n refl)
same_lengths [] (y ∷ b) n = refl
same_lengths (x ∷ a) [] n = refl
same_lengths (x ∷ a) (y ∷ b) n = rw (same_lengths a b (λ e. n (ap suc e))) (and_false (eqb x y))

-- one more pair of elements is compared
pub same_more : (a b : List ℕ) (i : ℕ) (alike : Bool) → length a ≡ length b → i < length a
    → alike && same_bytes (drop i a) (drop i b) ≡ (alike && eqb (get_or a i 0) (get_or b i 0)) && same_bytes (drop (i + 1) a) (drop (i + 1) b)
unfolding same_bytes
same_more a b i alike e l =
    let m : i < length b = omega arith in
    rw (add-one, and_assoc, drop-cons a i 0, drop-cons b i 0)

pub same_end : (a b : List ℕ) (i : ℕ) (alike : Bool) → length a ≡ length b → length a ≤ i → alike && same_bytes (drop i a) (drop i b) ≡ alike
unfolding same_bytes
same_end a b i alike e l =
    let m : length b ≤ i = omega arith in
    rw (drop_of_length-le a l, drop_of_length-le b m) (and_true alike)

-- the tests as the library makes them
pub zero-all : (s : List ℕ) → list_all (λ x. eqb x 0) s ≡ all_zero s
unfolding all_zero
zero-all [] = refl
zero-all (x ∷ s) = ap (λ (t : Bool). eqb x 0 && t) (zero-all s)

-- a byte more is within the bounds
pub within_more : (low high : ℕ) (s : List ℕ) (i : ℕ) (clean : Bool) → i < length s
    → clean && all_within low high (drop i s) ≡ (clean && (leb low (get_or s i 0) && leb (get_or s i 0) high)) && all_within low high (drop (i + 1) s)
unfolding all_within
within_more low high s i clean h = rw (add-one, and_assoc, drop-cons s i 0)

pub within_end : (low high : ℕ) (s : List ℕ) (i : ℕ) (clean : Bool) → length s ≤ i → clean && all_within low high (drop i s) ≡ clean
unfolding all_within
within_end low high s i clean h = rw (drop_of_length-le s h) (and_true clean)

-- what is left of copies after some of them
pub drop-replicate : (k n a : ℕ) → drop k (replicate n a) ≡ replicate (n - k) a
drop-replicate zero n a = let e : n - 0 ≡ n = omega arith in rw e
drop-replicate (suc k) zero a = let e : 0 - suc k ≡ 0 = omega arith in rw e
drop-replicate (suc k) (suc n) a = let e : suc n - suc k ≡ n - k = omega arith in rw e (drop-replicate k n a)

pub drop_zeros : (k n : ℕ) → drop k (replicate {A = ℕ} n 0) ≡ replicate (n - k) 0
drop_zeros k n = drop-replicate k n 0
