-- The walk over the items of a message.
use Rattle.std.specs.Prelude.{ℕ, zero, suc, ◌+◌, ◌-◌, ◌≤◌, ◌<◌, ◌≡◌, refl, false, List, eqb, length, get_or}
use Rattle.std.proofs.Common.{ap, ne_eqb}
use native.Mathlib.Omega.{arith}
use Rattle.words.specs.BoolLaws.{and_true, and_false}
use Rattle.message.specs.Message.{item_end, items_at, items_end, all_plain}
use Rattle.message.specs.Walking.{items_fill}

-- items end behind the place where they start
pub end-behind : (n : ℕ) (s : List ℕ) (at : ℕ) → at ≤ items_end n s at
unfolding items_end
end-behind zero s at = omega arith
end-behind (suc n) s at = let h = end-behind n s (item_end s at) in omega arith

pub length-items_at : (n : ℕ) (s : List ℕ) (at : ℕ) → length (items_at n s at) ≡ n
unfolding items_at
length-items_at zero s at = refl
length-items_at (suc n) s at = ap suc (length-items_at n s (item_end s at))

-- ---- whether the items fill the body

module _ (n : ℕ) (s : List ℕ) (at : ℕ) where
  pub fill_none : n ≤ 0 → items_fill n s at ≡ eqb at (length s)
  unfolding items_fill items_end all_plain
  fill_none l = let z : n ≡ 0 = omega arith in rw z (and_true (eqb at (length s)))

  -- past the end there is no item
  pub fill_past : length s < items_end n s at → items_fill n s at ≡ false
  unfolding items_fill
  fill_past l = rw (ne_eqb (items_end n s at) (length s) (λ e. omega arith))

pub fill_short : (n : ℕ) (s : List ℕ) (at : ℕ) → 0 < n → length s < at + 4 → items_fill n s at ≡ false
unfolding items_end
fill_short zero s at p l = absurd (omega arith)
fill_short (suc n) s at p l = let h = end-behind n s (item_end s at) in fill_past (suc n) s at (omega arith)

pub fill_marked : (n : ℕ) (s : List ℕ) (at : ℕ) → 0 < n → (get_or s at 0 ≡ 0 → ⊥) → items_fill n s at ≡ false
unfolding items_fill all_plain
fill_marked zero s at p d = absurd (omega arith)
fill_marked (suc n) s at p d = rw (ne_eqb (get_or s at 0) 0 d) (and_false (eqb (items_end (suc n) s at) (length s)))

pub fill_next : (n : ℕ) (s : List ℕ) (at : ℕ) → 0 < n → get_or s at 0 ≡ 0 → items_fill n s at ≡ items_fill (n - 1) s (item_end s at)
unfolding items_fill items_end all_plain
fill_next zero s at p e = absurd (omega arith)
fill_next (suc n) s at p e = let z : suc n - 1 ≡ n = omega arith in rw (z, e)

-- ---- what is left

-- the items that are left end where the message ends
pub left_end : (n : ℕ) (s : List ℕ) (at : ℕ) → 0 < n → items_end n s at ≡ items_end (n - 1) s (item_end s at)
unfolding items_end
left_end zero s at p = absurd (omega arith)
left_end (suc n) s at p = let z : suc n - 1 ≡ n = omega arith in rw z

pub item-within : (n : ℕ) (s : List ℕ) (at : ℕ) → 0 < n → items_end n s at ≡ length s → item_end s at ≤ length s
item-within n s at p e = let h = end-behind (n - 1) s (item_end s at) in let l = left_end n s at p in omega arith
