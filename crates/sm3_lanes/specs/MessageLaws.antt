-- A word of each of four messages, and a block that is added to all of them.
use Rattle.std.specs.Prelude.{◌≡◌, ℕ, zero, suc, ◌+◌, ◌*◌, ◌%◌, ◌^◌, ◌<◌, ◌≤◌, List, length, take, set, ◌≢◌, nat_lt, slice_index, slice_index_or, slice_set, refl}
use Rattle.std.proofs.Common.{sym, ap, ◌∙◌, zero-add, add-zero, not-suc-le-zero, arith, ltb-true, ltb-false, length-set, take-suc, get_or-set_same, get_or-set_other}
use Rattle.words.specs.BoolLaws.{by-test}
use Rattle.words.specs.Bytes.{be_at}
use Rattle.sm3.specs.Sm3.{words_at}
use Rattle.sm3_lanes.specs.Lanes.{lane_of, among, Across, raised, Added}
use Rattle.sm3_lanes.specs.LaneLaws.{length_lane, lane_get, lane_set, lane_other}

-- what holds of each of four
pub four-cases : (P : ℕ → Type 0) → P 0 → P 1 → P 2 → P 3 → (k : ℕ) → k < 4 → P k
four-cases P a b c d zero h = a
four-cases P a b c d (suc zero) h = b
four-cases P a b c d (suc (suc zero)) h = c
four-cases P a b c d (suc (suc (suc zero))) h = d
four-cases P a b c d (suc (suc (suc (suc k)))) h = absurd (omega arith)

pub among-is : (x : ℕ → ℕ) {a b c d : ℕ} → a ≡ x 0 → b ≡ x 1 → c ≡ x 2 → d ≡ x 3 → (k : ℕ) → k < 4 → among a b c d k ≡ x k
unfolding among
among-is x {a} {b} {c} {d} p q r s = four-cases (λ k. among a b c d k ≡ x k) p q r s

pub across_same : (j : ℕ) (x y : ℕ → ℕ) (w w' : List ℕ) → ((k : ℕ) → k < 4 → x k ≡ y k) → Across j x w w' → Across j y w w'
across_same j x y w w' e across = record { each = λ k h. across.each k h ∙ rw (e k h) }

pub across_four : (w : List ℕ) (j a b c d : ℕ) {w₁ w₂ w₃ w₄ : List ℕ} → j < 68 → length w ≡ 272
    → w₁ ≡ slice_set w (4 * j) a → w₂ ≡ slice_set w₁ (4 * j + 1) b → w₃ ≡ slice_set w₂ (4 * j + 2) c → w₄ ≡ slice_set w₃ (4 * j + 3) d → Across j (among a b c d) w w₄
unfolding among
across_four w j a b c d {w₁} {w₂} {w₃} {w₄} h l p₀ p₂ p₃ p₄ =
    let p₁ : w₁ ≡ set w (4 * j + 0) a = p₀ ∙ rw add-zero in
    let l₁ : length w₁ ≡ 272 = rw (p₁, length-set) l in
    let l₂ : length w₂ ≡ 272 = rw (p₂, length-set) l₁ in
    let l₃ : length w₃ ≡ 272 = rw (p₃, length-set) l₂ in
    let past₁ : (k : ℕ) → k < 4 → (k ≢ 0) → lane_of 68 k w₁ ≡ lane_of 68 k w =
    (λ k q n. ap (lane_of 68 k) p₁ ∙ lane_other 68 k 0 w j a q (omega arith) n) in
    let past₂ : (k : ℕ) → k < 4 → (k ≢ 1) → lane_of 68 k w₂ ≡ lane_of 68 k w₁ =
    (λ k q n. ap (lane_of 68 k) p₂ ∙ lane_other 68 k 1 w₁ j b q (omega arith) n) in
    let past₃ : (k : ℕ) → k < 4 → (k ≢ 2) → lane_of 68 k w₃ ≡ lane_of 68 k w₂ =
    (λ k q n. ap (lane_of 68 k) p₃ ∙ lane_other 68 k 2 w₂ j c q (omega arith) n) in
    let past₄ : (k : ℕ) → k < 4 → (k ≢ 3) → lane_of 68 k w₄ ≡ lane_of 68 k w₃ =
    (λ k q n. ap (lane_of 68 k) p₄ ∙ lane_other 68 k 3 w₃ j d q (omega arith) n) in
    let put₁ = ap (lane_of 68 0) p₁ ∙ lane_set 68 0 w j a (omega arith) in
    let put₂ = ap (lane_of 68 1) p₂ ∙ lane_set 68 1 w₁ j b (omega arith) in
    let put₃ = ap (lane_of 68 2) p₃ ∙ lane_set 68 2 w₂ j c (omega arith) in
    let put₄ = ap (lane_of 68 3) p₄ ∙ lane_set 68 3 w₃ j d (omega arith) in
    let e₀ : lane_of 68 0 w₄ ≡ set (lane_of 68 0 w) j a =
    past₄ 0 (omega arith) (λ n. omega arith) ∙ past₃ 0 (omega arith) (λ n. omega arith) ∙ past₂ 0 (omega arith) (λ n. omega arith) ∙ put₁ in
    let e₁ : lane_of 68 1 w₄ ≡ set (lane_of 68 1 w) j b =
    past₄ 1 (omega arith) (λ n. omega arith) ∙ past₃ 1 (omega arith) (λ n. omega arith) ∙ put₂ ∙ rw (past₁ 1 (omega arith) (λ n. omega arith)) in
    let e₂ : lane_of 68 2 w₄ ≡ set (lane_of 68 2 w) j c =
    past₄ 2 (omega arith) (λ n. omega arith) ∙ put₃ ∙ rw (past₂ 2 (omega arith) (λ n. omega arith), past₁ 2 (omega arith) (λ n. omega arith)) in
    let e₃ : lane_of 68 3 w₄ ≡ set (lane_of 68 3 w) j d =
    put₄ ∙ rw (past₃ 3 (omega arith) (λ n. omega arith), past₂ 3 (omega arith) (λ n. omega arith), past₁ 3 (omega arith) (λ n. omega arith)) in
    record { each = four-cases (λ k. lane_of 68 k w₄ ≡ slice_set (lane_of 68 k w) j (among a b c d k)) e₀ e₁ e₂ e₃ }

pub raised-four : (w w' : List ℕ) (j x : ℕ) {a b c d : ℕ} → a ≡ (slice_index w (4 * j) + x) % 2 ^ 32 → b ≡ raised x j w 1 → c ≡ raised x j w 2 → d ≡ raised x j w 3
    → Across j (among a b c d) w w' → Across j (raised x j w) w w'
raised-four w w' j x {a} {b} {c} {d} p q r s =
    let first : a ≡ raised x j w 0 = p ∙ rw add-zero in
    across_same j (among a b c d) (raised x j w) w w' (among-is (raised x j w) first q r s)

pub added_none : (m w : List ℕ) → Added 0 m w w
added_none m w = record { done = λ k i p h. absurd (not-suc-le-zero h); left = λ k i p h. refl }

pub added_more : (n : ℕ) (m w w₁ w₂ : List ℕ) {x : ℕ} → n < 16 → Added n m w w₁ → x ≡ be_at 4 m (4 * n) → Across n (raised x n w₁) w₁ w₂ → Added (n + 1) m w w₂
added_more n m w w₁ w₂ {x} h added e across =
    let at : (k i : ℕ) → k < 4 → slice_index (lane_of 68 k w₂) i ≡ slice_index_or (slice_set (lane_of 68 k w₁) n (raised x n w₁ k)) i 0 =
    (λ k i p. ap (λ (s : List ℕ). slice_index s i) (across.each k p)) in
    let kept : (k i : ℕ) → k < 4 → (n ≢ i) → slice_index (lane_of 68 k w₂) i ≡ slice_index_or (lane_of 68 k w₁) i 0 =
    (λ k i p o. at k i p ∙ get_or-set_other (lane_of 68 k w₁) n i (raised x n w₁ k) 0 (λ z. o (sym z))) in
    record {
      done = λ k i p l.
          by-test (nat_lt i n)
          (λ t. let b : i < n = ltb-true i n t in
          kept k i p (λ z. omega arith) ∙ added.done k i p b)
          (λ t. let b : n ≤ i = ltb-false i n t in
          let i-is : i ≡ n = omega arith in
          let old : slice_index_or w₁ (4 * n + k) 0 ≡ slice_index_or (lane_of 68 k w) n 0 = sym (lane_get 68 k w₁ n (omega arith)) ∙ added.left k n p (omega arith) in
          rw i-is (at k n p ∙ get_or-set_same (lane_of 68 k w₁) n (raised x n w₁ k) 0 (rw (length_lane 68 k w₁) (omega arith)) ∙ rw (old, e)));
      left = λ k i p l. kept k i p (λ z. omega arith) ∙ added.left k i p (omega arith);
    }

-- words that are a block's are its words
pub words_are : (n : ℕ) (s m : List ℕ) → n ≤ length s → ((i : ℕ) → i < n → slice_index s i ≡ be_at 4 m (4 * i)) → take n s ≡ words_at n m 0
unfolding words_at
words_are zero s m h e = refl
words_are (suc n) s m h e = take-suc s n 0 (omega arith) ∙ rw (words_are n s m (omega arith) (λ i l. e i (omega arith)), e n (omega arith), zero-add (4 * n))
