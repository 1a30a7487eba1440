-- Four hashes side by side. What is done to a message's words is what the laws of one message say.
use Rattle.std.specs.Prelude.{◌≡◌, ℕ, zero, suc, ◌+◌, ◌-◌, ◌*◌, ◌/◌, ◌<◌, ◌≤◌, List, [], ◌∷◌, length, set, nat_lt, slice_index, slice_index_or, slice_set, refl}
use Rattle.std.proofs.Common.{ap, ◌∙◌, zero-add, not-suc-le-zero, arith, ltb-true, ltb-false, length-set}
use Rattle.words.specs.BoolLaws.{by-test}
use Rattle.words.specs.Words.{◌⊕◌, ◌⋘◌}
use Rattle.sm3.specs.declared.Registers.{Registers}
use Rattle.sm3.specs.Sm3.{p1, round, next_word, words_at, padded, iterated, iv, compressed, xored}
use Rattle.sm3.specs.Rounds.{round_on, Reached, last_value, word_total}
use Rattle.sm3.specs.Sm3Laws.{four-grown, four-past, reached-none, reached_next, reached_on, compress_of, length-padded}
use Rattle.sm3.specs.PaddingLaws.{last_blocks_one}
use Rattle.sm3_lanes.specs.Lanes.{lane_of, Grew, registers_of, value_at, Put, Stepped, Moved, Part, AllReached, Starts, lane_sum, lane_sums}
use Rattle.sm3_lanes.specs.LaneLaws.{length_lane, lane_get, lane_set, apart_more, apart_none}

-- ---- the words

pub next_lane : (w : List ℕ) (l j : ℕ) → 16 ≤ j → j < 68
    → p1 (slice_index_or w (4 * (j - 16) + l) 0 ⊕ slice_index_or w (4 * (j - 9) + l) 0 ⊕ (slice_index_or w (4 * (j - 3) + l) 0 ⋘ 15)) ⊕ (slice_index_or w (4 * (j - 13) + l) 0 ⋘ 7) ⊕ slice_index_or w (4 * (j - 6) + l) 0
    ≡ next_word (lane_of 68 l w) j
unfolding next_word
next_lane w l j h k =
    rw (
      lane_get 68 l w (j - 16) (omega arith),
      lane_get 68 l w (j - 9) (omega arith),
      lane_get 68 l w (j - 3) (omega arith),
      lane_get 68 l w (j - 13) (omega arith),
      lane_get 68 l w (j - 6) (omega arith),
    )

pub grew_four : (w : List ℕ) (l j : ℕ) {w₁ w₂ w₃ w₄ : List ℕ} → l < 4 → j + 4 ≤ 68 → length w ≡ 272
    → length w₁ ≡ length w → length w₂ ≡ length w₁ → length w₃ ≡ length w₂
    → w₁ ≡ slice_set w (4 * j + l) (next_word (lane_of 68 l w) j)
    → w₂ ≡ slice_set w₁ (4 * (j + 1) + l) (next_word (lane_of 68 l w₁) (j + 1))
    → w₃ ≡ slice_set w₂ (4 * (j + 2) + l) (next_word (lane_of 68 l w₂) (j + 2))
    → w₄ ≡ slice_set w₃ (4 * (j + 3) + l) (next_word (lane_of 68 l w₃) (j + 3))
    → Grew l j w w₄
grew_four w l j {w₁} {w₂} {w₃} {w₄} q h k k₁ k₂ k₃ p₁ p₂ p₃ p₄ =
    let e₁ = ap (lane_of 68 l) p₁ ∙ lane_set 68 l w j (next_word (lane_of 68 l w) j) (omega arith) in
    let e₂ = ap (lane_of 68 l) p₂ ∙ lane_set 68 l w₁ (j + 1) (next_word (lane_of 68 l w₁) (j + 1)) (omega arith) in
    let e₃ = ap (lane_of 68 l) p₃ ∙ lane_set 68 l w₂ (j + 2) (next_word (lane_of 68 l w₂) (j + 2)) (omega arith) in
    let e₄ = ap (lane_of 68 l) p₄ ∙ lane_set 68 l w₃ (j + 3) (next_word (lane_of 68 l w₃) (j + 3)) (omega arith) in
    let a₁ = apart_more l w w j (next_word (lane_of 68 l w) j) q (apart_none l w) p₁ in
    let a₂ = apart_more l w w₁ (j + 1) (next_word (lane_of 68 l w₁) (j + 1)) q a₁ p₂ in
    let a₃ = apart_more l w w₂ (j + 2) (next_word (lane_of 68 l w₂) (j + 2)) q a₂ p₃ in
    record {
      words = four-grown (lane_of 68 l w) j e₁ e₂ e₃ e₄;
      rest = apart_more l w w₃ (j + 3) (next_word (lane_of 68 l w₃) (j + 3)) q a₃ p₄;
    }

-- past W_67 there is nothing to grow
pub grew_past : (l j : ℕ) (w : List ℕ) → 68 ≤ j → Grew l j w w
grew_past l j w h = record { words = four-past (lane_of 68 l w) j (rw (length_lane 68 l w) h); rest = apart_none l w }

-- ---- the registers

pub value-at : (l : ℕ) (s : List ℕ)
    → ◌≡◌ {A = Registers} (record { a = slice_index s l; b = slice_index s (4 + l); c = slice_index s (8 + l); d = slice_index s (12 + l); e = slice_index s (16 + l); f = slice_index s (20 + l); g = slice_index s (24 + l); h = slice_index s (28 + l) })
    (value_at l s)
unfolding lane_of
value-at l s = rw (zero-add l)

eight_set : (l : ℕ) (s : List ℕ) (r : Registers)
    → slice_set (slice_set (slice_set (slice_set (slice_set (slice_set (slice_set (slice_set (lane_of 8 l s) 0 r.a) 1 r.b) 2 r.c) 3 r.d) 4 r.e) 5 r.f) 6 r.g) 7 r.h
    ≡ r.a ∷ r.b ∷ r.c ∷ r.d ∷ r.e ∷ r.f ∷ r.g ∷ r.h ∷ []
unfolding lane_of
eight_set l s r = refl

pub put_eight : (s : List ℕ) (l : ℕ) (r : Registers) {s₁ s₂ s₃ s₄ s₅ s₆ s₇ s₈ : List ℕ} → l < 4 → length s ≡ 32
    → s₁ ≡ slice_set s l r.a → s₂ ≡ slice_set s₁ (4 + l) r.b → s₃ ≡ slice_set s₂ (8 + l) r.c → s₄ ≡ slice_set s₃ (12 + l) r.d
    → s₅ ≡ slice_set s₄ (16 + l) r.e → s₆ ≡ slice_set s₅ (20 + l) r.f → s₇ ≡ slice_set s₆ (24 + l) r.g → s₈ ≡ slice_set s₇ (28 + l) r.h
    → Put l r s s₈
put_eight s l r {s₁} {s₂} {s₃} {s₄} {s₅} {s₆} {s₇} {s₈} q k p₀ p₂ p₃ p₄ p₅ p₆ p₇ p₈ =
    let p₁ : s₁ ≡ set s (4 * 0 + l) r.a = p₀ ∙ rw (zero-add l) in
    let k₁ : length s₁ ≡ 32 = rw (p₁, length-set) k in
    let k₂ : length s₂ ≡ 32 = rw (p₂, length-set) k₁ in
    let k₃ : length s₃ ≡ 32 = rw (p₃, length-set) k₂ in
    let k₄ : length s₄ ≡ 32 = rw (p₄, length-set) k₃ in
    let k₅ : length s₅ ≡ 32 = rw (p₅, length-set) k₄ in
    let k₆ : length s₆ ≡ 32 = rw (p₆, length-set) k₅ in
    let k₇ : length s₇ ≡ 32 = rw (p₇, length-set) k₆ in
    let e₁ = ap (lane_of 8 l) p₁ ∙ lane_set 8 l s 0 r.a (omega arith) in
    let e₂ = ap (lane_of 8 l) p₂ ∙ lane_set 8 l s₁ 1 r.b (omega arith) in
    let e₃ = ap (lane_of 8 l) p₃ ∙ lane_set 8 l s₂ 2 r.c (omega arith) in
    let e₄ = ap (lane_of 8 l) p₄ ∙ lane_set 8 l s₃ 3 r.d (omega arith) in
    let e₅ = ap (lane_of 8 l) p₅ ∙ lane_set 8 l s₄ 4 r.e (omega arith) in
    let e₆ = ap (lane_of 8 l) p₆ ∙ lane_set 8 l s₅ 5 r.f (omega arith) in
    let e₇ = ap (lane_of 8 l) p₇ ∙ lane_set 8 l s₆ 6 r.g (omega arith) in
    let e₈ = ap (lane_of 8 l) p₈ ∙ lane_set 8 l s₇ 7 r.h (omega arith) in
    let a₁ = apart_more l s s 0 r.a q (apart_none l s) p₁ in
    let a₂ = apart_more l s s₁ 1 r.b q a₁ p₂ in
    let a₃ = apart_more l s s₂ 2 r.c q a₂ p₃ in
    let a₄ = apart_more l s s₃ 3 r.d q a₃ p₄ in
    let a₅ = apart_more l s s₄ 4 r.e q a₄ p₅ in
    let a₆ = apart_more l s s₅ 5 r.f q a₅ p₆ in
    let a₇ = apart_more l s s₆ 6 r.g q a₆ p₇ in
    let all : lane_of 8 l s₈ ≡ r.a ∷ r.b ∷ r.c ∷ r.d ∷ r.e ∷ r.f ∷ r.g ∷ r.h ∷ [] =
    e₈ ∙ rw (e₇, e₆, e₅, e₄, e₃, e₂, e₁) (eight_set l s r) in
    record {
      value = ap registers_of all;
      rest = apart_more l s s₇ 7 r.h q a₇ p₈;
    }

-- a round of message l on its two words
pub round_lane : (j l : ℕ) (w : List ℕ) (r : Registers) {q : Registers} → j < 64
    → q ≡ round_on j (slice_index_or w (4 * j + l) 0) (slice_index_or w (4 * (j + 4) + l) 0) r → q ≡ round j (lane_of 68 l w) r
unfolding round_on round
round_lane j l w r h e = e ∙ rw (lane_get 68 l w j (omega arith), lane_get 68 l w (j + 4) (omega arith))

-- ---- four rounds of message l, then of all

pub stepped_of : (l j : ℕ) (s w : List ℕ) {s' w' : List ℕ} {r r₁ r₂ r₃ r₄ : Registers} → Grew l (16 + j) w w' → r ≡ value_at l s
    → r₁ ≡ round j (lane_of 68 l w') r → r₂ ≡ round (j + 1) (lane_of 68 l w') r₁ → r₃ ≡ round (j + 2) (lane_of 68 l w') r₂
    → r₄ ≡ round (j + 3) (lane_of 68 l w') r₃ → Put l r₄ s s' → Stepped l j s w s' w'
stepped_of l j s w grew e e₁ e₂ e₃ e₄ put =
    record {
      words = grew.words;
      value = put.value ∙ rw (e₄, e₃, e₂, e₁, e);
      rest-value = put.rest;
      rest-words = grew.rest;
    }

pub part_none : (j : ℕ) (s w : List ℕ) → Part 0 j s w s w
part_none j s w = record { done = λ k h p. absurd (not-suc-le-zero h); left = λ k h p. (refl, refl) }

pub part_more : (m j : ℕ) (s w s₁ w₁ s₂ w₂ : List ℕ) → m < 4 → Part m j s w s₁ w₁ → Stepped m j s₁ w₁ s₂ w₂ → Part (m + 1) j s w s₂ w₂
part_more m j s w s₁ w₁ s₂ w₂ q part step =
    record {
      done = λ k h p.
          by-test (nat_lt k m)
          (λ t. let b : k < m = ltb-true k m t in
          let n : k ≡ m → ⊥ = (λ e. omega arith) in
          let old = part.done k b p in
          let ew = step.rest-words 68 k p n in
          let es = step.rest-value 8 k p n in
          (ew ∙ old.0, rw (es, ew) old.1))
          (λ t. let b : m ≤ k = ltb-false k m t in
          let e : k ≡ m = omega arith in
          let old = part.left m (omega arith) q in
          rw e (step.words ∙ rw old.0, step.value ∙ rw old.1));
      left = λ k h p.
          let n : k ≡ m → ⊥ = (λ e. omega arith) in
          let old = part.left k (omega arith) p in
          (step.rest-words 68 k p n ∙ old.0, step.rest-value 8 k p n ∙ old.1);
    }

pub part-all : (m j : ℕ) (s w s' w' : List ℕ) → 4 ≤ m → Part m j s w s' w' → Moved j s w s' w'
part-all m j s w s' w' h part = record { each = λ k p. part.done k (omega arith) p }

-- ---- the rounds of all by fours, from round 4 b on

pub all_none : (b : ℕ) (s w : List ℕ) → AllReached (4 * (b - b)) (4 * b) s w s w
all_none b s w = let e : 4 * (b - b) ≡ 0 = omega arith in rw e (record { each = λ k p. reached-none (4 * b) (lane_of 68 k w) (value_at k s) })

pub all_more : (b i : ℕ) (s w s₁ w₁ s₂ w₂ : List ℕ) → b ≤ i → AllReached (4 * (i - b)) (4 * b) s w s₁ w₁ → Moved (4 * i) s₁ w₁ s₂ w₂
    → AllReached (4 * (i + 1 - b)) (4 * b) s w s₂ w₂
all_more b i s w s₁ w₁ s₂ w₂ h reached moved =
    let place : 16 + 4 * i ≡ 4 * (4 + i) = omega arith in
    record { each = λ k p. reached_next b i (lane_of 68 k w) (value_at k s) h (reached.each k p) (rw place at (moved.each k p).0) (moved.each k p).1 }

-- ---- from messages to sums

abbrev spread_of : Registers → List ℕ
spread_of v =
    v.a ∷ v.a ∷ v.a ∷ v.a ∷ v.b ∷ v.b ∷ v.b ∷ v.b ∷ v.c ∷ v.c ∷ v.c ∷ v.c ∷ v.d ∷ v.d ∷ v.d ∷ v.d ∷
    v.e ∷ v.e ∷ v.e ∷ v.e ∷ v.f ∷ v.f ∷ v.f ∷ v.f ∷ v.g ∷ v.g ∷ v.g ∷ v.g ∷ v.h ∷ v.h ∷ v.h ∷ v.h ∷
    []

spread_at : (k : ℕ) → k < 4 → (v : Registers) → value_at k (spread_of v) ≡ v
unfolding lane_of
spread_at zero p v = refl
spread_at (suc zero) p v = refl
spread_at (suc (suc zero)) p v = refl
spread_at (suc (suc (suc zero))) p v = refl
spread_at (suc (suc (suc (suc k)))) p v = absurd (omega arith)

pub starts_spread : (v : Registers) → Starts v (spread_of v)
starts_spread v = record { each = λ k p. spread_at k p v }

-- the three runs of rounds make the compression function on each message's block
module _ (s w s₁ w₁ s₂ w₂ s₃ w₃ : List ℕ) (v : Registers) (i : v ≡ iv) (starts : Starts v s)
    (early : AllReached 16 0 s w s₁ w₁) (late : AllReached 36 16 s₁ w₁ s₂ w₂) (last : AllReached 12 52 s₂ w₂ s₃ w₃) where
  lane_sum_lem : (k : ℕ) {r : ℕ} → k < 4 → r ≡ word_total (xored (value_at k s₃) v) → r ≡ lane_sum k w
  lane_sum_lem k p e =
      let begun : Reached 16 0 (lane_of 68 k w) v (lane_of 68 k w₁) (value_at k s₁) = rw (starts.each k p) at (early.each k p) in
      let all = reached_on (reached_on begun (late.each k p)) (last.each k p) in
      e ∙ ap word_total (compress_of (length_lane 68 k w) refl all) ∙ rw i

  pub all-sums : {a b c d : ℕ} → a ≡ word_total (xored (value_at 0 s₃) v) → b ≡ word_total (xored (value_at 1 s₃) v)
      → c ≡ word_total (xored (value_at 2 s₃) v) → d ≡ word_total (xored (value_at 3 s₃) v) → a ∷ b ∷ c ∷ d ∷ [] ≡ lane_sums w
  all-sums a b c d = rw (lane_sum_lem 0 (omega arith) a, lane_sum_lem 1 (omega arith) b, lane_sum_lem 2 (omega arith) c, lane_sum_lem 3 (omega arith) d)

-- the hash of a message of one block
pub one_block : (m : List ℕ) → length m < 56 → compressed iv (words_at 16 (padded m) 0) ≡ last_value m
unfolding last_value iterated
one_block m h =
    let n : length (padded m) / 64 ≡ 1 = rw (length-padded m, ← last_blocks_one (length m) (omega arith)) (omega arith) in
    rw n
