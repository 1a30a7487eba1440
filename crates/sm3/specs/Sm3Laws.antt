-- Laws of SM3, in the form in which the code's loops need them.
use Rattle.std.specs.Prelude.{◌≡◌, ℕ, Bool, cond, Ok, Err, zero, suc, ◌+◌, ◌-◌, ◌*◌, ◌/◌, ◌%◌, ◌^◌, ◌<◌, ◌≤◌, List, ◌∷◌, ◌++◌, length, take, drop, set, replicate, nat_eq, nat_lt, slice_index, slice_index_or, slice_set, refl}
use Rattle.std.proofs.Common.{sym, ap, ◌∙◌, append_assoc, add_assoc, add-suc, add-zero, zero-add, add-one, arith, lt-ltb, le-ltb, ltb-true, ltb-false, eqb-true, length-set, length-append, length-take, length-drop, take-append-drop, drop-drop, get_or-take, get_or-drop, get_or-set_other, take_all, length-take-le, take-suc-set}
use Rattle.std.proofs.Math.Numerals.{add-four}
use Rattle.std.proofs.lemmas.List.{length-replicate, replicate-append-replicate, set_at}
use Rattle.std.proofs.Math.ListN.{get_or-append}
use Rattle.std.proofs.Math.Seq.{set_out}
use Rattle.words.specs.BoolLaws.{by-test}
use Rattle.words.specs.Entries.{entry_rule}
use Rattle.words.specs.Bytes.{be_at, be_bytes, put_be}
use Rattle.words.specs.BytesLaws.{be_at-agree, length-be_bytes, put_be_seam, be_bytes-split}
use Rattle.words.specs.Words.{◌⊕◌, ◌⋘◌}
use Rattle.words.specs.WordsLaws.{rotated_pair, xor_assoc}
use Rattle.sm3.specs.declared.Registers.{Registers}
use Rattle.sm3.specs.Sm3.{constant, parity, majority, choice, ff, gg, round_with, round, rounds, next_word, expand, compressed, words_at, xored, iterated, zeros_after, padded, iv, digest, sm3_of, sm3_answer}
use Rattle.sm3.specs.Rounds.{last_blocks, ended, digest_from, constants, round_on, four_rounds, rounds_from, grown, Reached, last_value, word_total}
use Rattle.sm3.specs.PaddingLaws.{last_blocks_fill, padded-rest, length-ended}

-- ---- the constants: T of each round, rotated by the round's number

pub constant-at : (j : ℕ) → j < 64 → slice_index constants j ≡ constant j ⋘ (j % 32)
unfolding ◌⋘◌
constant-at j h = eqb-true (slice_index constants j) (constant j ⋘ (j % 32)) (entry_rule (λ k x. nat_eq x (constant k ⋘ (k % 32))) constants refl j h)

-- ---- the permutations P0 and P1

-- both rotate twice, the second time by eight bits more: these can be rotated first
pub permuted_by_eight : (x n : ℕ) → x < 2 ^ 32 → n ≤ 24 → x ⊕ ((x ⊕ (x ⋘ 8)) ⋘ n) ≡ x ⊕ (x ⋘ n) ⊕ (x ⋘ (8 + n))
permuted_by_eight x n word within = ap (λ (y : ℕ). x ⊕ y) (rotated_pair x 8 n word (omega arith)) ∙ sym (xor_assoc x (x ⋘ n) (x ⋘ (8 + n)))

-- ---- rounds

-- a round from its parts, with the constant read from the table
pub round_of : (j word ahead : ℕ) (t : List ℕ) (r : Registers) {early : Bool} {f g : ℕ} {q : Registers} → j < 64 → t ≡ constants → early ≡ nat_lt j 16
    → f ≡ cond early (parity r.a r.b r.c) (majority r.a r.b r.c) → g ≡ cond early (parity r.e r.f r.g) (choice r.e r.f r.g)
    → q ≡ round_with f g (slice_index t j) word (word ⊕ ahead) r → q ≡ round_on j word ahead r
unfolding ff gg round_on
round_of j word ahead t r h table e p q done = let k : slice_index t j ≡ constant j ⋘ (j % 32) = rw table (constant-at j h) in rw (done, p, q, e, k)

-- four rounds, each on its two words
pub four_of : (j : ℕ) (w : List ℕ) (r₀ : Registers) {r₁ r₂ r₃ r₄ : Registers}
    → r₁ ≡ round_on j (slice_index w j) (slice_index_or w (j + 4) 0) r₀ → r₂ ≡ round_on (j + 1) (slice_index w (j + 1)) (slice_index_or w (j + 5) 0) r₁
    → r₃ ≡ round_on (j + 2) (slice_index w (j + 2)) (slice_index_or w (j + 6) 0) r₂ → r₄ ≡ round_on (j + 3) (slice_index w (j + 3)) (slice_index_or w (j + 7) 0) r₃
    → r₄ ≡ four_rounds j w r₀
unfolding round_on round
four_of j w r₀ p q s t =
    let e : j + 1 + 4 ≡ j + 5 = omega arith in
    let f : j + 2 + 4 ≡ j + 6 = omega arith in
    let g : j + 3 + 4 ≡ j + 7 = omega arith in
    rw (t, s, q, p, e, f, g)

pub four_more : (n j : ℕ) (w : List ℕ) (r : Registers) → four_rounds (j + n) w (rounds_from n j w r) ≡ rounds_from (n + 4) j w r
unfolding rounds_from
four_more n j w r =
    let e : j + suc n ≡ j + n + 1 = omega arith in
    let f : j + suc (suc n) ≡ j + n + 2 = omega arith in
    let g : j + suc (suc (suc n)) ≡ j + n + 3 = omega arith in
    rw (add-four, e, f, g)

pub rounds-from-zero : (n : ℕ) (w : List ℕ) (r : Registers) → rounds n w r ≡ rounds_from n 0 w r
unfolding rounds rounds_from
rounds-from-zero zero w r = refl
rounds-from-zero (suc n) w r = rw (zero-add, rounds-from-zero n w r)

pub rounds_on : (m n j : ℕ) (w : List ℕ) (r : Registers) → rounds_from m (j + n) w (rounds_from n j w r) ≡ rounds_from (n + m) j w r
unfolding rounds_from
rounds_on zero n j w r = rw add-zero
rounds_on (suc m) n j w r = rw (add-suc, ← add_assoc j n m, rounds_on m n j w r)

-- ---- the words that grow along with the rounds

pub length-grown : (n : ℕ) (w : List ℕ) (j : ℕ) → length (grown n w j) ≡ length w
unfolding grown
length-grown zero w j = refl
length-grown (suc n) w j = rw (length-set, length-grown n w j)

pub grown_on : (m n : ℕ) (w : List ℕ) (j : ℕ) → grown m (grown n w j) (j + n) ≡ grown (n + m) w j
unfolding grown
grown_on zero n w j = rw add-zero
grown_on (suc m) n w j = rw (add-suc, ← add_assoc j n m, grown_on m n w j)

-- a round does not see a word stored behind those that it reads
round-set : (i : ℕ) (w : List ℕ) (k x : ℕ) (r : Registers) → i + 4 < k → round i (slice_set w k x) r ≡ round i w r
unfolding round
round-set i w k x r h =
    let e : i ≡ k → ⊥ = λ e. omega arith in
    let f : i + 4 ≡ k → ⊥ = λ e. omega arith in
    rw (get_or-set_other w k i x 0 e, get_or-set_other w k (i + 4) x 0 f)

rounds-set : (n j : ℕ) (w : List ℕ) (k x : ℕ) (r : Registers) → j + n + 4 ≤ k → rounds_from n j (slice_set w k x) r ≡ rounds_from n j w r
unfolding rounds_from
rounds-set zero j w k x r h = refl
rounds-set (suc n) j w k x r h =
    rw (rounds-set n j w k x r (omega arith)) (round-set (j + n) w k x (rounds_from n j w r) (omega arith))

pub rounds-grown : (m n j : ℕ) (w : List ℕ) (k : ℕ) (r : Registers) → j + n + 4 ≤ k → rounds_from n j (grown m w k) r ≡ rounds_from n j w r
unfolding grown
rounds-grown zero n j w k r h = refl
rounds-grown (suc m) n j w k r h =
    rounds-set n j (grown m w k) (k + m) (next_word (grown m w k) (k + m)) r (omega arith) ∙ rounds-grown m n j w k r h

next-word-take : (w : List ℕ) (j : ℕ) → 16 ≤ j → next_word (take j w) j ≡ next_word w j
unfolding next_word
next-word-take w j h =
    rw (
      get_or-take j w (j - 16) 0 (omega arith),
      get_or-take j w (j - 9) 0 (omega arith),
      get_or-take j w (j - 3) 0 (omega arith),
      get_or-take j w (j - 13) 0 (omega arith),
      get_or-take j w (j - 6) 0 (omega arith),
    )

-- the words that were stored are the expansion
pub grown_expands : (n : ℕ) (w : List ℕ) → 16 + n ≤ length w → take (16 + n) (grown n w 16) ≡ expand n (take 16 w)
unfolding grown expand
grown_expands zero w h = refl
grown_expands (suc n) w h =
    let v = grown n w 16 in
    let ih : take (16 + n) v ≡ expand n (take 16 w) = grown_expands n w (omega arith) in
    rw (add-suc)
    (take-suc-set v (16 + n) (next_word v (16 + n)) (rw (length-grown n w 16) (omega arith))
    ∙ rw (← ih, next-word-take v (16 + n) (omega arith)))

pub four-grown : (w : List ℕ) (j : ℕ) {w₁ w₂ w₃ w₄ : List ℕ} → w₁ ≡ slice_set w j (next_word w j)
    → w₂ ≡ slice_set w₁ (j + 1) (next_word w₁ (j + 1)) → w₃ ≡ slice_set w₂ (j + 2) (next_word w₂ (j + 2))
    → w₄ ≡ slice_set w₃ (j + 3) (next_word w₃ (j + 3)) → w₄ ≡ grown 4 w j
unfolding grown
four-grown w j p q r s = let e : j + 0 ≡ j = add-zero j in cc

pub reached-none : (s : ℕ) (w : List ℕ) (r : Registers) → Reached 0 s w r w r
unfolding grown rounds_from
reached-none s w r = record { words = refl; registers = refl }

pub reached_more : (i s k : ℕ) (w₀ : List ℕ) (r₀ : Registers) {w w' : List ℕ} {r r' : Registers} → Reached i s w₀ r₀ w r → k ≡ s + i
    → w' ≡ grown 4 w (s + 16 + i) → r' ≡ four_rounds k w' r → Reached (i + 4) s w₀ r₀ w' r'
reached_more i s k w₀ r₀ {w} {w'} {r} {r'} reached e p q =
    let kept : r ≡ rounds_from i s w' r₀ = reached.registers ∙ rw p (sym (rounds-grown 4 i s w (s + 16 + i) r₀ (omega arith))) in
    record {
      words = p ∙ rw reached.words (grown_on 4 i w₀ (s + 16));
      registers = q ∙ rw (e, kept) (four_more i s w' r₀);
    }

-- the same by fours
pub reached_next : (first k : ℕ) (w₀ : List ℕ) (r₀ : Registers) {w w' : List ℕ} {r r' : Registers} → first ≤ k → Reached (4 * (k - first)) (4 * first) w₀ r₀ w r
    → w' ≡ grown 4 w (4 * (4 + k)) → r' ≡ four_rounds (4 * k) w' r → Reached (4 * (k + 1 - first)) (4 * first) w₀ r₀ w' r'
reached_next first k w₀ r₀ h reached p q =
    let i = 4 * (k - first) in
    let n : 4 * (k + 1 - first) ≡ i + 4 = omega arith in
    let place : 4 * (4 + k) ≡ 4 * first + 16 + i = omega arith in
    rw n (reached_more i (4 * first) (4 * k) w₀ r₀ reached (omega arith) (rw place at p) q)

-- one run of rounds after another
pub reached_on : {i n s : ℕ} {w₀ w₁ w₂ : List ℕ} {r₀ r₁ r₂ : Registers} → Reached i s w₀ r₀ w₁ r₁ → Reached n (s + i) w₁ r₁ w₂ r₂
    → Reached (i + n) s w₀ r₀ w₂ r₂
reached_on {i} {n} {s} {w₀} {w₁} {w₂} {r₀} {r₁} first then =
    let place : s + i + 16 ≡ s + 16 + i = omega arith in
    let kept : r₁ ≡ rounds_from i s w₂ r₀ = first.registers ∙ rw then.words (sym (rounds-grown n i s w₁ (s + i + 16) r₀ (omega arith))) in
    record {
      words = then.words ∙ rw (first.words, place) (grown_on n i w₀ (s + 16));
      registers = then.registers ∙ rw kept (rounds_on n i s w₂ r₀);
    }

-- ---- a block

pub load_more : (m : List ℕ) (at j : ℕ) (w : List ℕ) {x : ℕ} → j < length w → take j w ≡ words_at j m at → x ≡ be_at 4 m (at + 4 * j)
    → take (j + 1) (slice_set w j x) ≡ words_at (j + 1) m at
unfolding words_at
load_more m at j w {x} h p e = rw add-one (take-suc-set w j x h ∙ rw (p, e))

-- past the last word nothing is stored
grown-past : (n : ℕ) (w : List ℕ) (j : ℕ) → length w ≤ j → grown n w j ≡ w
unfolding grown
grown-past zero w j h = refl
grown-past (suc n) w j h = rw (grown-past n w j h) (set_out w (j + n) (next_word w (j + n)) (omega arith))

pub four-past : (w : List ℕ) (j : ℕ) → length w ≤ j → w ≡ grown 4 w j
four-past w j h = sym (grown-past 4 w j h)

-- all rounds make the compression function
pub compress_of : {v : Registers} {block w w' : List ℕ} {r : Registers} → length w ≡ 68 → take 16 w ≡ block → Reached 64 0 w v w' r
    → xored r v ≡ compressed v block
unfolding compressed
compress_of {v} {block} {w} {w'} l b reached =
    let full : length (grown 52 w 16) ≤ 68 = rw (length-grown 52 w 16) (omega arith) in
    let all : w' ≡ grown 52 w 16 = reached.words ∙ rw (← grown_on 12 52 w 16) (grown-past 12 (grown 52 w 16) 68 full) in
    let words : w' ≡ expand 52 block = sym (take_all 68 w' (rw all full)) ∙ rw (all, ← b) (grown_expands 52 w (omega arith)) in
    rw (rounds-from-zero 64 (expand 52 block) v, ← words, reached.registers)

pub reached-length : {i s : ℕ} {w₀ : List ℕ} {r₀ : Registers} {w : List ℕ} {r : Registers} → Reached i s w₀ r₀ w r → length w ≡ length w₀
reached-length {i} {s} {w₀} reached = ap length reached.words ∙ length-grown i w₀ (s + 16)

-- ---- iteration

pub words_append : (n : ℕ) (s t : List ℕ) (at : ℕ) → at + 4 * n ≤ length s → words_at n (s ++ t) at ≡ words_at n s at
unfolding words_at
words_append zero s t at h = refl
words_append (suc n) s t at h =
    rw (
      words_append n s t at (omega arith),
      be_at-agree 4 (s ++ t) s (at + 4 * n) (at + 4 * n) (λ i l. get_or-append s t 0 (at + 4 * n + i) (omega arith)),
    )

words-drop : (n : ℕ) (s : List ℕ) (k at : ℕ) → words_at n (drop k s) at ≡ words_at n s (k + at)
unfolding words_at
words-drop zero s k at = refl
words-drop (suc n) s k at =
    rw (
      words-drop n s k at,
      be_at-agree 4 (drop k s) s (at + 4 * n) (k + at + 4 * n)
          (λ i l. get_or-drop k s (at + 4 * n + i) 0 ∙ ap (λ (x : ℕ). slice_index s x) (omega arith)),
    )

-- the first n blocks do not see what follows them
pub iterated-append : (n : ℕ) (s t : List ℕ) (v : Registers) → 64 * n ≤ length s → iterated n (s ++ t) v ≡ iterated n s v
unfolding iterated
iterated-append zero s t v h = refl
iterated-append (suc n) s t v h = rw (iterated-append n s t v (omega arith), words_append 16 s t (64 * n) (omega arith))

iterated_on : (m n : ℕ) (s : List ℕ) (v : Registers) → iterated m (drop (64 * n) s) (iterated n s v) ≡ iterated (n + m) s v
unfolding iterated
iterated_on zero n s v = rw add-zero
iterated_on (suc m) n s v =
    let e : 64 * n + 64 * m ≡ 64 * (n + m) = omega arith in
    rw (add-suc, iterated_on m n s v, words-drop 16 s (64 * n) (64 * m), e)

iterated-padded : (n : ℕ) (m : List ℕ) (v : Registers) → 64 * n ≤ length m → iterated n (padded m) v ≡ iterated n m v
unfolding padded
iterated-padded n m v h = iterated-append n m (0x80 ∷ (replicate (zeros_after (length m)) 0 ++ be_bytes 8 (8 * length m))) v h

pub length-padded : (m : List ℕ) → length (padded m) ≡ 64 * (length m / 64 + last_blocks (length m))
unfolding padded
length-padded m =
    let fill : length m % 64 + 9 + zeros_after (length m) ≡ 64 * last_blocks (length m) = last_blocks_fill (length m) in
    rw (length-append, length-append, length-replicate, length-be_bytes) (omega arith)

-- the message's whole blocks, then the last ones, give the hash
last_blocks_hash : (m : List ℕ)
    → digest (iterated (last_blocks (length m)) (ended (drop (64 * (length m / 64)) m) (length m)) (iterated (length m / 64) m iv)) ≡ sm3_of m
unfolding sm3_of
last_blocks_hash m =
    let whole = length m / 64 in
    let blocks = last_blocks (length m) in
    let total : length (padded m) / 64 ≡ whole + blocks = rw (length-padded m) (omega arith) in
    rw (← padded-rest m, ← iterated-padded whole m iv (omega arith), iterated_on blocks whole (padded m) iv, total)

-- the first n blocks, the other whole ones, then the last ones
pub digest-from_of : (m : List ℕ) (n : ℕ) → 64 * n ≤ length m → digest_from (iterated n m iv) (drop (64 * n) m) (length m) ≡ sm3_of m
unfolding digest_from
digest-from_of m n h =
    let rest = drop (64 * n) m in
    let k = length rest / 64 in
    let whole : n + k ≡ length m / 64 = rw (length-drop (64 * n) m) (omega arith) in
    let place : 64 * n + 64 * k ≡ 64 * (length m / 64) = omega arith in
    let tail : drop (64 * k) rest ≡ drop (64 * (length m / 64)) m = drop-drop (64 * k) (64 * n) m ∙ rw place in
    rw (tail, iterated_on k n m iv, whole) (last_blocks_hash m)

pub whole_hash : (m : List ℕ) {v : Registers} {d : List ℕ} → v ≡ iv → d ≡ digest_from v m (length m) → d ≡ sm3_of m
unfolding iterated
whole_hash m e f = f ∙ rw e (digest-from_of m 0 (omega arith))

-- what follows the whole blocks has as many bytes as at the message's end
pub tail_length : (rest : List ℕ) (l : ℕ) → length rest % 64 ≡ l % 64
    → (let whole = length rest / 64 in length (take (length rest - 64 * whole) (drop (64 * whole) rest)) ≡ l % 64)
tail_length rest l e = rw (length-take, length-drop) (omega arith)

-- what the code does: the last blocks with zeros behind them, the whole blocks, then the last ones
pub digest-from-is : (v : Registers) (rest : List ℕ) (l : ℕ) {blocks : ℕ} {end : List ℕ} {value last : Registers} → length rest % 64 ≡ l % 64 → blocks ≡ last_blocks l
    → (let whole = length rest / 64 in
    end ≡ ended (take (length rest - 64 * whole) (drop (64 * whole) rest)) l ++ replicate {A = ℕ} (128 - 64 * blocks) 0)
    → value ≡ iterated (length rest / 64) rest v → last ≡ iterated blocks end value → digest last ≡ digest_from v rest l
unfolding digest_from
digest-from-is v rest l {blocks} {end} {value} {last} same b e f g =
    let whole = length rest / 64 in
    let tail = drop (64 * whole) rest in
    let size : length tail ≡ l % 64 = rw (length-drop (64 * whole) rest) (omega arith) in
    let all : take (length rest - 64 * whole) tail ≡ tail = take_all (length rest - 64 * whole) tail (rw (length-drop (64 * whole) rest) (omega arith)) in
    let room : 64 * blocks ≤ length (ended tail l) = rw (length-ended tail l size, b) (omega arith) in
    let found : last ≡ iterated blocks (ended tail l) value = g ∙ rw (e, all) (iterated-append blocks (ended tail l) (replicate (128 - 64 * blocks) 0) value room) in
    rw (found, f, b)

-- a sum whose terms wrapped wraps to the same
wrapped_sum : (x y : ℕ) {p q s : ℕ} → p ≡ x % 2 ^ 32 → q ≡ y % 2 ^ 32 → s ≡ (p + q) % 2 ^ 32 → s ≡ (x + y) % 2 ^ 32
wrapped_sum x y p q e = omega arith

-- the words added two by two
pub total_of : (r : Registers) {ab cd ef gh left right s : ℕ} → ab ≡ (r.a + r.b) % 2 ^ 32 → cd ≡ (r.c + r.d) % 2 ^ 32 → left ≡ (ab + cd) % 2 ^ 32
    → ef ≡ (r.e + r.f) % 2 ^ 32 → gh ≡ (r.g + r.h) % 2 ^ 32 → right ≡ (ef + gh) % 2 ^ 32 → s ≡ (left + right) % 2 ^ 32 → s ≡ word_total r
total_of r ab cd left ef gh right s =
    let sum : r.a + r.b + (r.c + r.d) + (r.e + r.f + (r.g + r.h)) ≡ r.a + r.b + r.c + r.d + r.e + r.f + r.g + r.h = omega arith in
    wrapped_sum (r.a + r.b + (r.c + r.d)) (r.e + r.f + (r.g + r.h))
    (wrapped_sum (r.a + r.b) (r.c + r.d) ab cd left) (wrapped_sum (r.e + r.f) (r.g + r.h) ef gh right) s
    ∙ ap (λ (n : ℕ). n % 2 ^ 32) sum

-- a length below 2^16 has two bytes
short-length : (x : ℕ) → x < 2 ^ 16 → be_bytes 8 x ≡ replicate 6 0 ++ be_bytes 2 x
unfolding be_bytes
short-length x h = let e : x / 256 ^ 2 ≡ 0 = omega arith in be_bytes-split 6 2 x ∙ rw e

-- two blocks have room for a message of less than 120 bytes, padded
pub padded-fits : (l : ℕ) → l < 120 → 64 * (l / 64 + last_blocks l) ≤ 128
unfolding last_blocks
padded-fits l h =
    by-test (nat_lt (l % 64) 56)
    (λ t. let m : l % 64 < 56 = ltb-true (l % 64) 56 t in rw t (omega arith))
    (λ t. let m : 56 ≤ l % 64 = ltb-false (l % 64) 56 t in rw t (omega arith))

-- the message with zeros behind it, padded where it lies
pub padded_in_place : (m : List ℕ) (len blocks : ℕ) {end : List ℕ} → length m ≡ 128 → len < 120 → drop len m ≡ replicate (128 - len) 0
    → blocks ≡ len / 64 + last_blocks len → end ≡ put_be 2 (slice_set m len 0x80) (64 * blocks - 2) (8 * len)
    → end ≡ padded (take len m) ++ replicate {A = ℕ} (128 - 64 * blocks) 0
unfolding padded
padded_in_place m len blocks {end} l h d b e =
    let msg = take len m in
    let n = 64 * blocks in
    let z = zeros_after len in
    let lm : length msg ≡ len = length-take-le len m (omega arith) in
    let fill : len + 9 + z ≡ n = (let f = last_blocks_fill len in omega arith) in
    let room : n ≤ 128 = rw b (padded-fits len h) in
    let zeros : replicate {A = ℕ} (128 - len) 0 ≡ 0 ∷ (replicate z 0 ++ (replicate 6 0 ++ (replicate 2 0 ++ replicate (128 - n) 0))) =
    (let k : 128 - len ≡ suc (z + (6 + (2 + (128 - n)))) = omega arith in
    rw (k, replicate-append-replicate 2 (128 - n), replicate-append-replicate 6 (2 + (128 - n)), replicate-append-replicate z (6 + (2 + (128 - n))))) in
    let whole : m ≡ msg ++ (0 ∷ (replicate z 0 ++ (replicate 6 0 ++ (replicate 2 0 ++ replicate (128 - n) 0)))) =
    sym (take-append-drop len m) ∙ ap (λ (s : List ℕ). msg ++ s) (d ∙ zeros) in
    let front = msg ++ (0x80 ∷ (replicate z 0 ++ replicate 6 0)) in
    let stored : set m len 0x80 ≡ front ++ (replicate 2 0 ++ replicate (128 - n) 0) =
    ap (λ (s : List ℕ). set s len 0x80) whole
    ∙ set_at msg 0 (replicate z 0 ++ (replicate 6 0 ++ (replicate 2 0 ++ replicate (128 - n) 0))) 0x80 len lm
    ∙ simp append_assoc in
    let place : length front ≡ n - 2 = rw (length-append, lm, length-append, length-replicate z, length-replicate 6) (omega arith) in
    rw (e, stored, lm)
    (put_be_seam 2 front (replicate 2 0) (replicate (128 - n) 0) (n - 2) (8 * len) place refl
    ∙ rw (short-length (8 * len) (omega arith)) (simp append_assoc))

-- the blocks of the message in the first len bytes, padded where they lie, give the last value
pub hash_sum_of : (m : List ℕ) (len : ℕ) {blocks : ℕ} {all : List ℕ} {start last : Registers} → length m ≡ 128 → len < 120 → blocks ≡ len / 64 + last_blocks len
    → all ≡ padded (take len m) ++ replicate {A = ℕ} (128 - 64 * blocks) 0 → start ≡ iv → last ≡ iterated blocks all start → last ≡ last_value (take len m)
unfolding last_value
hash_sum_of m len {blocks} {all} {start} {last} l h b a s e =
    let msg = take len m in
    let lm : length msg ≡ len = length-take-le len m (omega arith) in
    let size : length (padded msg) ≡ 64 * blocks = length-padded msg ∙ rw (lm, b) in
    let total : length (padded msg) / 64 ≡ blocks = rw size (omega arith) in
    let room : 64 * blocks ≤ length (padded msg) = omega arith in
    e ∙ rw (a, s, iterated-append blocks (padded msg) (replicate (128 - 64 * blocks) 0) iv room, total)

pub answer_hashed : (m : List ℕ) {d : List ℕ} → length m < 2 ^ 32 → d ≡ sm3_of m → Ok d ≡ sm3_answer m
unfolding sm3_answer
answer_hashed m h e = rw (lt-ltb (length m) (2 ^ 32) h, e)

pub answer-refused : (m : List ℕ) → 2 ^ 32 ≤ length m → Err (record {}) ≡ sm3_answer m
unfolding sm3_answer
answer-refused m h = rw (le-ltb (length m) (2 ^ 32) h)

-- the eight registers stored one after the other
pub digest_of : (r : Registers) {o₁ o₂ o₃ o₄ o₅ o₆ o₇ o₈ : List ℕ} → o₁ ≡ put_be 4 (replicate 32 0) 0 r.a → o₂ ≡ put_be 4 o₁ 4 r.b
    → o₃ ≡ put_be 4 o₂ 8 r.c → o₄ ≡ put_be 4 o₃ 12 r.d → o₅ ≡ put_be 4 o₄ 16 r.e → o₆ ≡ put_be 4 o₅ 20 r.f
    → o₇ ≡ put_be 4 o₆ 24 r.g → o₈ ≡ put_be 4 o₇ 28 r.h → o₈ ≡ digest r
unfolding put_be be_bytes digest
digest_of r a b c d e f g h = rw (h, g, f, e, d, c, b, a)
