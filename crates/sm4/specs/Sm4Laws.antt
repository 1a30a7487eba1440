-- Laws of SM4: its words stay below 2^32, L takes fewer operations, steps compose, and the round keys are steps.
use Prim.Native.Nat.{ℕ, zero, suc, ◌+◌, ◌/◌, ◌%◌, ◌^◌, ◌≤◌, ◌<◌}
use Rattle.std.specs.Prelude.{◌≡◌, refl, Bool, true, List, eqb, length, get_or, drop}
use Rattle.std.proofs.Common.{sym, ap, ◌∙◌, add-zero, zero-add, add-suc, suc-add, mod-lt, zero-lt-suc, not-suc-le-zero, le_of_suc-le-suc, arith, eqb-true, get_or-drop}
use Rattle.std.proofs.lemmas.Nat.{xor_lt, xor_comm}
use Rattle.words.specs.Words.{◌⊕◌, ◌⋘◌}
use Rattle.words.specs.WordsLaws.{rotated_lt, rotated_whole, rotated_xor, rotations_add, rotated_pair, xor_assoc}
use Rattle.words.specs.Entries.{every, entry_rule}
use Rattle.sm4.specs.Sbox.{substitute}
use Rattle.sm4.specs.SboxLaws.{sbox-byte}
use Rattle.sm4.specs.Sm4.{word, tau, linear, linear_key, round, step, steps, words_of, masked, ck_byte, ck, cks_from, cks, keys_from, round_keys}
use Rattle.sm4.specs.declared.parameters.TheConstants.{CK}
use Rattle.sm4.specs.declared.round.Quad.{Quad}

-- ---- words below 2^32

word_lt : {a b c d : ℕ} → a < 256 → b < 256 → c < 256 → d < 256 → word a b c d < 2 ^ 32
unfolding word
word_lt ha hb hc hd = omega arith

pub tau-lt : (x : ℕ) → tau x < 2 ^ 32
unfolding tau
tau-lt x = word_lt (at (x / 2 ^ 24)) (at (x / 2 ^ 16)) (at (x / 2 ^ 8)) (at x)
  where
    at : (n : ℕ) → substitute (n % 256) < 256
    at n = sbox-byte (n % 256) (mod-lt n (zero-lt-suc 255))

xor_below : {a b : ℕ} → a < 2 ^ 32 → b < 2 ^ 32 → a ⊕ b < 2 ^ 32
xor_below {a} {b} = xor_lt 32 a b

module _ (b : ℕ) (h : b < 2 ^ 32) where
  turned : (n : ℕ) → n ≤ 32 → b ⋘ n < 2 ^ 32
  turned n within = rotated_lt b n h within

  pub linear-lt : linear b < 2 ^ 32
  unfolding linear
  linear-lt =
      xor_below
      (xor_below (xor_below (xor_below h (turned 2 (omega arith))) (turned 10 (omega arith))) (turned 18 (omega arith)))
      (turned 24 (omega arith))

-- a state of four 32-bit words
pub record QuadBelow (q : Quad) : Type 0 where
  pub a_lt : q.a < 2 ^ 32
  pub b_lt : q.b < 2 ^ 32
  pub c_lt : q.c < 2 ^ 32
  pub d_lt : q.d < 2 ^ 32

-- for either linear transformation
module _ (lin : ℕ → ℕ) (lin-lt : (x : ℕ) → x < 2 ^ 32 → lin x < 2 ^ 32) where
  pub step-below : (k : ℕ) (q : Quad) → QuadBelow q → QuadBelow (step lin k q)
  unfolding step round
  step-below k q h = record {
    a_lt = h.b_lt;
    b_lt = h.c_lt;
    c_lt = h.d_lt;
    d_lt = xor_below h.a_lt (lin-lt (tau (q.b ⊕ q.c ⊕ q.d ⊕ k)) (tau-lt (q.b ⊕ q.c ⊕ q.d ⊕ k)));
  }

  pub steps-below : (ks : List ℕ) (n : ℕ) (q : Quad) → QuadBelow q → QuadBelow (steps lin ks n q)
  unfolding steps
  steps-below ks zero q h = h
  steps-below ks (suc i) q h = step-below (get_or ks i 0) (steps lin ks i q) (steps-below ks i q h)

-- ---- L in fewer operations

-- b and b ⋘ 8 are rotated by 24 together, and by 2 together with b ⋘ 16
pub linear-by_eights : (b : ℕ) → b < 2 ^ 32 → ((b ⊕ (b ⋘ 8)) ⋘ 24) ⊕ ((b ⊕ (b ⋘ 8) ⊕ (b ⋘ 16)) ⋘ 2) ≡ linear b
unfolding linear
linear-by_eights b h =
    let v = b ⊕ (b ⋘ 8) in
    let twos = (b ⋘ 2) ⊕ (b ⋘ 10) ⊕ (b ⋘ 18) in
    let low : v < 2 ^ 32 = xor_below h (turned b h 8 (omega arith)) in
    let by-24 : v ⋘ 24 ≡ (b ⋘ 24) ⊕ b = rotated_pair b 8 24 h (omega arith) ∙ rw (rotated_whole b) in
    let through : (v ⊕ (b ⋘ 16)) ⋘ 2 ≡ (v ⋘ 2) ⊕ (b ⋘ 16 ⋘ 2) = rotated_xor v (b ⋘ 16) 2 low (turned b h 16 (omega arith)) (omega arith) in
    let by_2 : (v ⊕ (b ⋘ 16)) ⋘ 2 ≡ twos = through ∙ rw (rotated_pair b 8 2 h (omega arith), rotations_add b 16 2 h (omega arith)) in
    rw (by-24, by_2, xor_assoc (b ⋘ 24) b twos, xor_comm (b ⋘ 24) (b ⊕ twos)) (simp xor_assoc)

-- ---- the steps

-- i steps, and then n with the words from i on
pub steps-add : (lin : ℕ → ℕ) (ks : List ℕ) (i n : ℕ) (q : Quad) → steps lin ks (i + n) q ≡ steps lin (drop i ks) n (steps lin ks i q)
unfolding steps
steps-add lin ks i zero q = rw add-zero
steps-add lin ks i (suc n) q = rw (add-suc, get_or-drop, steps-add lin ks i n q)

-- ---- the round keys

-- the code's table is the standard's
pub table-cks : CK ≡ cks
unfolding cks cks_from ck ck_byte word
table-cks = refl

pub cks-length : length cks ≡ 32
unfolding cks cks_from
cks-length = refl

ck-test : ℕ → ℕ → Bool
ck-test i x = eqb x (ck i)

cks_pass : every ck-test 0 cks ≡ true
unfolding ck-test cks cks_from ck ck_byte word
cks_pass = refl

-- the list of the parameters CK has them in order
pub cks-at : (i : ℕ) → i < 32 → get_or cks i 0 ≡ ck i
unfolding ck-test
cks-at i h = eqb-true (get_or cks i 0) (ck i) (entry_rule ck-test cks cks_pass i (rw cks-length h))

pub table-at : (i : ℕ) → i < 32 → get_or CK i 0 ≡ ck i
table-at i h = ap (λ (t : List ℕ). get_or t i 0) table-cks ∙ cks-at i h

pub length-keys_from : (n i : ℕ) (q : Quad) → length (keys_from n i q) ≡ n
unfolding keys_from
length-keys_from zero i q = refl
length-keys_from (suc n) i q = ap suc (length-keys_from n (suc i) (step linear_key (ck i) q))

pub length-round_keys : (key : List ℕ) → length (round_keys key) ≡ 32
unfolding round_keys
length-round_keys key = length-keys_from 32 0 (masked (words_of key))

-- the round keys are the last words of the steps with L' and CK
keys_are-steps : (q : Quad) (n i j : ℕ) → i + n ≤ 32 → j < n → get_or (keys_from n i (steps linear_key cks i q)) j 0 ≡ (steps linear_key cks (suc (i + j)) q).d
unfolding keys_from steps
keys_are-steps q zero i j h l = absurd (not-suc-le-zero l)
keys_are-steps q (suc n) i zero h l = rw (add-zero, cks-at i (omega arith))
keys_are-steps q (suc n) i (suc j) h l =
    let e : step linear_key (ck i) (steps linear_key cks i q) ≡ steps linear_key cks (suc i) q = rw (cks-at i (omega arith)) in
    ap (λ (s : Quad). get_or (keys_from n (suc i) s) j 0) e
    ∙ keys_are-steps q n (suc i) j (omega arith) (le_of_suc-le-suc l)
    ∙ ap (λ (m : ℕ). (steps linear_key cks (suc m) q).d) (suc-add i j ∙ sym (add-suc i j))

-- rk_i = K_i+4 (7.3)
pub round-key-is : (key : List ℕ) (i : ℕ) → i < 32 → get_or (round_keys key) i 0 ≡ (steps linear_key cks (suc i) (masked (words_of key))).d
unfolding round_keys steps
round-key-is key i h = keys_are-steps (masked (words_of key)) 32 0 i (omega arith) h ∙ ap (λ (m : ℕ). (steps linear_key cks (suc m) (masked (words_of key))).d) (zero-add i)
