-- What each function of the code returns, over what the functions that it calls ensure.
use Rattle.std.specs.Prelude.{ℕ, Bool, true, false, not, cond, ◌&&◌, ◌||◌, ◌+◌, ◌*◌, ◌/◌, ◌%◌, ◌^◌, ◌<◌, ◌≡◌, refl, List, ◌++◌, get_or, drop, replicate}
use Rattle.std.proofs.Common.{◌∙◌, add-zero, arith, get_or-drop}
use Rattle.std.specs.Int.{to_be_bytes, w32}
use Rattle.words.specs.Bytes.{be_at, be_bytes, put_be}
use Rattle.words.specs.BytesLaws.{word_back}
use Rattle.sm4.specs.Sbox.{substitute}
use Rattle.sm4.specs.Sm4.{word, tau, linear, step, steps, words_of, reversed}
use Rattle.sm4.specs.Sm4Laws.{steps-add}
use Rattle.sm4.specs.declared.round.Quad.{Quad}

-- ---- two lengths, tested at once

pub either_wrong : {A : Type 0} (a b : Bool) (good : A) {bad : A} → not a || not b ≡ true → bad ≡ cond (a && b) good bad
either_wrong true true good t = cc
either_wrong true false good t = refl
either_wrong false b good t = refl

pub both_right : {A : Type 0} (a b : Bool) {good : A} (bad : A) → not a || not b ≡ false → good ≡ cond (a && b) good bad
both_right true true bad t = refl
both_right true false bad t = cc
both_right false b bad t = cc

-- ---- rounds

-- the four bytes of tau, summed in two halves
pub tau-sum : (x : ℕ) {s : List ℕ} {a b c d : ℕ} → s ≡ to_be_bytes w32 x
    → a ≡ substitute (get_or s 0 0) → c ≡ substitute (get_or s 2 0) → b ≡ substitute (get_or s 1 0) → d ≡ substitute (get_or s 3 0)
    → (a * 16777216 + c * 256) + (b * 65536 + d) ≡ tau x
unfolding tau word
tau-sum x {s} es ea ec eb ed =
    let first : x / 2 ^ 24 % 256 ≡ get_or s 0 0 = rw es (omega arith) in
    let second : x / 2 ^ 16 % 256 ≡ get_or s 1 0 = rw es (omega arith) in
    let third : x / 2 ^ 8 % 256 ≡ get_or s 2 0 = rw es (omega arith) in
    let last : x % 256 ≡ get_or s 3 0 = rw es (omega arith) in
    rw (first, second, third, last, ← ea, ← eb, ← ec, ← ed) (omega arith)

-- four steps, one behind the other
pub four-steps : (lin : ℕ → ℕ) (ks : List ℕ) (i : ℕ) (q : Quad) {r s t u : Quad}
    → r ≡ step lin (get_or ks i 0) q → s ≡ step lin (get_or ks (i + 1) 0) r → t ≡ step lin (get_or ks (i + 2) 0) s → u ≡ step lin (get_or ks (i + 3) 0) t
    → u ≡ steps lin (drop i ks) 4 q
unfolding steps
four-steps lin ks i q er es et eu = simp (get_or-drop, add-zero) (rw (← er, ← es, ← et) eu)

-- four rounds more
pub rounds_more : (ks : List ℕ) (i : ℕ) (q : Quad) {s t : Quad} → s ≡ steps linear ks i q → t ≡ steps linear (drop i ks) 4 s → t ≡ steps linear ks (i + 4) q
rounds_more ks i q es et = rw (steps-add linear ks i 4 q, ← es) et

-- ---- encryption

-- the words stored one after the other
stored : (a b c d : ℕ) → put_be 4 (put_be 4 (put_be 4 (put_be 4 (replicate 16 0) 0 d) 4 c) 8 b) 12 a ≡ be_bytes 4 d ++ (be_bytes 4 c ++ (be_bytes 4 b ++ be_bytes 4 a))
unfolding put_be be_bytes
stored a b c d = refl

pub reversed-stored : (q : Quad) {s t u v : List ℕ}
    → s ≡ put_be 4 (replicate 16 0) 0 q.d → t ≡ put_be 4 s 4 q.c → u ≡ put_be 4 t 8 q.b → v ≡ put_be 4 u 12 q.a → v ≡ reversed q
unfolding reversed
reversed-stored q es et eu ev = ev ∙ rw (eu, et, es) (stored q.a q.b q.c q.d)

-- the words of what R gives are the state's, the last first
pub output_words : (q : Quad) → q.a < 2 ^ 32 → q.b < 2 ^ 32 → q.c < 2 ^ 32 → q.d < 2 ^ 32
    → ◌≡◌ {A = Quad} (record { a = q.d; b = q.c; c = q.b; d = q.a }) (words_of (reversed q))
unfolding words_of reversed be_at be_bytes
output_words q a b c d =
    let first : be_at 4 (reversed q) 0 ≡ q.d = word_back q.d d in
    let second : be_at 4 (reversed q) 4 ≡ q.c = word_back q.c c in
    let third : be_at 4 (reversed q) 8 ≡ q.b = word_back q.b b in
    let fourth : be_at 4 (reversed q) 12 ≡ q.a = word_back q.a a in
    rw (first, second, third, fourth)
