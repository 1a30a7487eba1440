-- SM4, in the order of GB/T 32907.
use Rattle.std.specs.Prelude.{ℕ, zero, suc, Result, Ok, Err, ◌+◌, ◌*◌, ◌/◌, ◌%◌, ◌^◌, cond, ◌&&◌, List, [], ◌∷◌, ◌++◌, eqb, length, get_or}
use Rattle.words.specs.Words.{◌⊕◌, ◌⋘◌}
use Rattle.words.specs.Bytes.{be_at, be_bytes}
use Rattle.words.specs.declared.codes.BadArgument.{BadArgument}
use Rattle.sm4.specs.Sbox.{substitute}
use Rattle.sm4.specs.declared.round.Quad.{Quad}
use Rattle.sm4.specs.declared.chaining.First.{First}

-- a word from its four bytes
unfoldable pub word : ℕ → ℕ → ℕ → ℕ → ℕ
word a b c d = ((a * 256 + b) * 256 + c) * 256 + d

-- ---- 6 the round function F

-- 6.2 a): the nonlinear transformation tau, the S-box on each byte
unfoldable pub tau : ℕ → ℕ
tau x = word (substitute (x / 2 ^ 24 % 256)) (substitute (x / 2 ^ 16 % 256)) (substitute (x / 2 ^ 8 % 256)) (substitute (x % 256))

-- 6.2 b): the linear transformation L
unfoldable pub linear : ℕ → ℕ
linear b = b ⊕ (b ⋘ 2) ⊕ (b ⋘ 10) ⊕ (b ⋘ 18) ⊕ (b ⋘ 24)

-- 6.1: F, where T is tau and then a linear transformation
unfoldable pub round : (ℕ → ℕ) → ℕ → ℕ → ℕ → ℕ → ℕ → ℕ
round lin a b c d k = a ⊕ lin (tau (b ⊕ c ⊕ d ⊕ k))

-- ---- 7.1 encryption

-- X_i+4 = F(X_i, X_i+1, X_i+2, X_i+3, k): the next four words
unfoldable pub step : (ℕ → ℕ) → ℕ → Quad → Quad
step lin k q = record { a = q.b; b = q.c; c = q.d; d = round lin q.a q.b q.c q.d k }

-- n steps, with the words ks in their order
unfoldable pub steps : (ℕ → ℕ) → List ℕ → ℕ → Quad → Quad
steps lin ks zero q = q
steps lin ks (suc i) q = step lin (get_or ks i 0) (steps lin ks i q)

-- the four words of 16 bytes
unfoldable pub words_of : List ℕ → Quad
words_of s = record { a = be_at 4 s 0; b = be_at 4 s 4; c = be_at 4 s 8; d = be_at 4 s 12 }

-- the reverse transformation R, as bytes
unfoldable pub reversed : Quad → List ℕ
reversed q = be_bytes 4 q.d ++ (be_bytes 4 q.c ++ (be_bytes 4 q.b ++ be_bytes 4 q.a))

-- a block under the round keys ks
unfoldable pub encrypt_with : List ℕ → List ℕ → List ℕ
encrypt_with ks block = reversed (steps linear ks 32 (words_of block))

-- ---- 7.3 key schedule

-- a): the linear transformation L' of T'
unfoldable pub linear_key : ℕ → ℕ
linear_key b = b ⊕ (b ⋘ 13) ⊕ (b ⋘ 23)

-- K_0 .. K_3: the words of the key with the system parameters FK, b)
unfoldable pub masked : Quad → Quad
masked q = record { a = q.a ⊕ 0xa3b1bac6; b = q.b ⊕ 0x56aa3350; c = q.c ⊕ 0x677d9197; d = q.d ⊕ 0xb27022dc }

-- c): byte j of the fixed parameter CK_i
unfoldable pub ck_byte : ℕ → ℕ → ℕ
ck_byte i j = (4 * i + j) * 7 % 256

unfoldable pub ck : ℕ → ℕ
ck i = word (ck_byte i 0) (ck_byte i 1) (ck_byte i 2) (ck_byte i 3)

-- n of the parameters CK, from i on
unfoldable pub cks_from : ℕ → ℕ → List ℕ
cks_from zero i = []
cks_from (suc n) i = ck i ∷ cks_from n (suc i)

unfoldable pub cks : List ℕ
cks = cks_from 32 0

-- the n round keys from rk_i on: rk_i = K_i+4 is the last word after the step
unfoldable pub keys_from : ℕ → ℕ → Quad → List ℕ
keys_from zero i q = []
keys_from (suc n) i q = let next = step linear_key (ck i) q in next.d ∷ keys_from n (suc i) next

unfoldable pub round_keys : List ℕ → List ℕ
round_keys key = keys_from 32 0 (masked (words_of key))

-- ---- a block under a key

unfoldable pub sm4_of : List ℕ → List ℕ → List ℕ
sm4_of key block = encrypt_with (round_keys key) block

-- ---- what the functions answer: a length other than the standard's is a bad argument

unfoldable pub keys_answer : List ℕ → Result (List ℕ) BadArgument
keys_answer key = cond (eqb (length key) 16) (Ok (round_keys key)) (Err (record {}))

unfoldable pub encrypt_answer : List ℕ → List ℕ → Result (List ℕ) BadArgument
encrypt_answer ks block = cond (eqb (length ks) 32 && eqb (length block) 16) (Ok (encrypt_with ks block)) (Err (record {}))

unfoldable pub sm4_answer : List ℕ → List ℕ → Result (List ℕ) BadArgument
sm4_answer key block = cond (eqb (length key) 16 && eqb (length block) 16) (Ok (sm4_of key block)) (Err (record {}))

-- ---- the same with the output as words, for a chain of blocks

-- a block of four words under round keys
unfoldable pub encrypt_words_answer : List ℕ → Quad → Result Quad BadArgument
encrypt_words_answer ks block = cond (eqb (length ks) 32) (Ok (words_of (reversed (steps linear ks 32 block)))) (Err (record {}))

-- a chain's first block under a key, with the round keys for the others
unfoldable pub first_answer : List ℕ → List ℕ → Result First BadArgument
first_answer key block =
    cond (eqb (length key) 16 && eqb (length block) 16) (Ok (record { keys = round_keys key; output = words_of (sm4_of key block) })) (Err (record {}))
