-- Laws of the SM4 way.
use mir.Val.{bool_byte}
use Rattle.std.specs.Bool.{FalseIff}
use Rattle.std.specs.Prelude.{◌≡◌, Bool, true, false, ℕ, zero, suc, Result, Ok, IsOk, ◌+◌, ◌-◌, ◌*◌, ◌/◌, ◌%◌, ◌^◌, ◌<◌, ◌≤◌, max, List, ◌++◌, length, take, drop, replicate, refl}
use Rattle.std.proofs.Common.{sym, ap, ◌∙◌, append_assoc, append-nil, not-suc-le-zero, zero-add, arith, length-append, length-drop, drop_of_length-le}
use Rattle.std.proofs.Math.Nat.{mod-add-mod}
use Rattle.std.proofs.lemmas.List.{length-replicate, replicate-append-replicate, drop-append-le, take-append-le}
use Rattle.std.proofs.Math.Seq.{length-take-le}
use Rattle.words.specs.declared.codes.BadArgument.{BadArgument}
use Rattle.words.specs.ListsLaws.{drop_zeros}
use Rattle.words.specs.Bytes.{be_at, be_bytes, put}
use Rattle.words.specs.BytesLaws.{length-be_bytes, be_at-split, be_bytes-split, be_bytes-mod}
use Rattle.sm4.specs.Sm4.{words_of, encrypt_with, reversed, round_keys, sm4_of, keys_answer, encrypt_words_answer, first_answer}
use Rattle.sm4.specs.Sm4Laws.{length-round_keys}
use Rattle.sm4.specs.EncryptLaws.{output_words}
use Rattle.sm4.specs.declared.round.Quad.{Quad}
use Rattle.sm4.specs.declared.chaining.First.{First}
use Rattle.otp.specs.Password.{block_at, block_sum, output_of, chained, filled, to_blocks, word_sum, cut}
use Rattle.otp.specs.Chain.{prepared, chain, words_number, words_sum}

-- ---- the sum of two blocks, by halves

-- the carry out of the lower halves
carried : (carry : Bool) {a b : ℕ} → a < 2 ^ 64 → b < 2 ^ 64 → FalseIff carry (a + b < 2 ^ 64) → bool_byte carry ≡ (a + b) / 2 ^ 64
carried true p q o = omega arith
carried false p q o = omega arith

high_half : (ah al bh bl : ℕ) → (ah * 2 ^ 64 + al + (bh * 2 ^ 64 + bl)) / 2 ^ 64 % 2 ^ 64 ≡ (ah + bh + (al + bl) / 2 ^ 64) % 2 ^ 64
high_half ah al bh bl = let e : (ah * 2 ^ 64 + al + (bh * 2 ^ 64 + bl)) / 2 ^ 64 ≡ ah + bh + (al + bl) / 2 ^ 64 = omega arith in rw e

low_half : (ah al bh bl : ℕ) → (ah * 2 ^ 64 + al + (bh * 2 ^ 64 + bl)) % 2 ^ 64 ≡ (al + bl) % 2 ^ 64
low_half ah al bh bl = omega arith

-- sixteen bytes are twice eight
halves_bytes : (x : ℕ) → be_bytes 16 (x % 2 ^ 128) ≡ be_bytes 8 (x / 2 ^ 64 % 2 ^ 64) ++ be_bytes 8 (x % 2 ^ 64)
halves_bytes x = rw (be_bytes-mod 16 x) (be_bytes-split 8 8 x ∙ rw (← be_bytes-mod 8 (x / 2 ^ 64), ← be_bytes-mod 8 x))

-- sixteen bytes are four words
pub bytes-words : (high low : ℕ) → high < 2 ^ 64 → low < 2 ^ 64
    → words_of (be_bytes 8 high ++ be_bytes 8 low) ≡ record { a = high / 2 ^ 32; b = high % 2 ^ 32; c = low / 2 ^ 32; d = low % 2 ^ 32 }
unfolding reversed
bytes-words high low h l =
    let eight : (x : ℕ) → be_bytes 8 x ≡ be_bytes 4 (x / 2 ^ 32) ++ be_bytes 4 (x % 2 ^ 32) = λ x. be_bytes-split 4 4 x ∙ rw (← be_bytes-mod 4 x) in
    let state : Quad = record { a = low % 2 ^ 32; b = low / 2 ^ 32; c = high % 2 ^ 32; d = high / 2 ^ 32 } in
    let laid : be_bytes 8 high ++ be_bytes 8 low ≡ reversed state = rw (eight high, eight low) (simp append_assoc) in
    rw laid (sym (output_words state (omega arith) (omega arith) (omega arith) (omega arith)))

pub sum_of_halves : (p q : Quad) {ah al bh bl ls : ℕ} (carry : Bool) → ah ≡ p.a * 2 ^ 32 + p.b → al ≡ p.c * 2 ^ 32 + p.d → bh ≡ q.a * 2 ^ 32 + q.b → bl ≡ q.c * 2 ^ 32 + q.d
    → al < 2 ^ 64 → bl < 2 ^ 64 → ls ≡ (al + bl) % 2 ^ 64 → FalseIff carry (al + bl < 2 ^ 64)
    → let hs = ((ah + bh) % 2 ^ 64 + bool_byte carry) % 2 ^ 64 in
    ◌≡◌ {A = Quad} (record { a = hs / 2 ^ 32; b = hs % 2 ^ 32; c = ls / 2 ^ 32; d = ls % 2 ^ 32 }) (words_sum p q)
sum_of_halves p q {ah} {al} {bh} {bl} {ls} carry ea el eb em la lb l o =
    let hs = ((ah + bh) % 2 ^ 64 + bool_byte carry) % 2 ^ 64 in
    let k : bool_byte carry ≡ (al + bl) / 2 ^ 64 = carried carry la lb o in
    let sum = ah * 2 ^ 64 + al + (bh * 2 ^ 64 + bl) in
    let high : sum / 2 ^ 64 % 2 ^ 64 ≡ hs = high_half ah al bh bl ∙ rw (← k) (sym (mod-add-mod (ah + bh) (2 ^ 64) (bool_byte carry))) in
    let low : sum % 2 ^ 64 ≡ ls = low_half ah al bh bl ∙ sym l in
    let bytes : be_bytes 16 (sum % 2 ^ 128) ≡ be_bytes 8 hs ++ be_bytes 8 ls = halves_bytes sum ∙ rw (high, low) in
    rw (← ea, ← el, ← eb, ← em, bytes) (sym (bytes-words hs ls (omega arith) (omega arith)))

number_of : (s : List ℕ) → words_number (words_of s) ≡ be_at 16 s 0
unfolding words_of
number_of s = sym (be_at-split 8 8 s 0 ∙ rw (be_at-split 4 4 s 0, be_at-split 4 4 s 8))

-- the words of two blocks give those of their sum
sum-words : (a b : List ℕ) → words_sum (words_of a) (words_of b) ≡ words_of (block_sum a b)
unfolding block_sum
sum-words a b = rw (number_of a, number_of b)

-- ---- outputs

length-encrypted : (keys block : List ℕ) → length (encrypt_with keys block) ≡ 16
unfolding encrypt_with reversed
length-encrypted keys block = simp (length-append, length-be_bytes)

-- under 32 words a block is encrypted
module _ (keys : List ℕ) (w : Quad) {c : Result Quad BadArgument} (k : length keys ≡ 32) (e : c ≡ encrypt_words_answer keys w) where
  pub encrypted_ok : IsOk c
  unfolding encrypt_words_answer
  encrypted_ok = rw (e, k)

  encrypted : (block : List ℕ) {out : Quad} → w ≡ words_of block → c ≡ Ok out → out ≡ words_of (encrypt_with keys block)
  unfolding encrypt_words_answer encrypt_with
  encrypted block {out} b o =
      let answer : Ok out ≡ encrypt_words_answer keys (words_of block) = sym o ∙ e ∙ rw b in
      let made : encrypt_words_answer keys (words_of block) ≡ Ok (words_of (encrypt_with keys block)) = rw k in
      let same : Ok out ≡ Ok (words_of (encrypt_with keys block)) = answer ∙ made in
      cc

length-chain : (keys s : List ℕ) (i : ℕ) → length (chain keys s i) ≡ 16
unfolding chain
length-chain keys s zero = length-encrypted keys (block_at s 0)
length-chain keys s (suc i) = length-encrypted keys (block_sum (chain keys s i) (block_at s (suc i)))

pub length-prepared : (key : List ℕ) → length (prepared key) ≡ 32
length-prepared key = length-round_keys (take 16 key)

-- the round keys by themselves
module _ (key : List ℕ) {c : Result (List ℕ) BadArgument} (h : 16 ≤ length key) (e : c ≡ keys_answer (take 16 key)) where
  pub keys_ok : IsOk c
  unfolding keys_answer
  keys_ok = rw (e, length-take-le 16 key h)

  pub prepared_keys : {ks : List ℕ} → c ≡ Ok ks → ks ≡ prepared key
  unfolding keys_answer
  prepared_keys {ks} o =
      let made : keys_answer (take 16 key) ≡ Ok (prepared key) = rw (length-take-le 16 key h) in
      let same : Ok ks ≡ Ok (prepared key) = sym o ∙ e ∙ made in
      cc

  pub keys_put : {ks : List ℕ} (ready : List ℕ) {after : List ℕ} → c ≡ Ok ks → length ready ≡ 32 → after ≡ ks ++ drop (length ks) ready → after ≡ prepared key
  keys_put {ks} ready o l p =
      let long : length ks ≡ 32 = rw (prepared_keys o) (length-prepared key) in
      let none : length ready ≤ 32 = omega arith in
      p ∙ rw (long, drop_of_length-le ready, append-nil, prepared_keys o)

-- a part of a slice is a block
pub block_part : (s : List ℕ) (i : ℕ) → take (16 * i + 16 - 16 * i) (drop (16 * i) s) ≡ block_at s i
unfolding block_at
block_part s i = let e : 16 * i + 16 - 16 * i ≡ 16 = omega arith in rw e

-- the first output, from the block's words
pub chain_first : (keys s : List ℕ) {w out : Quad} {c : Result Quad BadArgument} → length keys ≡ 32 → w ≡ words_of (take (16 - 0) (drop 0 s)) → c ≡ encrypt_words_answer keys w
    → c ≡ Ok out → out ≡ words_of (chain keys s 0)
unfolding chain block_at
chain_first keys s k e c o = encrypted keys _ k c (take 16 s) e o

-- one more output
pub chain_more : (keys s : List ℕ) (i : ℕ) {out w sum next : Quad} {c : Result Quad BadArgument} → 0 < i → length keys ≡ 32 → out ≡ words_of (chain keys s (i - 1))
    → w ≡ words_of (take (16 * i + 16 - 16 * i) (drop (16 * i) s)) → sum ≡ words_sum out w → c ≡ encrypt_words_answer keys sum → c ≡ Ok next
    → next ≡ words_of (chain keys s (i + 1 - 1))
unfolding chain
chain_more keys s zero h k p q r e o = absurd (not-suc-le-zero h)
chain_more keys s (suc i) {out} {w} {sum} h k p q r e o =
    let a : suc i - 1 ≡ i = omega arith in
    let b : suc i + 1 - 1 ≡ suc i = omega arith in
    let added : sum ≡ words_of (block_sum (chain keys s i) (block_at s (suc i))) =
    r ∙ rw (p, q, a, block_part s (suc i)) (sum-words (chain keys s i) (block_at s (suc i))) in
    rw b (encrypted keys _ k e (block_sum (chain keys s i) (block_at s (suc i))) added o)

block_append : (s t : List ℕ) (i : ℕ) → 16 * (i + 1) ≤ length s → block_at (s ++ t) i ≡ block_at s i
unfolding block_at
block_append s t i h =
    let l : 16 ≤ length (drop (16 * i) s) = rw length-drop (omega arith) in
    rw (drop-append-le (16 * i) s t (omega arith), take-append-le 16 (drop (16 * i) s) t l)

-- the outputs of the first blocks do not see what follows them
chain-append : (keys s t : List ℕ) (i : ℕ) → 16 * (i + 1) ≤ length s → chain keys (s ++ t) i ≡ chain keys s i
unfolding chain
chain-append keys s t zero h = rw (block_append s t 0 h)
chain-append keys s t (suc i) h = rw (chain-append keys s t i (omega arith), block_append s t (suc i) h)

-- under a key's round keys they are the definition's outputs
chain_outputs : (key s : List ℕ) (i : ℕ) → chain (round_keys (take 16 key)) s i ≡ output_of key s i
unfolding chain output_of sm4_of
chain_outputs key s zero = refl
chain_outputs key s (suc i) = rw (chain_outputs key s i)

-- ---- the buffers

pub zeros_laid : (n : ℕ) (b : List ℕ) → length b ≤ n → put (replicate n 0) 0 b ≡ b ++ replicate (n - length b) 0
zeros_laid n b h = rw (zero-add, drop_zeros (length b) n)

-- the ID laid into zeros begins with the definition's blocks
chained_of : (key id : List ℕ) {keys buffer : List ℕ} {blocks : ℕ} → length id ≤ 44 → keys ≡ prepared key
    → buffer ≡ put (replicate 48 0) 0 id → blocks ≡ (0 + max 16 (length id) + 15) / 16 → chain keys buffer (blocks - 1) ≡ chained key (filled id)
unfolding chained filled to_blocks
chained_of key id {keys} {buffer} {blocks} h k b n =
    let f = id ++ replicate (16 - length id) 0 in
    let more = (16 - length f % 16) % 16 in
    let s = f ++ replicate more 0 in
    let lf : length f ≡ max 16 (length id) = rw (length-append, length-replicate) (omega arith) in
    let ls : length s ≡ 16 * blocks = rw (length-append, length-replicate, lf) (omega arith) in
    let zeros : replicate {A = ℕ} (48 - length id) 0 ≡ replicate (16 - length id) 0 ++ (replicate more 0 ++ replicate (48 - 16 * blocks) 0) =
    (let e : 48 - length id ≡ (16 - length id) + (more + (48 - 16 * blocks)) = omega arith in
    rw (e, replicate-append-replicate more (48 - 16 * blocks), replicate-append-replicate (16 - length id) (more + (48 - 16 * blocks)))) in
    let laid : buffer ≡ s ++ replicate (48 - 16 * blocks) 0 = b ∙ zeros_laid 48 id (omega arith) ∙ rw zeros (simp append_assoc) in
    let last : length s / 16 - 1 ≡ blocks - 1 = omega arith in
    let room : 16 * (blocks - 1 + 1) ≤ length s = omega arith in
    rw last (rw (laid, k) (chain-append (round_keys (take 16 key)) s (replicate (48 - 16 * blocks) 0) (blocks - 1) room ∙ chain_outputs key s (blocks - 1)))

pub block_length : (s : List ℕ) (i : ℕ) → 16 * i + 16 ≤ length s → length (block_at s i) ≡ 16
unfolding block_at
block_length s i h = length-take-le 16 (drop (16 * i) s) (rw length-drop (omega arith))

-- ---- a key that is used once

-- the first block's output and the round keys, made side by side
module _ (key s : List ℕ) {c : Result First BadArgument} (k : 16 ≤ length key) (l : 16 ≤ length s) (e : c ≡ first_answer (take (16 - 0) (drop 0 key)) (take (16 - 0) (drop 0 s))) where
  pub first_ok : IsOk c
  unfolding first_answer
  first_ok = rw (e, length-take-le 16 key k, length-take-le 16 s l)

  pub first_output : {f : First} → c ≡ Ok f → (f.keys ≡ prepared key) × (f.output ≡ words_of (chain f.keys s 0))
  unfolding chain block_at first_answer sm4_of
  first_output {f} o =
      let made : first_answer (take 16 key) (take 16 s) ≡ Ok (record { keys = prepared key; output = words_of (sm4_of (take 16 key) (take 16 s)) }) =
      rw (length-take-le 16 key k, length-take-le 16 s l) in
      let same : Ok f ≡ Ok (record { keys = prepared key; output = words_of (sm4_of (take 16 key) (take 16 s)) }) = sym o ∙ e ∙ made in
      let is : f ≡ record { keys = prepared key; output = words_of (sm4_of (take 16 key) (take 16 s)) } = cc in
      rw is (refl, refl)

-- the cut, from the words of the last output
pub ciphered_of : (key id : List ℕ) {keys buffer : List ℕ} {end : ℕ} {w : Quad} {r : ℕ} → length id ≤ 44 → keys ≡ prepared key
    → buffer ≡ put (replicate 48 0) 0 id → end ≡ 0 + max 16 (length id) → w ≡ words_of (chain keys buffer ((end + 15) / 16 - 1))
    → r ≡ (w.a + w.b + w.c + w.d) % 2 ^ 32 → r ≡ cut (chained key (filled id))
unfolding cut word_sum words_of
ciphered_of key id {keys} {buffer} {end} {w} {r} h k b e o c =
    let l = length-chain keys buffer ((end + 15) / 16 - 1) in
    let sum : r ≡ cut (chain keys buffer ((end + 15) / 16 - 1)) = c ∙ rw (o, l, zero-add) in
    sum ∙ ap cut (chained_of key id h k b (ap (λ (n : ℕ). (n + 15) / 16) e))
