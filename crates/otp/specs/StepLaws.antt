-- The cuts of up to four steps by SM3 without a challenge, whose hashes are made side by side.
use Rattle.std.specs.Prelude.{◌≡◌, ℕ, ◌+◌, ◌-◌, ◌*◌, ◌/◌, ◌%◌, ◌^◌, ◌<◌, ◌≤◌, Bool, true, false, List, [], ◌∷◌, ◌++◌, length, take, drop, replicate, ◌≢◌, slice_index}
use Prim.Native.Nat.{zero-le}
use Rattle.std.proofs.Math.Path.{refl}
use Rattle.std.proofs.Common.{sym, ap, ◌∙◌, append_assoc, append-nil, zero-add, add-zero, add_comm, mod-eq_of_lt, arith, lt-ltb, le-ltb, length-append}
use Rattle.std.proofs.lemmas.List.{length-replicate, replicate-append-replicate}
use Rattle.words.specs.Bytes.{AreBytes, be_at, be_bytes, put}
use Rattle.words.specs.BytesLaws.{length-be_bytes, be_bytes-split, be_bytes-mod, be_at-lt}
use Rattle.words.specs.PutLaws.{put_nothing}
use Rattle.words.specs.SumLaws.{bytes_zeros, over_zeros, be_at-sum}
use Rattle.words.specs.SwapLaws.{bytes-append, bytes-be_bytes}
use Rattle.sm3.specs.Sm3.{zeros_after, padded, words_at}
use Rattle.sm3.specs.Rounds.{word_total, last_blocks}
use Rattle.sm3.specs.Sm3Laws.{words_append, length-padded}
use Rattle.sm3.specs.PaddingLaws.{last_blocks_one, last_blocks_fill}
use Rattle.sm3_lanes.specs.Lanes.{lane_of, among, Across, Added, lane_sum, lane_sums}
use Rattle.sm3_lanes.specs.LaneLaws.{length_lane, lane_zeros}
use Rattle.sm3_lanes.specs.MessageLaws.{four-cases, among-is, across_same, words_are}
use Rattle.sm3_lanes.specs.FourLaws.{one_block}
use Rattle.otp.specs.Password.{factor_bytes, id_of, filled}
use Rattle.otp.specs.StepCuts.{step_id, hashed_cut, cuts_from}
use Rattle.otp.specs.StepCutsLaws.{cuts_are}
use Rattle.otp.specs.HashedLaws.{cut_hash, laid-behind, laid-message}
use Rattle.otp.specs.StepWords.{id_number, idle_number, lane_number, lane_word, WordPut, StepsPut}
use Rattle.otp.specs.SpanLaws.{placed, span_get}

-- ---- a step's ID

number_lt : (timed : Bool) (s : ℕ) → s < 2 ^ 64 → id_number timed s < 2 ^ 64
number_lt true s h = h
number_lt false s h = omega arith

four_zeros : be_bytes 4 0 ≡ replicate 4 0
unfolding be_bytes
four_zeros = refl

filled-number : (timed : Bool) (s : ℕ) → filled (step_id timed s) ≡ be_bytes 8 (id_number timed s) ++ replicate 8 0
unfolding filled step_id id_of factor_bytes
filled-number true s = rw (append-nil, length-be_bytes 8 s)
filled-number false s =
    let x = s % 2 ^ 32 * 2 ^ 32 in
    let above : x / 256 ^ 4 ≡ s % 256 ^ 4 = omega arith in
    let below : x % 256 ^ 4 ≡ 0 = omega arith in
    let high : be_bytes 4 (x / 256 ^ 4) ≡ be_bytes 4 s = rw above (be_bytes-mod 4 s) in
    let low : be_bytes 4 x ≡ replicate 4 0 = sym (be_bytes-mod 4 x) ∙ rw below four_zeros in
    rw (append-nil, length-be_bytes 4 s, be_bytes-split 4 4 x, high, low) (simp append_assoc)

-- ---- the lanes' numbers

module _ (timed : Bool) (s n l : ℕ) where
  pub number-used : l < n → lane_number timed s n l ≡ id_number timed (s + l)
  unfolding lane_number
  number-used h = rw (lt-ltb l n h)

  pub number-idle : n ≤ l → idle_number ≡ lane_number timed s n l
  unfolding lane_number
  number-idle h = rw (le-ltb l n h)

-- an idle lane makes no step's password
pub idle-no-step : (timed : Bool) (s : ℕ) → s < 2 ^ 63 → id_number timed s ≢ idle_number
idle-no-step true s h e = omega arith
idle-no-step false s h e = omega arith

pub word-put : (at : ℕ) (timed : Bool) (s n i : ℕ) (w w' : List ℕ) {a b c d : ℕ}
    → a ≡ lane_word at timed s n i 0 → b ≡ lane_word at timed s n i 1 → c ≡ lane_word at timed s n i 2 → d ≡ lane_word at timed s n i 3
    → Across (at / 4 + i) (among a b c d) w w' → WordPut at timed s n i w w'
word-put at timed s n i w w' {a} {b} {c} {d} ea eb ec ed =
    let word = lane_word at timed s n i in
    across_same (at / 4 + i) (among a b c d) word w w' (among-is word ea eb ec ed)

pub steps-put : (at : ℕ) (timed : Bool) (s n : ℕ) (w w₁ w₂ w₃ : List ℕ)
    → WordPut at timed s n 0 w w₁ → WordPut at timed s n 1 w₁ w₂ → WordPut at timed s n 2 w₂ w₃ → StepsPut at timed s n w w₃
steps-put at timed s n w w₁ w₂ w₃ high middle low = record { each = λ l h. low.each l h ∙ rw (middle.each l h, high.each l h, add-zero) }

-- ---- the block that they share

-- what stands behind eight bytes of an ID, in a buffer of two blocks
abbrev behind_id : List ℕ → List ℕ
behind_id key =
    let n = length key + 16 in
    replicate 8 0 ++ ((0x80 ∷ (replicate (zeros_after n) 0 ++ be_bytes 8 (8 * n))) ++ replicate 64 0)

-- the key, room for an ID, and the padding
abbrev pub shared : List ℕ → List ℕ
shared key = key ++ (replicate 8 0 ++ behind_id key)

padded-id : (key id : List ℕ) → length id ≡ 8 → padded (key ++ (id ++ replicate 8 0)) ++ replicate 64 0 ≡ key ++ (id ++ behind_id key)
unfolding padded
padded-id key id l =
    let n : length (key ++ (id ++ replicate 8 0)) ≡ length key + 16 = rw (length-append, length-append, length-replicate 8, l) in
    rw n (simp append_assoc)

-- the key laid into zeros, and padded with sixteen bytes more
module _ (key : List ℕ) {first : List ℕ} {at : ℕ} (k : length key ≤ 32) (a : at ≡ 0 + length key) (f : first ≡ put (replicate 128 0) 0 key) where
  pub key-behind : drop (at + 16) first ≡ replicate (128 - (at + 16)) 0
  key-behind = laid-behind key [] k zero-le a f refl (put_nothing first at)

  pub key-shared : {all : List ℕ} {blocks : ℕ} → blocks ≡ (at + 16) / 64 + last_blocks (at + 16)
      → all ≡ padded (take (at + 16) first) ++ replicate (128 - 64 * blocks) 0 → all ≡ shared key
  unfolding filled
  key-shared {all} {blocks} b e =
      let one : blocks ≡ 1 = omega (arith, last_blocks_one (at + 16) (omega arith)) in
      let laid : take (at + 16) first ≡ key ++ (replicate 8 0 ++ replicate 8 0) =
      laid-message key [] k zero-le a f refl (put_nothing first at) ∙ rw (replicate-append-replicate 8 8) in
      e ∙ rw (laid, one) (padded-id key (replicate 8 0) (length-replicate {A = ℕ} 8 0))

-- ---- the messages

module _ (key : List ℕ) (timed : Bool) (s : ℕ) (k : length key ≤ 32) where
  abbrev message : List ℕ
  message = key ++ filled (step_id timed s)

  message-size : length message ≡ length key + 16
  message-size = rw (filled-number timed s, length-append, length-append, length-be_bytes 8 (id_number timed s))

  padded-number : padded message ++ replicate 64 0 ≡ key ++ (be_bytes 8 (id_number timed s) ++ behind_id key)
  padded-number = rw (filled-number timed s) (padded-id key (be_bytes 8 (id_number timed s)) (length-be_bytes 8 (id_number timed s)))

  message-words : words_at 16 (padded message ++ replicate 64 0) 0 ≡ words_at 16 (padded message) 0
  message-words =
      let size = message-size in
      let fill = last_blocks_fill (length message) in
      let long : 64 ≤ length (padded message) = rw (length-padded message) (omega arith) in
      words_append 16 (padded message) (replicate 64 0) 0 (omega arith)

  -- the sum of a lane is the cut of its message
  pub lane_cut : (l : ℕ) (w : List ℕ) → take 16 (lane_of 68 l w) ≡ words_at 16 (padded message ++ replicate 64 0) 0 → lane_sum l w ≡ hashed_cut key timed s
  lane_cut l w e =
      let size = message-size in
      rw (e ∙ message-words) (ap word_total (one_block message (omega arith)) ∙ sym (cut_hash message))

lane_sum_lem : (w : List ℕ) (l : ℕ) → l < 4 → slice_index (lane_sums w) l ≡ lane_sum l w
lane_sum_lem w = four-cases (λ l. slice_index (lane_sums w) l ≡ lane_sum l w) refl refl refl refl

padding_byte : AreBytes (0x80 ∷ [])
unfolding be_bytes
padding_byte = bytes-be_bytes 1 0x80

-- a number put there and the shared block add up to the message
module _ (key : List ℕ) (bytes : AreBytes key) (k : length key ≤ 32) where
  bytes-behind : AreBytes (behind_id key)
  bytes-behind =
      let n = length key + 16 in
      let zeros = replicate {A = ℕ} (zeros_after n) 0 in
      let padding : List ℕ = 0x80 ∷ (zeros ++ be_bytes 8 (8 * n)) in
      bytes-append (replicate 8 0) (padding ++ replicate 64 0) (bytes_zeros 8)
      (bytes-append padding (replicate 64 0)
      (bytes-append (0x80 ∷ []) (zeros ++ be_bytes 8 (8 * n)) padding_byte (bytes-append zeros (be_bytes 8 (8 * n)) (bytes_zeros (zeros_after n)) (bytes-be_bytes 8 (8 * n))))
      (bytes_zeros 64))

  number-over : (n at : ℕ) → (be_at 4 (placed (length key) n) at + be_at 4 (shared key) at) % 2 ^ 32 ≡ be_at 4 (key ++ (be_bytes 8 n ++ behind_id key)) at
  number-over n at =
      let id = be_bytes 8 n in
      let whole = key ++ (id ++ behind_id key) in
      let are : AreBytes whole = bytes-append key (id ++ behind_id key) bytes (bytes-append id (behind_id key) (bytes-be_bytes 8 n) bytes-behind) in
      let sum : be_at 4 whole at ≡ be_at 4 (shared key) at + be_at 4 (placed (length key) n) at =
      be_at-sum 4 whole (shared key) (placed (length key) n) at (λ i. over_zeros key id (behind_id key) i ∙ rw (length-be_bytes 8 n)) in
      rw (add_comm (be_at 4 (placed (length key) n) at) (be_at 4 (shared key) at), ← sum) (mod-eq_of_lt (be_at-lt 4 whole at are))

  module _ (timed : Bool) (s n : ℕ) (w w₁ w₂ : List ℕ) {at : ℕ} {block : List ℕ} (h : s < 2 ^ 63) (few : n ≤ 4) (z : w ≡ replicate 272 0)
      (a : at ≡ 0 + length key) (b : block ≡ shared key) (put : StepsPut at timed s n w w₁) (added : Added 16 block w₁ w₂) where
    lane_words : (l : ℕ) → l < n → lane_sum l w₂ ≡ hashed_cut key timed (s + l)
    lane_words l u =
        let p : l < 4 = omega arith in
        let x = id_number timed (s + l) in
        let number : (i : ℕ) → slice_index (lane_of 68 l w₁) i ≡ be_at 4 (placed (length key) x) (4 * i) =
        (λ i. rw (put.each l p, number-used timed s n l u, a, zero-add)
        (span_get (length key) x (number_lt timed (s + l) (omega arith)) (lane_of 68 l w) i k (length_lane 68 l w) (λ i. rw z (lane_zeros l 272 i)))) in
        let whole = padded (key ++ filled (step_id timed (s + l))) ++ replicate 64 0 in
        let word : (i : ℕ) → i < 16 → slice_index (lane_of 68 l w₂) i ≡ be_at 4 whole (4 * i) =
        (λ i q. added.done l i p q ∙ rw (number i, b, padded-number key timed (s + l) k) (number-over x (4 * i))) in
        lane_cut key timed (s + l) k l w₂ (words_are 16 (lane_of 68 l w₂) whole (rw (length_lane 68 l w₂) (omega arith)) word)

    pub cuts_of : {r : List ℕ} → r ≡ lane_sums w₂ → take n r ≡ cuts_from (hashed_cut key timed) n s
    cuts_of e = ap (take n) e ∙ cuts_are (hashed_cut key timed) n s (lane_sums w₂) few (λ l u. lane_sum_lem w₂ l (omega arith) ∙ lane_words l u)
