-- Four messages side by side: their words and registers stand interleaved, those of message l at 4 i + l.
use Rattle.std.specs.Prelude.{◌≡◌, ℕ, zero, suc, ◌+◌, ◌*◌, ◌%◌, ◌^◌, ◌<◌, ◌≤◌, List, [], ◌∷◌, ◌++◌, take, ◌≢◌, slice_index, slice_set}
use Rattle.words.specs.Bytes.{be_at}
use Rattle.sm3.specs.Sm3.{iv, compressed}
use Rattle.sm3.specs.declared.Registers.{Registers}
use Rattle.sm3.specs.Rounds.{four_rounds, grown, Reached, word_total}

-- the first n words of message l
unfoldable pub lane_of : ℕ → ℕ → List ℕ → List ℕ
lane_of zero l s = []
lane_of (suc n) l s = lane_of n l s ++ (slice_index s (4 * n + l) ∷ [])

-- what happens to message l leaves the others
abbrev pub Apart : ℕ → List ℕ → List ℕ → Type 0
Apart l s s' = (n k : ℕ) → k < 4 → (k ≢ l) → lane_of n k s' ≡ lane_of n k s

-- the one of four that is message k's
unfoldable pub among : ℕ → ℕ → ℕ → ℕ → ℕ → ℕ
among a b c d zero = a
among a b c d (suc zero) = b
among a b c d (suc (suc zero)) = c
among a b c d (suc (suc (suc k))) = d

-- x k is put as word j of message k
pub record Across (j : ℕ) (x : ℕ → ℕ) (w w' : List ℕ) : Type 0 where
  pub each : (k : ℕ) → k < 4 → lane_of 68 k w' ≡ slice_set (lane_of 68 k w) j (x k)

-- x added to word j of message k, without the carry
abbrev pub raised : ℕ → ℕ → List ℕ → ℕ → ℕ
raised x j w k = (slice_index w (4 * j + k) + x) % 2 ^ 32

-- the first n words of the block m are added to those of each message
pub record Added (n : ℕ) (m w w' : List ℕ) : Type 0 where
  pub done : (k i : ℕ) → k < 4 → i < n → slice_index (lane_of 68 k w') i ≡ (slice_index (lane_of 68 k w) i + be_at 4 m (4 * i)) % 2 ^ 32
  pub left : (k i : ℕ) → k < 4 → n ≤ i → slice_index (lane_of 68 k w') i ≡ slice_index (lane_of 68 k w) i

-- message l has four words more, from word j on
pub record Grew (l j : ℕ) (w w' : List ℕ) : Type 0 where
  pub words : lane_of 68 l w' ≡ grown 4 (lane_of 68 l w) j
  pub rest : Apart l w w'

-- eight words as registers
abbrev pub registers_of : List ℕ → Registers
registers_of x =
    record {
      a = slice_index x 0;
      b = slice_index x 1;
      c = slice_index x 2;
      d = slice_index x 3;
      e = slice_index x 4;
      f = slice_index x 5;
      g = slice_index x 6;
      h = slice_index x 7;
    }

abbrev pub value_at : ℕ → List ℕ → Registers
value_at l s = registers_of (lane_of 8 l s)

-- message l has the value r
pub record Put (l : ℕ) (r : Registers) (s s' : List ℕ) : Type 0 where
  pub value : value_at l s' ≡ r
  pub rest : Apart l s s'

-- message l has four rounds more, from round j on, and the words that go along
pub record Stepped (l j : ℕ) (s w s' w' : List ℕ) : Type 0 where
  pub words : lane_of 68 l w' ≡ grown 4 (lane_of 68 l w) (16 + j)
  pub value : value_at l s' ≡ four_rounds j (lane_of 68 l w') (value_at l s)
  pub rest-value : Apart l s s'
  pub rest-words : Apart l w w'

-- each message has four rounds more
pub record Moved (j : ℕ) (s w s' w' : List ℕ) : Type 0 where
  pub each : (k : ℕ) → k < 4 → (lane_of 68 k w' ≡ grown 4 (lane_of 68 k w) (16 + j)) × (value_at k s' ≡ four_rounds j (lane_of 68 k w') (value_at k s))

-- the messages before m have, and those from m on are as they were
pub record Part (m j : ℕ) (s w s' w' : List ℕ) : Type 0 where
  pub done : (k : ℕ) → k < m → k < 4 → (lane_of 68 k w' ≡ grown 4 (lane_of 68 k w) (16 + j)) × (value_at k s' ≡ four_rounds j (lane_of 68 k w') (value_at k s))
  pub left : (k : ℕ) → m ≤ k → k < 4 → (lane_of 68 k w' ≡ lane_of 68 k w) × (lane_of 8 k s' ≡ lane_of 8 k s)

pub record AllReached (i b : ℕ) (s w s' w' : List ℕ) : Type 0 where
  pub each : (k : ℕ) → k < 4 → Reached i b (lane_of 68 k w) (value_at k s) (lane_of 68 k w') (value_at k s')

-- each message starts at v
pub record Starts (v : Registers) (s : List ℕ) : Type 0 where
  pub each : (k : ℕ) → k < 4 → value_at k s ≡ v

-- the sum of the hash's words of the message whose block is message l's
abbrev pub lane_sum : ℕ → List ℕ → ℕ
lane_sum l w = word_total (compressed iv (take 16 (lane_of 68 l w)))

abbrev pub lane_sums : List ℕ → List ℕ
lane_sums w = lane_sum 0 w ∷ lane_sum 1 w ∷ lane_sum 2 w ∷ lane_sum 3 w ∷ []
