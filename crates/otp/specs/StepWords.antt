-- The IDs of up to four steps in the words of four messages that lie side by side. An ID may begin at any byte of a word, since a key of any length stands
-- before it.
use Rattle.std.specs.Prelude.{◌≡◌, ℕ, zero, suc, ◌+◌, ◌-◌, ◌*◌, ◌/◌, ◌%◌, ◌^◌, ◌<◌, Bool, cond, List, nat_lt, slice_set}
use Rattle.sm3_lanes.specs.Lanes.{lane_of, Across}

-- the first eight bytes of a step's filled ID as a number: T, or C and zeros
abbrev pub id_number : Bool → ℕ → ℕ
id_number timed s = cond timed s (s % 2 ^ 32 * 2 ^ 32)

-- the number in an idle lane, which is no step's (`idle-no-step`)
abbrev pub idle_number : ℕ
idle_number = 2 ^ 64 - 1

-- the number in lane l of the n steps from s on: behind them the lanes are idle
unfoldable pub lane_number : Bool → ℕ → ℕ → ℕ → ℕ
lane_number timed s n l = cond (nat_lt l n) (id_number timed (s + l)) idle_number

-- word i of the three over which the eight bytes of n reach, if they begin `bits` behind the beginning of the first
unfoldable pub span_word : ℕ → ℕ → ℕ → ℕ
span_word n bits zero = n / 2 ^ (32 + bits)
span_word n bits (suc zero) = n / 2 ^ bits % 2 ^ 32
span_word n bits (suc (suc i)) = n * 2 ^ (32 - bits) % 2 ^ 32

-- the words w with those of n from byte at on
abbrev pub spanned : ℕ → ℕ → List ℕ → List ℕ
spanned at n w =
    let j = at / 4 in
    let bits = 8 * (at % 4) in
    slice_set (slice_set (slice_set w j (span_word n bits 0)) (j + 1) (span_word n bits 1)) (j + 2) (span_word n bits 2)

-- word i of the number in lane l, which begins at byte at
abbrev pub lane_word : ℕ → Bool → ℕ → ℕ → ℕ → ℕ → ℕ
lane_word at timed s n i l = span_word (lane_number timed s n l) (8 * (at % 4)) i

-- each message has word i of its lane's number
abbrev pub WordPut : ℕ → Bool → ℕ → ℕ → ℕ → List ℕ → List ℕ → Type 0
WordPut at timed s n i w w' = Across (at / 4 + i) (lane_word at timed s n i) w w'

-- each message has its lane's number from byte at on
pub record StepsPut (at : ℕ) (timed : Bool) (s n : ℕ) (w w' : List ℕ) : Type 0 where
  pub each : (l : ℕ) → l < 4 → lane_of 68 l w' ≡ spanned at (lane_number timed s n l) (lane_of 68 l w)
