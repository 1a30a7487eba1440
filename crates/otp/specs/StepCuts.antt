-- The cut of a step's password without a challenge, by either cipher. Of SM4, ID is one block, and the cut the sum of the words of its last state.
use Rattle.std.specs.Prelude.{ℕ, zero, suc, ◌+◌, ◌/◌, ◌%◌, ◌^◌, Bool, cond, List, [], ◌∷◌, ◌++◌, Some, None}
use Rattle.sm3.specs.Sm3.{sm3_of}
use Rattle.sm4.specs.Sm4.{linear, steps}
use Rattle.sm4.specs.declared.round.Quad.{Quad}
use Rattle.otp.specs.Password.{id_of, filled, cut, Factor}

-- a time token's step is its time factor T, an event token's its count C
abbrev pub time_at : Bool → ℕ → Factor
time_at timed s = cond timed (Some s) None

abbrev pub count_at : Bool → ℕ → Factor
count_at timed s = cond timed None (Some s)

unfoldable pub step_id : Bool → ℕ → List ℕ
step_id timed s = id_of (time_at timed s) (count_at timed s) []

-- by SM3
abbrev pub hashed_cut : List ℕ → Bool → ℕ → ℕ
hashed_cut key timed s = cut (sm3_of (key ++ filled (step_id timed s)))

-- the words of SM4's block: T has 8 bytes and C has 4 (6.1)
unfoldable pub step_block : Bool → ℕ → Quad
step_block timed s = cond timed (record { a = s / 2 ^ 32; b = s % 2 ^ 32; c = 0; d = 0 }) (record { a = s % 2 ^ 32; b = 0; c = 0; d = 0 })

-- the sum of four words, modulo 2^32
abbrev pub words_cut : Quad → ℕ
words_cut q = (q.a + q.b + q.c + q.d) % 2 ^ 32

-- by SM4, under round keys
unfoldable pub cut_by : List ℕ → Bool → ℕ → ℕ
cut_by keys timed s = words_cut (steps linear keys 32 (step_block timed s))

-- the cuts of n steps, from s on, by that of one
unfoldable pub cuts_from : (ℕ → ℕ) → ℕ → ℕ → List ℕ
cuts_from cut_at zero s = []
cuts_from cut_at (suc n) s = cut_at s ∷ cuts_from cut_at n (s + 1)
