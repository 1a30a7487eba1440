-- The arguments of dl_check at the ends of their ranges (document 01, Parts 2 to 4) and one past them, and the codes of its outcomes.
use Rattle.std.specs.Prelude.{ℕ, ◌+◌, ◌-◌, ◌^◌, ◌≡◌, refl, Bool, true, false, List, [], ◌∷◌, map, replicate}
use Rattle.words.specs.Lists.{all_within}
use Rattle.window.specs.declared.Outcome.{Outcome}
use Rattle.window.specs.declared.Outcome.TheVariants.{Accepted, Several, Again, Used, Wrong}
use Rattle.otp.specs.Password.{challenge_ok, arguments_ok}
use Rattle.otp.specs.Typed.{password_ok}
use Rattle.row.specs.Row.{track_ok}
use Rattle.capi.specs.Checked.{track_of, check_numbers_ok, passwords_ok, check_arguments_ok, outcome_counted}

-- n bytes of one value: 0x30 to 0x39 are digits
abbrev some : ℕ → ℕ → List ℕ
some n byte = replicate {A = ℕ} n byte

-- by the period, the first unused step and d + 600 of a time token, and of an event token
abbrev timed : ℕ → ℕ → ℕ → Bool
timed period next offset = check_arguments_ok (track_of 0 3 6 period next offset) 0 1 (some 16 0) [] (some 6 0x30) []

abbrev counted : ℕ → ℕ → ℕ → Bool
counted period next offset = check_arguments_ok (track_of 1 4 10 period next offset) 0 1 (some 16 0) [] (some 6 0x30) []

-- by the kind, the algorithm, the digits, the clock, the size and the length of the key
abbrev numbered : ℕ → ℕ → ℕ → ℕ → ℕ → ℕ → Bool
numbered kind algorithm digits clock size n = check_arguments_ok (track_of kind algorithm digits 0 0 600) clock size (some n 0) [] (some 6 0x30) []

-- by the challenge, the presented password and the following one
abbrev typed : List ℕ → List ℕ → List ℕ → Bool
typed challenge presented following = check_arguments_ok (track_of 0 3 6 30 0 600) 0 1 (some 16 0) challenge presented following

abbrev taken : List Bool
taken =
    timed 1 0 0
    ∷ timed 60 (2 ^ 40 + 600) 1200
    ∷ counted 0 0 600
    ∷ counted 0 (2 ^ 32) 600
    ∷ numbered 1 3 6 0 1 16
    ∷ numbered 1 4 10 (2 ^ 40 - 1) 3 32
    ∷ typed [] (some 6 0x30) []
    ∷ typed [] (some 10 0x39) (some 6 0x39)
    ∷ typed (some 4 0x21) (some 10 0x30) []
    ∷ typed (some 32 0x7e) (some 6 0x39) []
    ∷ []

abbrev refused : List Bool
refused =
    timed 0 0 600
    ∷ timed 61 0 600
    ∷ timed 30 (2 ^ 40 + 601) 600
    ∷ timed 30 0 1201
    ∷ counted 1 0 600
    ∷ counted 0 (2 ^ 32 + 1) 600
    ∷ counted 0 0 599
    ∷ counted 0 0 601
    ∷ numbered 2 3 6 0 1 16
    ∷ numbered 1 2 6 0 1 16
    ∷ numbered 1 5 6 0 1 16
    ∷ numbered 1 3 5 0 1 16
    ∷ numbered 1 3 11 0 1 16
    ∷ numbered 1 3 6 (2 ^ 40) 1 16
    ∷ numbered 1 3 6 0 0 16
    ∷ numbered 1 3 6 0 4 16
    ∷ numbered 1 3 6 0 1 15
    ∷ numbered 1 3 6 0 1 33
    ∷ typed [] [] []
    ∷ typed [] (some 5 0x30) []
    ∷ typed [] (some 11 0x30) []
    ∷ typed [] (some 6 0x2f) []
    ∷ typed [] (some 6 0x3a) []
    ∷ typed [] (some 6 0x30) (some 5 0x30)
    ∷ typed [] (some 6 0x30) (some 11 0x30)
    ∷ typed [] (some 6 0x30) (some 6 0x61)
    ∷ typed (some 4 0x21) (some 6 0x30) (some 6 0x30)
    ∷ typed (some 3 0x21) (some 6 0x30) []
    ∷ typed (some 33 0x21) (some 6 0x30) []
    ∷ typed (some 4 0x20) (some 6 0x30) []
    ∷ typed (some 4 0x7f) (some 6 0x30) []
    ∷ []

pub examples_taken : taken ≡ replicate 10 true
unfolding arguments_ok challenge_ok all_within password_ok track_ok check_numbers_ok passwords_ok check_arguments_ok
examples_taken = refl

pub examples_refused : refused ≡ replicate 31 false
unfolding arguments_ok challenge_ok all_within password_ok track_ok check_numbers_ok passwords_ok check_arguments_ok
examples_refused = refl

-- ---- the outcomes

abbrev outcomes : List Outcome
outcomes = Accepted (record { 0 = 5 }) ∷ Several ∷ Again ∷ Used ∷ Wrong ∷ []

-- an accepted step goes to the first element; the other outcomes leave that output; the counts are always written
pub outcomes-coded : map (λ o. outcome_counted o 3 4 (7 ∷ 8 ∷ []) (9 ∷ 10 ∷ []) (11 ∷ 12 ∷ [])) outcomes
    ≡ record { code = 0; step = 5 ∷ 8 ∷ []; computed = 3 ∷ 10 ∷ []; fresh = 4 ∷ 12 ∷ [] }
    ∷ record { code = 0x8001; step = 7 ∷ 8 ∷ []; computed = 3 ∷ 10 ∷ []; fresh = 4 ∷ 12 ∷ [] }
    ∷ record { code = 0x8004; step = 7 ∷ 8 ∷ []; computed = 3 ∷ 10 ∷ []; fresh = 4 ∷ 12 ∷ [] }
    ∷ record { code = 0x8004; step = 7 ∷ 8 ∷ []; computed = 3 ∷ 10 ∷ []; fresh = 4 ∷ 12 ∷ [] }
    ∷ record { code = 0x8002; step = 7 ∷ 8 ∷ []; computed = 3 ∷ 10 ∷ []; fresh = 4 ∷ 12 ∷ [] }
    ∷ []
outcomes-coded = refl
