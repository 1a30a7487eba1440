-- The arguments of a password (document 01, Part 2), as a table with one proof: each at both ends of its range, where it is taken, and beyond them.
use Rattle.std.specs.Prelude.{◌≡◌, ℕ, ◌-◌, ◌^◌, Bool, true, not, ◌&&◌, List, [], ◌∷◌, ◌++◌, replicate, refl, Some, None}
use Rattle.words.specs.Lists.{all_within}
use Rattle.otp.specs.Password.{challenge_ok, arguments_ok, Factor}

-- what a password is made of; its key is so many bytes
pub record Arguments : Type 0 where
  pub algorithm : ℕ
  pub key_length : ℕ
  pub time : Factor
  pub count : Factor
  pub challenge : List ℕ
  pub digits : ℕ

abbrev pub arguments : ℕ → ℕ → Factor → Factor → List ℕ → ℕ → Arguments
arguments algorithm key_length time count challenge digits =
    record { algorithm = algorithm; key_length = key_length; time = time; count = count; challenge = challenge; digits = digits }

abbrev pub taken : Arguments → Bool
taken a = arguments_ok a.algorithm (replicate a.key_length 7) a.time a.count a.challenge a.digits

abbrev pub all_taken : List Arguments → Bool
all_taken [] = true
all_taken (a ∷ more) = taken a && all_taken more

abbrev pub none_taken : List Arguments → Bool
none_taken [] = true
none_taken (a ∷ more) = not (taken a) && none_taken more

-- algorithm 3 or 4, key of 16 to 32 bytes, T or C, C below 2^32, no challenge or 4 to 32 bytes of 21 to 7e, 6 to 10 digits
abbrev pub within_ranges : List Arguments
within_ranges =
    arguments 3 16 (Some 0) None [] 6
    ∷ arguments 4 32 None (Some (2 ^ 32 - 1)) [] 10
    ∷ arguments 4 16 (Some (2 ^ 64 - 1)) (Some 0) (replicate 4 0x21) 6
    ∷ arguments 3 32 (Some 0) (Some 0) (replicate 32 0x7e) 10
    ∷ []

abbrev pub beyond_ranges : List Arguments
beyond_ranges =
    arguments 2 16 (Some 0) None [] 6
    ∷ arguments 5 16 (Some 0) None [] 6
    ∷ arguments 3 15 (Some 0) None [] 6
    ∷ arguments 3 33 (Some 0) None [] 6
    ∷ arguments 3 16 None None [] 6
    ∷ arguments 3 16 None (Some (2 ^ 32)) [] 6
    ∷ arguments 3 16 (Some 0) None (replicate 1 0x21) 6
    ∷ arguments 3 16 (Some 0) None (replicate 3 0x21) 6
    ∷ arguments 3 16 (Some 0) None (replicate 33 0x21) 6
    ∷ arguments 3 16 (Some 0) None (0x20 ∷ replicate 3 0x21) 6
    ∷ arguments 3 16 (Some 0) None (replicate 3 0x21 ++ (0x7f ∷ [])) 6
    ∷ arguments 3 16 (Some 0) None [] 5
    ∷ arguments 3 16 (Some 0) None [] 11
    ∷ []

pub password-arguments-hold : all_taken within_ranges && none_taken beyond_ranges ≡ true
unfolding all_within challenge_ok arguments_ok
password-arguments-hold = refl
