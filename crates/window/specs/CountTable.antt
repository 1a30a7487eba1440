-- What a check finds, how many passwords it computes and how many fresh steps match (document 02, Asks 2, 4 and 5), as a table with one proof: time tokens at T = 100.
-- A count that definition and code share, and get wrong, shows here.
use Rattle.std.specs.Prelude.{ℕ, ◌%◌, ◌^◌, ◌≡◌, refl, Bool, true, ◌&&◌, List, [], ◌∷◌, eqb}
use Rattle.words.specs.Lists.{same_bytes}
use Rattle.otp.specs.declared.typed.Password.{Password}
use Rattle.otp.specs.Password.{decimals}
use Rattle.otp.specs.Typed.{digits_of}
use Rattle.window.specs.declared.Size.TheVariants.{Small, Medium, Large}
use Rattle.window.specs.declared.Track.{Track}
use Rattle.window.specs.declared.Outcome.{Outcome}
use Rattle.window.specs.declared.Outcome.TheVariants.{Accepted, Several, Again, Used, Wrong}
use Rattle.window.specs.declared.asked.Asked.{Asked}
use Rattle.window.specs.Window.{time_candidate, candidate, beyond}
use Rattle.window.specs.Check.{smallest, how_many, checked}
use Rattle.window.specs.PasswordAt.{PasswordRule}
use Rattle.window.specs.TokenCheck.{fresh_matches, single_check, pair_check}
use Rattle.window.specs.Asked.{outcome_of}
use Rattle.window.specs.Sweep.{computed_of, fresh_of}

-- step s has the password s modulo m: with 10^6 its own, with less one that other steps have too
abbrev pub remainders : ℕ → PasswordRule
remainders m scheme key challenge s = decimals scheme.digits (s % m)

abbrev pub own : ℕ
own = 10 ^ 6

-- a token of six digits and period 1, with its first unused step and d + 600
abbrev pub token_with : ℕ → ℕ → Track
token_with next offset = record { scheme = record { kind = 0; algorithm = 3; digits = 6 }; period = 1; next = record { 0 = next }; offset = record { 0 = offset } }

abbrev pub typed : ℕ → Password
typed n = record { digits = 6; number = n }

abbrev pub longer : ℕ → Password
longer n = record { digits = 7; number = n }

abbrev pub accepted : ℕ → Outcome
accepted s = Accepted (record { 0 = s })

-- an outcome as numbers, to be compared
abbrev pub in_numbers : Outcome → List ℕ
in_numbers (Accepted a) = 0 ∷ a.0 ∷ []
in_numbers Several = 1 ∷ []
in_numbers Again = 2 ∷ []
in_numbers Used = 3 ∷ []
in_numbers Wrong = 4 ∷ []

pub record Case : Type 0 where
  pub modulus : ℕ
  pub track : Track
  pub asked : Asked
  pub outcome : Outcome
  pub computed : ℕ
  pub fresh : ℕ

abbrev pub case : ℕ → Track → Asked → Outcome → ℕ → ℕ → Case
case modulus track asked outcome computed fresh = record { modulus = modulus; track = track; asked = asked; outcome = outcome; computed = computed; fresh = fresh }

abbrev pub holds : Case → Bool
holds c =
    same_bytes (in_numbers (outcome_of (remainders c.modulus) c.track 100 [] [] c.asked)) (in_numbers c.outcome)
    && (eqb (computed_of (remainders c.modulus) c.track 100 [] [] c.asked) c.computed
    && eqb (fresh_of (remainders c.modulus) c.track 100 [] [] c.asked) c.fresh)

abbrev pub all_hold : List Case → Bool
all_hold [] = true
all_hold (c ∷ cs) = holds c && all_hold cs

abbrev pub cases : List Case
cases =
    -- one password among the candidates 98 to 102, all of which are computed: accepted, used, wrong
    case own (token_with 0 600) (Asked.One Small (typed 98)) (accepted 98) 5 1
    ∷ case own (token_with 100 600) (Asked.One Small (typed 100)) (accepted 100) 5 1
    ∷ case own (token_with 0 600) (Asked.Challenged Small (typed 102)) (accepted 102) 5 1
    ∷ case own (token_with 101 600) (Asked.One Small (typed 99)) Used 5 0
    ∷ case own (token_with 0 600) (Asked.One Small (typed 500)) Wrong 5 0
    -- two fresh steps have it, or three; one does, though used ones do too; none does
    ∷ case 3 (token_with 0 600) (Asked.One Small (typed 2)) Several 5 2
    ∷ case 3 (token_with 98 600) (Asked.Challenged Small (typed 2)) Several 5 2
    ∷ case 2 (token_with 0 600) (Asked.One Small (typed 0)) Several 5 3
    ∷ case 2 (token_with 99 600) (Asked.One Small (typed 0)) Several 5 2
    ∷ case 2 (token_with 101 600) (Asked.One Small (typed 0)) (accepted 102) 5 1
    ∷ case 3 (token_with 99 600) (Asked.One Small (typed 2)) (accepted 101) 5 1
    -- the step before the first unused one has it, with older ones or alone; it has not, and an older one has; it is no candidate, or there is none
    ∷ case own (token_with 101 600) (Asked.One Small (typed 100)) Again 5 0
    ∷ case own (token_with 99 600) (Asked.Challenged Small (typed 98)) Again 5 0
    ∷ case 2 (token_with 103 600) (Asked.One Small (typed 0)) Again 5 0
    ∷ case 2 (token_with 104 600) (Asked.One Small (typed 0)) Used 5 0
    ∷ case own (token_with 103 600) (Asked.Challenged Small (typed 101)) Used 5 0
    ∷ case own (token_with 200 600) (Asked.One Small (typed 100)) Used 5 0
    ∷ case own (token_with 98 600) (Asked.One Small (typed 97)) Wrong 5 0
    ∷ case own (token_with 0 600) (Asked.One Small (typed 0)) Wrong 5 0
    -- another count of digits
    ∷ case own (token_with 0 600) (Asked.One Small (longer 98)) Wrong 0 0
    ∷ case own (token_with 0 600) (Asked.Challenged Small (longer 98)) Wrong 0 0
    ∷ case own (token_with 0 600) (Asked.Two Medium (longer 100) (typed 101)) Wrong 0 0
    ∷ case own (token_with 0 600) (Asked.Two Medium (typed 100) (longer 101)) Wrong 0 0
    -- d 600: 698 to 700; d -600: none
    ∷ case own (token_with 0 1200) (Asked.One Small (typed 700)) (accepted 700) 3 1
    ∷ case own (token_with 0 0) (Asked.One Small (typed 0)) Wrong 0 0
    -- a pair up to its second step, whatever pairs follow; used, again and wrong ones
    ∷ case own (token_with 0 600) (Asked.Two Medium (typed 100) (typed 101)) (accepted 101) 7 1
    ∷ case own (token_with 0 600) (Asked.Two Large (typed 90) (typed 91)) (accepted 91) 2 1
    ∷ case own (token_with 0 600) (Asked.Two Large (typed 109) (typed 110)) (accepted 110) 21 1
    ∷ case 3 (token_with 0 600) (Asked.Two Medium (typed 2) (typed 0)) (accepted 96) 2 1
    ∷ case own (token_with 101 600) (Asked.Two Medium (typed 99) (typed 100)) Used 11 0
    ∷ case own (token_with 101 600) (Asked.Two Medium (typed 100) (typed 101)) Again 11 0
    ∷ case own (token_with 0 600) (Asked.Two Large (typed 110) (typed 111)) Wrong 21 0
    ∷ []

pub counts-hold : all_hold cases ≡ true
unfolding same_bytes decimals digits_of time_candidate candidate beyond smallest how_many checked fresh_matches single_check pair_check computed_of
counts-hold = refl
