-- The sweep of a window (document 02, Asks 2 and 5): up the candidates once, how many passwords it computes, and how many fresh steps match.
use Rattle.std.specs.Prelude.{ℕ, ◌+◌, min, Bool, true, false, cond, ◌&&◌, ◌||◌, List, [], eqb, ltb}
use Rattle.otp.specs.Typed.{digits_of}
use Rattle.window.specs.declared.Size.{Size}
use Rattle.window.specs.declared.Track.{Track}
use Rattle.window.specs.declared.Outcome.{Outcome}
use Rattle.window.specs.declared.Outcome.TheVariants.{Accepted, Several, Again, Used, Wrong}
use Rattle.window.specs.declared.asked.Asked.{Asked}
use Rattle.window.specs.declared.goal.Goal.{Goal}
use Rattle.window.specs.declared.met.Met.{Met}
use Rattle.window.specs.declared.Swept.{Swept}
use Rattle.window.specs.Window.{candidate, beyond}
use Rattle.window.specs.Check.{how_many, fresh_hit, checked, only_one, settled}
use Rattle.window.specs.TokenCheck.{fresh_matches}
use Rattle.window.specs.PasswordAt.{PasswordRule, has_by}
use Rattle.window.specs.Asked.{outcome_of, two_asked, window_size}
use Rattle.window.specs.Goal.{seeks_pair, ahead_by, hits}

-- where a check ends: past every candidate, but for a pair that is accepted
abbrev pub swept_to : Bool → ℕ → Outcome → ℕ
swept_to pair end (Accepted a) = cond pair (a.0 + 1) end
swept_to pair end Several = end
swept_to pair end Again = end
swept_to pair end Used = end
swept_to pair end Wrong = end

-- how many candidates an outcome has asked for
abbrev pub computed_to : Bool → Track → ℕ → Size → Outcome → ℕ
computed_to pair k clock size o = how_many (candidate k clock size) (swept_to pair (beyond k clock) o)

abbrev pub is_pair : Asked → Bool
is_pair (Asked.One size p) = false
is_pair (Asked.Challenged size p) = false
is_pair (Asked.Two size p q) = true

-- each password has the token's count of digits
abbrev pub counts_right : ℕ → Asked → Bool
counts_right digits (Asked.One size p) = eqb p.digits digits
counts_right digits (Asked.Challenged size p) = eqb p.digits digits
counts_right digits (Asked.Two size p q) = eqb p.digits digits && eqb q.digits digits

-- how many passwords a check computes: none for another count of digits
unfoldable pub computed_of : PasswordRule → Track → ℕ → List ℕ → List ℕ → Asked → ℕ
computed_of passwords k clock key challenge asked =
    cond (counts_right k.scheme.digits asked) (computed_to (is_pair asked) k clock (window_size asked) (outcome_of passwords k clock key challenge asked)) 0

-- a check that accepts has one fresh match to show
abbrev pub acceptances : Outcome → ℕ
acceptances (Accepted a) = 1
acceptances Several = 0
acceptances Again = 0
acceptances Used = 0
acceptances Wrong = 0

-- how many fresh steps match: all those that have the one password; a pair's check looks for no second
abbrev pub fresh_of : PasswordRule → Track → ℕ → List ℕ → List ℕ → Asked → ℕ
fresh_of passwords k clock key challenge (Asked.One size p) = fresh_matches k clock size (has_by passwords k.scheme key [] (digits_of p))
fresh_of passwords k clock key challenge (Asked.Challenged size p) = fresh_matches k clock size (has_by passwords k.scheme key challenge (digits_of p))
fresh_of passwords k clock key challenge (Asked.Two size p q) = acceptances (two_asked passwords k clock key size p q)

-- ---- the sweep for a goal, by the cut of each step

-- s and the step to accept are candidates, and their cuts are the goal's
abbrev pub goal_hit : (ℕ → Bool) → Goal → (ℕ → ℕ) → ℕ → Bool
goal_hit candidate goal cut_of s = (candidate s && candidate (s + ahead_by goal)) && hits goal (cut_of s) (cut_of (s + ahead_by goal))

abbrev pub goal_found : Track → ℕ → Size → Goal → (ℕ → ℕ) → Outcome
goal_found k clock size goal cut_of = settled (ahead_by goal) (checked (goal_hit (candidate k clock size) goal cut_of) k.next.0 (beyond k clock))

abbrev pub goal_fresh : Track → ℕ → Size → Goal → (ℕ → ℕ) → ℕ
goal_fresh k clock size goal cut_of =
    cond (seeks_pair goal) (acceptances (goal_found k clock size goal cut_of)) (how_many (fresh_hit (goal_hit (candidate k clock size) goal cut_of) k.next.0) (beyond k clock))

-- a pair has at most one fresh match to show
abbrev pub goal_outcome : Track → ℕ → Size → Goal → (ℕ → ℕ) → Outcome
goal_outcome k clock size goal cut_of = only_one (goal_fresh k clock size goal cut_of) (goal_found k clock size goal cut_of)

unfoldable pub swept_by : Track → ℕ → Size → Goal → (ℕ → ℕ) → Swept
swept_by k clock size goal cut_of =
    let o = goal_outcome k clock size goal cut_of in
    record { outcome = o; computed = computed_to (seeks_pair goal) k clock size o; fresh = goal_fresh k clock size goal cut_of }

-- the cuts that every sweep makes, of all candidates, of which some are used
abbrev pub sure_cuts : Goal → ℕ → ℕ → ℕ
sure_cuts goal all used = cond (seeks_pair goal) (min all (used + 2)) all

-- ---- what a sweep has met

-- whether the step at place i hits, is fresh, or is the last used one
abbrev pub met_by : Met → Bool → Bool → Bool → ℕ → Met
met_by m hit fresh last i =
    cond hit
    (cond fresh (record { used = m.used; again = m.again; fresh = m.fresh + 1; at = i }) (record { used = true; again = m.again || last; fresh = m.fresh; at = m.at }))
    m

-- where nothing is accepted: whether the last used step hit, or any used one
abbrev pub unaccepted : Bool → Bool → Outcome
unaccepted true used = Again
unaccepted false true = Used
unaccepted false false = Wrong

-- where at most one fresh step hit
abbrev pub met_once : ℕ → ℕ → Met → Outcome
met_once first ahead m = cond (ltb 0 m.fresh) (Accepted (record { 0 = first + m.at + ahead })) (unaccepted m.again m.used)

abbrev pub met_outcome : ℕ → ℕ → Met → Outcome
met_outcome first ahead m = only_one m.fresh (met_once first ahead m)
