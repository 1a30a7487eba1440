-- What is searched for: the numbers of the presented passwords, and which cuts of steps have them.
use Rattle.std.specs.Prelude.{ℕ, ◌%◌, ◌^◌, Bool, true, cond, ◌&&◌, ◌||◌, List, eqb, ltb, Option, Some, None, is_some}
use Rattle.otp.specs.declared.typed.Password.{Password}
use Rattle.otp.specs.declared.lists.Maker.{Maker}
use Rattle.otp.specs.CutLists.{step_cut}
use Rattle.window.specs.declared.Scheme.{Scheme}
use Rattle.window.specs.declared.goal.Goal.{Goal}
use Rattle.window.specs.Window.{time_token}

-- one password
unfoldable pub single_goal : Password → Goal
single_goal p = record { modulus = 10 ^ p.digits; before = None; last = p.number % 10 ^ p.digits }

-- two in a row: that of the step before the accepted one, and that of the accepted one
unfoldable pub pair_goal : Password → Password → Goal
pair_goal p q = record { modulus = 10 ^ p.digits; before = Some (p.number % 10 ^ p.digits); last = q.number % 10 ^ p.digits }

abbrev pub seeks_pair : Goal → Bool
seeks_pair goal = is_some goal.before

-- how far the accepted step stands ahead of the first that matches
abbrev pub ahead_by : Goal → ℕ
ahead_by goal = cond (seeks_pair goal) 1 0

-- x is a number that the step before the accepted one may have: any, where one password is searched for
abbrev pub may_begin : Option ℕ → ℕ → Bool
may_begin None x = true
may_begin (Some before) x = eqb x before

-- x is the cut of a step that a pair may begin at
abbrev pub begins : Goal → ℕ → Bool
begins goal x = may_begin goal.before (x % goal.modulus)

-- x is the cut of the step that hits, y that of the step to accept
unfoldable pub hits : Goal → ℕ → ℕ → Bool
hits goal x y = eqb (y % goal.modulus) goal.last && begins goal x

-- how many of the `left` steps past one with the cut x a pair reaches for certain: it begins there, or at the next at the earliest
abbrev pub more_sure : Goal → ℕ → ℕ → ℕ
more_sure goal x left = cond (ltb left 2 || begins goal x) 1 2

-- how a token's steps are cut: by its algorithm, as times or as counts
abbrev pub maker_of : Scheme → Maker
maker_of scheme = record { algorithm = scheme.algorithm; timed = eqb scheme.kind time_token }

-- the cut of a token's step
abbrev pub cut_at : Scheme → List ℕ → List ℕ → ℕ → ℕ
cut_at scheme key challenge = step_cut scheme.algorithm key challenge (eqb scheme.kind time_token)
