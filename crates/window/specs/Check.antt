-- The single and the pair check (document 01, Part 3; document 02, Asks 4 and 5), over any predicate "step s has this password".
use Rattle.std.specs.Prelude.{ℕ, zero, suc, ◌+◌, Bool, cond, ◌&&◌, eqb, leb, ltb}
use Rattle.std.proofs.Math.Option.{Option, none, some}
use Rattle.window.specs.declared.Outcome.{Outcome}
use Rattle.window.specs.declared.Outcome.TheVariants.{Accepted, Several, Again, Used, Wrong}

abbrev pub or_else : Option ℕ → Option ℕ → Option ℕ
or_else none b = b
or_else (some x) b = some x

-- the smallest number below n that passes the test
unfoldable pub smallest : (ℕ → Bool) → ℕ → Option ℕ
smallest test zero = none
smallest test (suc n) = or_else (smallest test n) (cond (test n) (some n) none)

-- how many numbers below n pass the test
unfoldable pub how_many : (ℕ → Bool) → ℕ → ℕ
how_many test zero = 0
how_many test (suc n) = how_many test n + cond (test n) 1 0

-- a step is fresh if it is at least `next`, the first unused step (document 01's terms); hits are candidates that match
abbrev pub fresh_hit : (ℕ → Bool) → ℕ → ℕ → Bool
fresh_hit hit next s = leb next s && hit s

abbrev pub used_hit : (ℕ → Bool) → ℕ → ℕ → Bool
used_hit hit next s = ltb s next && hit s

-- the step `next` - 1 is the one that was accepted last
abbrev pub last_hit : (ℕ → Bool) → ℕ → ℕ → Bool
last_hit hit next s = eqb (s + 1) next && hit s

abbrev pub judged : Option ℕ → Option ℕ → Option ℕ → Outcome
judged (some s) last used = Accepted (record { 0 = s })
judged none (some s) used = Again
judged none none (some s) = Used
judged none none none = Wrong

-- the smallest fresh step that matches is accepted; else used, if one that is not fresh matches, and presented again, if `next` - 1 does; otherwise wrong
unfoldable pub checked : (ℕ → Bool) → ℕ → ℕ → Outcome
checked hit next n = judged (smallest (fresh_hit hit next) n) (smallest (last_hit hit next) n) (smallest (used_hit hit next) n)

-- one password that two or more fresh steps have is not accepted
abbrev pub only_one : ℕ → Outcome → Outcome
only_one fresh o = cond (leb 2 fresh) Several o

-- single check: a hit is a candidate that matches
abbrev pub single_hit : (ℕ → Bool) → (ℕ → Bool) → ℕ → Bool
single_hit candidate matches s = candidate s && matches s

-- pair check: s and s + 1 are candidates, s has the first password and s + 1 the second
abbrev pub pair_hit : (ℕ → Bool) → (ℕ → Bool) → (ℕ → Bool) → ℕ → Bool
pair_hit candidate first second s = (candidate s && candidate (s + 1)) && (first s && second (s + 1))

-- the accepted step stands `ahead` of the hit: it is s + 1 for a pair
abbrev pub settled : ℕ → Outcome → Outcome
settled ahead (Accepted s) = Accepted (record { 0 = s.0 + ahead })
settled ahead Several = Several
settled ahead Again = Again
settled ahead Used = Used
settled ahead Wrong = Wrong
