-- The checks of a token (document 01, Part 3; document 02, Asks 4 and 5), over any predicate "step s has this password".
use Rattle.std.specs.Prelude.{ℕ, Bool}
use Rattle.window.specs.declared.Size.{Size}
use Rattle.window.specs.declared.Track.{Track}
use Rattle.window.specs.declared.Outcome.{Outcome}
use Rattle.window.specs.Window.{candidate, beyond}
use Rattle.window.specs.Check.{how_many, fresh_hit, checked, only_one, single_hit, pair_hit, settled}

-- how many fresh candidates match
unfoldable pub fresh_matches : Track → ℕ → Size → (ℕ → Bool) → ℕ
fresh_matches k clock size matches = how_many (fresh_hit (single_hit (candidate k clock size) matches) k.next.0) (beyond k clock)

unfoldable pub single_check : Track → ℕ → Size → (ℕ → Bool) → Outcome
single_check k clock size matches =
    only_one (fresh_matches k clock size matches) (checked (single_hit (candidate k clock size) matches) k.next.0 (beyond k clock))

unfoldable pub pair_check : Track → ℕ → Size → (ℕ → Bool) → (ℕ → Bool) → Outcome
pair_check k clock size first second = settled 1 (checked (pair_hit (candidate k clock size) first second) k.next.0 (beyond k clock))
