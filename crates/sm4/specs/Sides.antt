-- A block's rounds beside the key schedule: the round keys are used as they are made.
use Rattle.std.specs.Prelude.{ℕ, zero, suc, get_or}
use Rattle.sm4.specs.Sm4.{linear, linear_key, step, cks}
use Rattle.sm4.specs.declared.round.Quad.{Quad}

-- the words K_n to K_n+3 and X_n to X_n+3
pub record Sides : Type 0 where
  pub key : Quad
  pub state : Quad

abbrev pub side_step : ℕ → Sides → Sides
side_step constant s =
    record {
      key = step linear_key constant s.key;
      state = step linear (step linear_key constant s.key).d s.state;
    }

unfoldable pub side_steps : ℕ → Sides → Sides
side_steps zero s = s
side_steps (suc n) s = side_step (get_or cks n 0) (side_steps n s)
