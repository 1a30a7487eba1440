-- The cut of a step by either algorithm, and the cuts of consecutive steps put into a buffer.
use Rattle.std.specs.Prelude.{◌≡◌, ℕ, ◌≤◌, Bool, List, ◌++◌, length, drop, ◌≢◌}
use Rattle.otp.specs.Password.{algorithm_sm3, id_of, keyed, filled, cut}
use Rattle.otp.specs.Chain.{prepared}
use Rattle.otp.specs.StepCuts.{time_at, count_at, cuts_from}

-- the cut of a step, with Q if there is one
unfoldable pub step_cut : ℕ → List ℕ → List ℕ → Bool → ℕ → ℕ
step_cut algorithm key challenge timed s = cut (keyed algorithm key (filled (id_of (time_at timed s) (count_at timed s) challenge)))

-- a key made ready: SM4 has its round keys
abbrev pub Ready : ℕ → List ℕ → List ℕ → Type 0
Ready algorithm key ready = (algorithm ≢ algorithm_sm3) → ready ≡ prepared key

-- the cuts of n steps, from s on, at the front of a buffer, and behind them what was there
pub record Put (cut_at : ℕ → ℕ) (n s : ℕ) (before after : List ℕ) : Type 0 where
  pub fits : n ≤ length before
  pub are : after ≡ cuts_from cut_at n s ++ drop n before
