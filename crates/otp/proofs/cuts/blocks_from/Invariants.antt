use Rattle.std.proofs.Common.{◌≡◌, ℕ, ◌+◌, ◌<◌, length, get_or}
use Rattle.otp.specs.StepCuts.{step_block}
use Rattle.otp.proofs.cuts.blocks_from.Given as goal

abbrev pub invariant-loop-l : goal.invariant-loop-l
invariant-loop-l g l = (length l.lanes ≡ g.row.N) × ((k : ℕ) → k < l.l → get_or l.lanes k (record { a = 0; b = 0; c = 0; d = 0 }) ≡ step_block l.timed (l.s + k))
