use Rattle.std.proofs.Common.{◌≡◌, ℕ, ◌<◌, length, get_or}
use Rattle.otp.specs.StepCuts.{words_cut}
use Rattle.otp.proofs.cuts.cuts_of.Given as goal

abbrev pub invariant-loop-l : goal.invariant-loop-l
invariant-loop-l g l = (length l.cuts ≡ g.row.N) × ((k : ℕ) → k < l.l → get_or l.cuts k 0 ≡ words_cut (get_or l.states k (record { a = 0; b = 0; c = 0; d = 0 })))
