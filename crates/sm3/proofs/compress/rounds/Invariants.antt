use Rattle.std.proofs.Common.{◌*◌, ◌-◌}
use Rattle.sm3.specs.Rounds.{Reached}
use Rattle.sm3.proofs.compress.rounds.Given as goal

abbrev pub invariant-loop-k : goal.invariant-loop-k
invariant-loop-k g l = Reached (4 * (l.k - l.first)) (4 * l.first) l.initial.w l.initial.r l.w l.r
