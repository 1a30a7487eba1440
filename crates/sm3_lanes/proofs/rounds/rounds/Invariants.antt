use Rattle.std.proofs.Common.{◌*◌, ◌-◌}
use Rattle.sm3_lanes.specs.Lanes.{AllReached}
use Rattle.sm3_lanes.proofs.rounds.rounds.Given as goal

abbrev pub invariant-loop-k : goal.invariant-loop-k
invariant-loop-k g l = AllReached (4 * (l.k - l.first)) (4 * l.first) l.initial.s l.initial.w l.s l.w
