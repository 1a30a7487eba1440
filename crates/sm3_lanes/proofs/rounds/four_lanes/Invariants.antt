use Rattle.std.proofs.Common.{◌*◌}
use Rattle.sm3_lanes.specs.Lanes.{Part}
use Rattle.sm3_lanes.proofs.rounds.four_lanes.Given as goal

abbrev pub invariant-loop-l : goal.invariant-loop-l
invariant-loop-l g l = Part l.l (4 * l.k) l.initial.s l.initial.w l.s l.w
