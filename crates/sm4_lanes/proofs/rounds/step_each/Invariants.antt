use Rattle.std.proofs.Common.{◌≡◌, ◌++◌, map, take, drop}
use Rattle.sm4.specs.Sm4.{linear, step}
use Rattle.sm4_lanes.proofs.rounds.step_each.Given as goal

abbrev pub invariant-loop-l : goal.invariant-loop-l
invariant-loop-l g l = l.s ≡ map (step linear l.key) (take l.l l.fn.blocks) ++ drop l.l l.fn.blocks
