use Rattle.std.proofs.Common.{◌≡◌, ◌*◌, map}
use Rattle.sm4.specs.Sm4.{linear, steps}
use Rattle.sm4_lanes.proofs.rounds.rounds_each.Given as goal

abbrev pub invariant-loop-i : goal.invariant-loop-i
invariant-loop-i g l = l.s ≡ map (steps linear l.keys (4 * l.i)) l.fn.blocks
