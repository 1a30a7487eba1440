use Rattle.std.proofs.Common.{◌≡◌, ◌*◌, map}
use Rattle.sm4.specs.Sm4.{linear, steps, round_keys}
use Rattle.sm4.specs.Schedule.{Expanded}
use Rattle.sm4_lanes.proofs.fresh.first_each.Given as goal

abbrev pub invariant-loop-i : goal.invariant-loop-i
invariant-loop-i g l = Expanded l.key (4 * l.i) l.k l.keys × (l.s ≡ map (steps linear (round_keys l.key) (4 * l.i)) l.fn.blocks)
