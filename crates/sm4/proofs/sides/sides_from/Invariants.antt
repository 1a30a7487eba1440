use Rattle.std.proofs.Common.{◌≡◌, ◌*◌}
use Rattle.sm4.specs.Sm4.{linear, steps, round_keys}
use Rattle.sm4.specs.Schedule.{Expanded}
use Rattle.sm4.proofs.sides.sides_from.Given as goal

abbrev pub invariant-loop-i : goal.invariant-loop-i
invariant-loop-i l = Expanded l.key (4 * l.i) l.k l.keys × (l.q ≡ steps linear (round_keys l.key) (4 * l.i) l.initial.q)
