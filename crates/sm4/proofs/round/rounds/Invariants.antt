use Rattle.std.proofs.Common.{◌≡◌, ◌*◌}
use Rattle.sm4.specs.Sm4.{linear, steps}
use Rattle.sm4.proofs.round.rounds.Given as goal

abbrev pub invariant-loop-i : goal.invariant-loop-i
invariant-loop-i l = l.q ≡ steps linear l.keys (4 * l.i) l.initial.q
