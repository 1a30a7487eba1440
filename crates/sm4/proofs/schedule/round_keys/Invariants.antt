use Rattle.sm4.specs.Schedule.{Expanded}
use Rattle.sm4.proofs.schedule.round_keys.Given as goal

abbrev pub invariant-loop-i : goal.invariant-loop-i
invariant-loop-i l = Expanded l.key l.i l.k l.keys
