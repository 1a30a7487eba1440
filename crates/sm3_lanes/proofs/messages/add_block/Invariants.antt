use Rattle.sm3_lanes.specs.Lanes.{Added}
use Rattle.sm3_lanes.proofs.messages.add_block.Given as goal

abbrev pub invariant-loop-j : goal.invariant-loop-j
invariant-loop-j l = Added l.j l.m l.initial.w l.w
