use Rattle.std.proofs.Common.{◌≡◌}
use Rattle.sm3.specs.Sm3.{iterated}
use Rattle.sm3.proofs.compress.iterate.Given as goal

abbrev pub invariant-loop-i : goal.invariant-loop-i
invariant-loop-i l = l.value ≡ iterated l.i l.m l.initial.value
