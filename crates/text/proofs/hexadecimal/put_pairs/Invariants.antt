use Rattle.text.specs.HexLaws.{Putting}
use Rattle.text.proofs.hexadecimal.put_pairs.Given as goal

abbrev pub invariant-loop-i : goal.invariant-loop-i
invariant-loop-i l = Putting l.s l.initial.out l.out l.i
