use Rattle.call_lines.specs.PrintingLaws.{Stored}
use Rattle.call_lines.proofs.printing.put_decimal.Given as goal

abbrev pub invariant-loop-rest : goal.invariant-loop-rest
invariant-loop-rest l = Stored l.x l.digits l.start l.rest

abbrev pub decreases-loop-rest : goal.decreases-loop-rest
decreases-loop-rest l = l.rest
