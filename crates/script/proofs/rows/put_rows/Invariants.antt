use Rattle.script.specs.RowsLaws.{Rowed}
use Rattle.script.proofs.rows.put_rows.Given as goal

abbrev pub invariant-loop-i : goal.invariant-loop-i
invariant-loop-i l = Rowed l.initial.out l.at l.table l.rows l.out l.end l.i
