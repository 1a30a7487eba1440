use Rattle.script.specs.RowsLaws.{Hexed}
use Rattle.script.proofs.rows.put_hex.Given as goal

abbrev pub invariant-loop-b : goal.invariant-loop-b
invariant-loop-b l = Hexed l.initial.out l.at l.bytes l.out l.end l.b-index
