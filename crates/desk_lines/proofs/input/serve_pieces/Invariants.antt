use Rattle.window.specs.PasswordAt.{password_at}
use Rattle.script.specs.Script.{stage_of}
use Rattle.desk_lines.specs.Input.{Leaves, Passes}
use Rattle.desk_lines.proofs.input.serve_pieces.Given as goal

abbrev pub invariant-loop : goal.invariant-loop
invariant-loop g l =
    record {
      leaves : Leaves password_at (stage_of l.initial.table) l.pending (stage_of l.table);
      passes :
          Passes password_at (g.R.Read.remaining l.initial.input) (g.R.Read.remaining l.input) (g.W.Write.contents l.initial.to) (g.W.Write.contents l.to)
          (stage_of l.initial.table) l.pending (stage_of l.table);
    }
