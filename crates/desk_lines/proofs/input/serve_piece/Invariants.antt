use Rattle.std.proofs.Common.{◌-◌, length, take}
use Rattle.window.specs.PasswordAt.{password_at}
use Rattle.script.specs.Script.{stage_of}
use Rattle.desk_lines.specs.Input.{Writes}
use Rattle.desk_lines.specs.InputLaws.{Serving}
use Rattle.desk_lines.proofs.input.serve_piece.Given as goal

abbrev pub invariant-loop-at : goal.invariant-loop-at
invariant-loop-at g l =
    record {
      serving :
          Serving password_at l.initial.pending (stage_of l.initial.table) l.piece l.pending (stage_of l.table) l.at;
      writes :
          Writes password_at l.initial.pending (take l.at l.piece) (stage_of l.initial.table) (g.W.Write.contents l.initial.to)
          (g.W.Write.contents l.to);
    }

abbrev pub decreases-loop-at : goal.decreases-loop-at
decreases-loop-at g l = length l.piece - l.at
