use Rattle.std.specs.Prelude.{◌-◌, length}
use Rattle.window.specs.PasswordAt.{password_at}
use Rattle.script.specs.Script.{stage_of}
use Rattle.script.specs.FillLaws.{Filling}
use Rattle.script.proofs.stream.fill.Given as goal

abbrev pub invariant-loop-at : goal.invariant-loop-at
invariant-loop-at l =
    Filling password_at l.initial.pending (stage_of l.initial.table) l.piece l.initial.out l.pending (stage_of l.table)
    l.out l.at l.end

abbrev pub decreases-loop-at : goal.decreases-loop-at
decreases-loop-at l = length l.piece - l.at
