use Rattle.std.proofs.Common.{arith}
use Rattle.window.specs.PasswordAt.{password_at}
use Rattle.lines.specs.TurnLaws.{nothing_taken}
use Rattle.script.specs.Script.{stage_of}
use Rattle.desk_lines.specs.AdvanceLaws.{advances-none}
use Rattle.desk_lines.proofs.input.serve_next.Goals as goal

pub returns-in_err-read-clause-some : goal.returns-in_err-read-clause-some
returns-in_err-read-clause-some g c =
    record {
      read = 0;
      within = omega arith;
      taken = nothing_taken (g.R.Read.remaining c.args.input.now) (g.R.Read.remaining c.read.new.self) c.in_err-read.ensures.bytes;
      served = record { used = 0; part = omega arith; advances = advances-none password_at c.args.pending.now (stage_of c.args.table.now) };
    }
