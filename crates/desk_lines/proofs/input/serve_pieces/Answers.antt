use Rattle.window.specs.PasswordAt.{password_at}
use Rattle.script.specs.Script.{stage_of}
use Rattle.desk_lines.specs.AdvanceLaws.{leaves_none, leaves_more}
use Rattle.desk_lines.specs.PassLaws.{passes_none, passes_more}
use Rattle.desk_lines.proofs.input.serve_pieces.Goals as goal

pub loop-init : goal.loop-init
loop-init g c =
    record {
      leaves = rw c.requires (leaves_none password_at (stage_of c.args.table.now));
      passes =
          rw c.requires
          (passes_none password_at (g.R.Read.remaining c.args.input.now) (g.W.Write.contents c.args.to.now) (stage_of c.args.table.now));
    }

pub returns-in_err-read-clause-leaves : goal.returns-in_err-read-clause-leaves
returns-in_err-read-clause-leaves g c = leaves_more password_at c.loop.invariant.leaves c.serve_next.ensures.some.served.advances

pub returns-then-read-eq0-clause-leaves : goal.returns-then-read-eq0-clause-leaves
returns-then-read-eq0-clause-leaves g c = leaves_more password_at c.loop.invariant.leaves c.serve_next.ensures.some.served.advances

pub returns-then-read-eq0-clause-passes : goal.returns-then-read-eq0-clause-passes
returns-then-read-eq0-clause-passes g c =
    let turn = c.in_ok-read.ensures in
    passes_more password_at c.loop.invariant.passes turn.advances turn.writes turn.taken

pub loop-preserved : goal.loop-preserved
loop-preserved g c =
    let turn = c.in_ok-read.ensures in
    record {
      leaves = leaves_more password_at c.loop.invariant.leaves c.serve_next.ensures.some.served.advances;
      passes = passes_more password_at c.loop.invariant.passes turn.advances turn.writes turn.taken;
    }
