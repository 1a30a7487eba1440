use Rattle.std.proofs.Common.{◌+◌}
use Rattle.window.specs.PasswordAt.{password_at}
use Rattle.script.specs.Script.{stage_of}
use Rattle.desk_lines.specs.InputLaws.{serving_begin, serving_more}
use Rattle.desk_lines.specs.PassLaws.{writes_none, writes_more}
use Rattle.desk_lines.proofs.input.serve_piece.Goals as goal

pub loop-at-init : goal.loop-at-init
loop-at-init g c =
    record {
      serving = serving_begin password_at c.args.pending.now (stage_of c.args.table.now) c.args.piece.now;
      writes = writes_none password_at c.args.pending.now (stage_of c.args.table.now) (g.W.Write.contents c.args.to.now);
    }

pub loop-at-preserved : goal.loop-at-preserved
loop-at-preserved g c =
    let fed = c.fill-fed.ensures in
    record {
      serving = serving_more password_at c.loop-at.invariant.serving fed.used_in_bounds fed.follows;
      writes =
          writes_more password_at c.args.piece.now c.loop-at.at c.fill-fed.result.used (g.W.Write.contents c.write_all.new.self) c.loop-at.invariant.writes
          c.loop-at.invariant.serving.advances fed.follows c.in_ok-write_all.ensures.bytes;
    }

pub returns-in_err-write_all-clause-some : goal.returns-in_err-write_all-clause-some
returns-in_err-write_all-clause-some g c =
    let fed = c.fill-fed.ensures in
    let next = serving_more password_at c.loop-at.invariant.serving fed.used_in_bounds fed.follows in
    record { used = c.loop-at.at + c.fill-fed.result.used; part = next.within; advances = next.advances }

pub returns-clause-some : goal.returns-clause-some
returns-clause-some g c =
    let serving = c.loop-at.invariant.serving in
    record { used = c.loop-at.at; part = serving.within; advances = serving.advances }
