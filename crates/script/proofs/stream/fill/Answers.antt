use Rattle.window.specs.PasswordAt.{password_at}
use Rattle.script.specs.Script.{stage_of}
use Rattle.script.specs.FillLaws.{filling_begin, filling_more}
use Rattle.script.proofs.stream.fill.Goals as goal

pub loop-at-init : goal.loop-at-init
loop-at-init c =
    filling_begin password_at c.args.pending.now (stage_of c.args.table.now) c.args.piece.now c.args.out.now

pub loop-at-preserved : goal.loop-at-preserved
loop-at-preserved c =
    let fed = c.feed-fed.ensures in
    filling_more password_at c.loop-at.invariant c.loop-at-test.true fed.used_in_bounds fed.used_bound fed.end_bound fed.follows
