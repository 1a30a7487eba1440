use Rattle.std.proofs.lemmas.Bool.{not-true, not-false}
use Rattle.window.proofs.met.met_by.Goals as goal

pub returns-then-not-hit : goal.returns-then-not-hit
returns-then-not-hit c = rw (not-true c.args.hit c.if-not-hit.true-raw)

pub returns-then-fresh : goal.returns-then-fresh
returns-then-fresh c = rw (not-false c.args.hit c.if-not-hit.false-raw, c.if-fresh.true)

pub returns-else-fresh : goal.returns-else-fresh
returns-else-fresh c = rw (not-false c.args.hit c.if-not-hit.false-raw, c.if-fresh.false)
