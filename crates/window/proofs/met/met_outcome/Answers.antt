use Rattle.std.proofs.Common.{le-leb, lt-ltb, le-ltb}
use Rattle.std.proofs.lemmas.Bool.{lt-leb}
use Rattle.window.proofs.met.met_outcome.Goals as goal

pub returns-then-met-ge2 : goal.returns-then-met-ge2
returns-then-met-ge2 c = rw (le-leb 2 _ c.if-met-ge2.true)

pub returns-then-met-gt0 : goal.returns-then-met-gt0
returns-then-met-gt0 c = rw (lt-leb 2 _ c.if-met-ge2.false, lt-ltb 0 _ c.if-met-gt0.true)

pub returns-then-met : goal.returns-then-met
returns-then-met c = rw (lt-leb 2 _ c.if-met-ge2.false, le-ltb 0 _ c.if-met-gt0.false, c.if-met.true)

pub returns-then-met-2 : goal.returns-then-met-2
returns-then-met-2 c = rw (lt-leb 2 _ c.if-met-ge2.false, le-ltb 0 _ c.if-met-gt0.false, c.if-met.false, c.if-met-2.true)

pub returns-else-met-2 : goal.returns-else-met-2
returns-else-met-2 c = rw (lt-leb 2 _ c.if-met-ge2.false, le-ltb 0 _ c.if-met-gt0.false, c.if-met.false, c.if-met-2.false)
