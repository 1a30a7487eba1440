use Rattle.std.proofs.Common.{◌*◌, arith}
use Rattle.sm3.specs.Sm3Laws.{four-grown, four-past}
use Rattle.sm3.proofs.block.grow_four.Goals as goal

pub returns-then-k-ge17 : goal.returns-then-k-ge17
returns-then-k-ge17 c = four-past c.args.w.now (4 * c.args.k) (omega arith)

pub returns : goal.returns
returns c = four-grown c.args.w.now (4 * c.args.k) c.grow.ensures c.grow-2.ensures c.grow-3.ensures c.grow-4.ensures
