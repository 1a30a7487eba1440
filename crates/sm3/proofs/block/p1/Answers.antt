use Rattle.std.proofs.Common.{arith}
use Rattle.sm3.specs.Sm3Laws.{permuted_by_eight}
use Rattle.sm3.proofs.block.p1.Goals as goal

pub returns : goal.returns
returns c = cc (permuted_by_eight c.args.x 15 (omega arith) (omega arith))
