use Rattle.std.proofs.Common.{arith}
use Rattle.words.specs.WordsLaws.{choice-by_xor}
use Rattle.sm3.proofs.round.choice.Goals as goal

pub returns : goal.returns
returns c = choice-by_xor c.args.x c.args.y c.args.z (omega arith) (omega arith) (omega arith)
