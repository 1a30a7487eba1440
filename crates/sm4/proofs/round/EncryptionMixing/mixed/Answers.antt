use Rattle.std.proofs.Common.{arith}
use Rattle.sm4.specs.Sm4Laws.{linear-by_eights}
use Rattle.sm4.proofs.round.EncryptionMixing.mixed.Goals as goal

pub returns : goal.returns
returns c = cc (linear-by_eights c.args.b (omega arith))
