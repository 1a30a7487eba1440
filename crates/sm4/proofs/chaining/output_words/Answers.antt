use Rattle.std.proofs.Common.{arith}
use Rattle.sm4.specs.EncryptLaws.{output_words}
use Rattle.sm4.proofs.chaining.output_words.Goals as goal

pub returns : goal.returns
returns c = output_words c.args.q (omega arith) (omega arith) (omega arith) (omega arith)
