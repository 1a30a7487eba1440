use Rattle.std.proofs.Common.{arith}
use Rattle.otp.proofs.cut.cut_words.Goals as goal

pub returns : goal.returns
returns c = omega arith
