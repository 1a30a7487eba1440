use Rattle.otp.specs.TypedLaws.{typed-miscounted, typed-other, typed-counted, typed-digits}
use Rattle.std.proofs.Common.{arith}
use Rattle.otp.proofs.typed.password_of.Goals as goal

pub returns-then-not-n : goal.returns-then-not-n
returns-then-not-n c = typed-miscounted _ c.if-not-n.true-raw

pub returns-then-not-within : goal.returns-then-not-within
returns-then-not-within c = typed-other _ c.within.ensures c.if-not-within.true-raw

pub returns : goal.returns
returns c = typed-digits _ c.within.ensures c.if-not-n.false-raw c.if-not-within.false-raw c.number_shown.ensures
