use Rattle.std.proofs.Common.{◌∙◌}
use Rattle.otp.specs.Password.{id_of, filled}
use Rattle.otp.specs.PasswordLaws.{keyed_hashed, keyed-chained}
use Rattle.otp.proofs.once.truncated_once.Goals as goal

pub returns-then-algorithm-eq-SM3 : goal.returns-then-algorithm-eq-SM3
returns-then-algorithm-eq-SM3 c = c.hashed.ensures ∙ keyed_hashed c.args.algorithm c.args.key.now (filled (id_of c.args.time c.args.count c.args.challenge.now)) c.if-algorithm-eq-SM3.true

pub returns : goal.returns
returns c = c.ciphered_once.ensures ∙ keyed-chained c.args.algorithm c.args.key.now (filled (id_of c.args.time c.args.count c.args.challenge.now)) c.if-algorithm-eq-SM3.false
