use Rattle.std.proofs.Common.{sym, ◌∙◌, arith}
use Rattle.otp.specs.PasswordLaws.{decimals-last, decimals-none}
use Rattle.otp.proofs.cut.put_decimals.Goals as goal

pub loop-i-preserved : goal.loop-i-preserved
loop-i-preserved c = sym (decimals-last c.loop-i.out c.loop-i.i c.loop-i.rest c.loop-i-test.true (omega arith)) ∙ c.loop-i.invariant

pub returns : goal.returns
returns c = sym (decimals-none c.loop-i.out c.loop-i.i c.loop-i.rest c.loop-i-test.false) ∙ c.loop-i.invariant
