use Rattle.std.proofs.Common.{sym, ◌∙◌, arith}
use Rattle.otp.specs.NumbersLaws.{number_fits, number_grows, number_more, number-end}
use Rattle.otp.proofs.number.number_shown.Goals as goal

pub loop-b-preserved : goal.loop-b-preserved
loop-b-preserved c = (
  number_grows c.loop-b.b-index c.loop-b.x c.loop-b.invariant.0 (omega (arith, c.type_inv.digits c.loop-b.b-index)),
  sym (number_more _ c.loop-b.b-index c.loop-b.x c.loop-b-test.true c.saturating_sub.ensures) ∙ c.loop-b.invariant.1,
)

pub returns : goal.returns
returns c = sym (number-end _ c.loop-b.b-index c.loop-b.x c.loop-b-test.false) ∙ c.loop-b.invariant.1
