use Rattle.std.proofs.Common.{arith}
use Rattle.otp.specs.SpanLaws.{high_fits, span_first, span_second, span_third}
use Rattle.otp.proofs.steps.span_word.Goals as goal

pub overflow_cast-result-then-i-eq0 : goal.overflow_cast-result-then-i-eq0
overflow_cast-result-then-i-eq0 c = omega (arith, high_fits c.args.n c.args.bits (omega arith))

pub returns-then-i-eq0 : goal.returns-then-i-eq0
returns-then-i-eq0 c = span_first c.args.n c.args.bits c.args.i c.if-i-eq0.true

pub returns-then-i-eq1 : goal.returns-then-i-eq1
returns-then-i-eq1 c = span_second c.args.n c.args.bits c.args.i c.if-i-eq1.true

pub returns : goal.returns
returns c = span_third c.args.n c.args.bits c.args.i c.if-i-eq0.false c.if-i-eq1.false
