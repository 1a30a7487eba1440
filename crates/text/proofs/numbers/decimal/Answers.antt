use Rattle.text.specs.DecimalLaws.{decimal_empty, decimal_digits_lem, decimal_zero, decimal_leading}
use Rattle.std.proofs.Common.{arith}
use Rattle.text.proofs.numbers.decimal.Goals as goal

pub returns-in-empty : goal.returns-in-empty
returns-in-empty c = decimal_empty c.args.s.now (omega arith)

pub returns-then-rest-eq0 : goal.returns-then-rest-eq0
returns-then-rest-eq0 c = decimal_zero c.args.s.now (omega arith) (omega arith)

pub returns-else-rest-eq0 : goal.returns-else-rest-eq0
returns-else-rest-eq0 c = decimal_leading c.args.s.now (omega arith) (λ e. omega arith)

pub returns-in_default : goal.returns-in_default
returns-in_default c = decimal_digits_lem c.args.s.now (λ e. omega arith) (λ e. omega arith) c.few_digits.ensures

pub returns-in_default-2 : goal.returns-in_default-2
returns-in_default-2 c = decimal_digits_lem c.args.s.now (λ e. omega arith) (λ e. omega arith) c.digits.ensures
