use Rattle.std.proofs.Common.{arith}
use Rattle.text.specs.DecimalLaws.{read_none, all_room, read-all_more, all_right, some-wrong}
use Rattle.text.proofs.numbers.few_digits.Goals as goal

pub overflow_mul-value : goal.overflow_mul-value
overflow_mul-value c =
    omega (arith, all_room c.args.s.now c.requires c.loop-b.invariant c.loop-b-test.true)

pub overflow_add-value : goal.overflow_add-value
overflow_add-value c =
    omega (arith, all_room c.args.s.now c.requires c.loop-b.invariant c.loop-b-test.true)

pub loop-b-preserved : goal.loop-b-preserved
loop-b-preserved c =
    read-all_more c.args.s.now c.requires c.loop-b.invariant c.loop-b-test.true c.is_decimal-right.ensures

pub returns-then-right : goal.returns-then-right
returns-then-right c =
    all_right c.args.s.now c.requires c.loop-b.invariant c.loop-b-test.false c.if-right.true

pub returns-else-right : goal.returns-else-right
returns-else-right c =
    some-wrong c.args.s.now c.requires c.loop-b.invariant c.loop-b-test.false c.if-right.false
