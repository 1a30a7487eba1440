use Rattle.std.proofs.Common.{sym, ap, ◌∙◌, arith}
use Rattle.text.specs.Text.{bounded}
use Rattle.text.specs.DecimalLaws.{digits-wrong, digit_read, digits_large, read_more, digits-end}
use Rattle.text.proofs.numbers.digits.Goals as goal

pub returns-then-not-is_decimal : goal.returns-then-not-is_decimal
returns-then-not-is_decimal c =
    digits-wrong c.args.s.now c.loop-b.b-index c.loop-b.value c.loop-b-test.true (sym c.is_decimal.ensures ∙ c.if-not-is_decimal.true) ∙ ap bounded c.loop-b.invariant.rest

pub overflow_sub-b : goal.overflow_sub-b
overflow_sub-b c =
    (digit_read c.args.s.now c.loop-b.b-index c.loop-b.value c.loop-b-test.true (sym c.is_decimal.ensures ∙ c.if-not-is_decimal.false)).1.0

pub returns-in_err-checked_mul : goal.returns-in_err-checked_mul
returns-in_err-checked_mul c =
    c.from_residual.ensures ∙ digits_large c.args.s.now c.loop-b.b-index c.loop-b.value c.loop-b-test.true (sym c.is_decimal.ensures ∙ c.if-not-is_decimal.false) (omega (arith, c.in_err-checked_mul.ensures)) ∙ ap bounded c.loop-b.invariant.rest

pub returns-in_err-value : goal.returns-in_err-value
returns-in_err-value c =
    c.from_residual-in_err-value.ensures ∙ digits_large c.args.s.now c.loop-b.b-index c.loop-b.value c.loop-b-test.true (sym c.is_decimal.ensures ∙ c.if-not-is_decimal.false) (omega (arith, c.in_ok-checked_mul.ensures, c.in_err-value.ensures)) ∙ ap bounded c.loop-b.invariant.rest

pub loop-b-preserved : goal.loop-b-preserved
loop-b-preserved c =
    let tenfold = c.in_ok-checked_mul.ensures in
    let value = c.in_ok-value.ensures in
    let more = read_more c.args.s.now c.loop-b.b-index c.loop-b.value c.loop-b-test.true (sym c.is_decimal.ensures ∙ c.if-not-is_decimal.false) c.loop-b.invariant (omega (arith, tenfold, value)) in
    rw (value.1, tenfold.1) more

pub returns : goal.returns
returns c = digits-end c.args.s.now c.loop-b.b-index c.loop-b.value (omega arith) c.loop-b.invariant.fits ∙ ap bounded c.loop-b.invariant.rest
