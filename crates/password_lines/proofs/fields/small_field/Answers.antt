use Rattle.std.proofs.Common.{refl, sym, ◌∙◌, leb-true}
use Rattle.words.specs.BoolLaws.{and_left}
use Rattle.password_lines.specs.LineLaws.{small_digit, small-no_digit, alone-byte, small-bad, small-within, small-above}
use Rattle.password_lines.proofs.fields.small_field.Goals as goal

pub overflow_sub-result : goal.overflow_sub-result
overflow_sub-result c = leb-true 0x30 _ (and_left _ _ c.if-b.true)

pub returns-then-b : goal.returns-then-b
returns-then-b c = alone-byte c.args.field.now c.if-field-eq1.true refl (small_digit _ c.if-b.true)

pub returns-else-b : goal.returns-else-b
returns-else-b c = alone-byte c.args.field.now c.if-field-eq1.true refl (small-no_digit _ c.if-b.false)

pub returns-in_err-x : goal.returns-in_err-x
returns-in_err-x c = c.from_residual.ensures ∙ small-bad c.args.field.now (sym c.decimal.ensures ∙ c.in_err-x.was)

pub returns-then-x-lt256 : goal.returns-then-x-lt256
returns-then-x-lt256 c = small-within c.args.field.now (sym c.decimal.ensures ∙ c.in_ok-x.was) c.if-x-lt256.true

pub returns-else-x-lt256 : goal.returns-else-x-lt256
returns-else-x-lt256 c = small-above c.args.field.now (sym c.decimal.ensures ∙ c.in_ok-x.was) c.if-x-lt256.false
