use Rattle.std.proofs.Common.{sym, ◌∙◌, arith}
use Rattle.password_lines.specs.LineLaws.{factor_absent, factor_bad, factor_within, factor_above}
use Rattle.password_lines.proofs.fields.factor_field.Goals as goal

pub returns-then-field-eq0 : goal.returns-then-field-eq0
returns-then-field-eq0 c = factor_absent _ c.args.field.now c.if-field-eq0.true

pub returns-in_err-x : goal.returns-in_err-x
returns-in_err-x c = c.from_residual.ensures ∙ factor_bad c.args.most (omega arith) c.args.field.now c.if-field-eq0.false (sym c.decimal.ensures ∙ c.in_err-x.was)

pub returns-then-x-most : goal.returns-then-x-most
returns-then-x-most c = factor_within c.args.most (omega arith) c.args.field.now c.if-field-eq0.false (sym c.decimal.ensures ∙ c.in_ok-x.was) c.if-x-most.true

pub returns-else-x-most : goal.returns-else-x-most
returns-else-x-most c = factor_above c.args.most (omega arith) c.args.field.now c.if-field-eq0.false (sym c.decimal.ensures ∙ c.in_ok-x.was) c.if-x-most.false
