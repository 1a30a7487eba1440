use Rattle.std.proofs.Common.{sym, ◌∙◌}
use Rattle.password_lines.specs.LineLaws.{answer-bad-key, answer-bad-time, answer-bad-count, answer-bad-algorithm, answer-bad-digits, answer-read}
use Rattle.password_lines.proofs.fields.fields_answer.Goals as goal

pub returns-in_err-key : goal.returns-in_err-key
returns-in_err-key c = rw c.from_residual.ensures (answer-bad-key _ _ _ _ _ _ (sym c.hex.ensures ∙ c.in_err-key.was))

pub returns-in_err-t : goal.returns-in_err-t
returns-in_err-t c = rw c.from_residual-in_err-t.ensures (answer-bad-time _ _ _ _ _ _ (sym c.hex.ensures ∙ c.in_ok-key.was) (sym c.factor_field.ensures ∙ c.in_err-t.was))

pub returns-in_err-c : goal.returns-in_err-c
returns-in_err-c c = rw c.from_residual-in_err-c.ensures (answer-bad-count _ _ _ _ _ _ (sym c.hex.ensures ∙ c.in_ok-key.was) (sym c.factor_field.ensures ∙ c.in_ok-t.was) (sym c.factor_field-2.ensures ∙ c.in_err-c.was))

pub returns-in_err-a : goal.returns-in_err-a
returns-in_err-a c = rw c.from_residual-in_err-a.ensures (answer-bad-algorithm _ _ _ _ _ _ (sym c.hex.ensures ∙ c.in_ok-key.was) (sym c.factor_field.ensures ∙ c.in_ok-t.was) (sym c.factor_field-2.ensures ∙ c.in_ok-c.was) (sym c.small_field.ensures ∙ c.in_err-a.was))

pub returns-in_err-d : goal.returns-in_err-d
returns-in_err-d c = rw c.from_residual-in_err-d.ensures (answer-bad-digits _ _ _ _ _ _ (sym c.hex.ensures ∙ c.in_ok-key.was) (sym c.factor_field.ensures ∙ c.in_ok-t.was) (sym c.factor_field-2.ensures ∙ c.in_ok-c.was) (sym c.small_field.ensures ∙ c.in_ok-a.was) (sym c.small_field-2.ensures ∙ c.in_err-d.was))

pub returns : goal.returns
returns c =
    c.password_text.ensures ∙ rw c.as_slice.ensures (answer-read _ _ _ _ _ _ (sym c.hex.ensures ∙ c.in_ok-key.was) (sym c.factor_field.ensures ∙ c.in_ok-t.was) (sym c.factor_field-2.ensures ∙ c.in_ok-c.was) (sym c.small_field.ensures ∙ c.in_ok-a.was) (sym c.small_field-2.ensures ∙ c.in_ok-d.was))
