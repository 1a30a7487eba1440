use Rattle.std.proofs.Common.{refl, ◌∙◌}
use Rattle.password_lines.specs.LineLaws.{field-then, line-six, line_other, line_more}
use Rattle.password_lines.proofs.password_of.Goals as goal

pub returns-in_err-rest : goal.returns-in_err-rest
returns-in_err-rest c =
    let first = rw c.in_err-rest.was at c.first_field.ensures.last in
    rw c.from_residual.ensures (line_other c.args.line.now (first) refl)

pub returns-in_err-rest-2 : goal.returns-in_err-rest-2
returns-in_err-rest-2 c =
    let first = rw c.in_ok-rest.was at c.first_field.ensures.more in
    let second = rw c.in_err-rest-2.was at c.first_field-2.ensures.last in
    rw c.from_residual-in_err-rest-2.ensures (line_other c.args.line.now (field-then first second) refl)

pub returns-in_err-rest-3 : goal.returns-in_err-rest-3
returns-in_err-rest-3 c =
    let first = rw c.in_ok-rest.was at c.first_field.ensures.more in
    let second = rw c.in_ok-rest-2.was at c.first_field-2.ensures.more in
    let third = rw c.in_err-rest-3.was at c.first_field-3.ensures.last in
    rw c.from_residual-in_err-rest-3.ensures (line_other c.args.line.now (field-then first (field-then second third)) refl)

pub returns-in_err-rest-4 : goal.returns-in_err-rest-4
returns-in_err-rest-4 c =
    let first = rw c.in_ok-rest.was at c.first_field.ensures.more in
    let second = rw c.in_ok-rest-2.was at c.first_field-2.ensures.more in
    let third = rw c.in_ok-rest-3.was at c.first_field-3.ensures.more in
    let fourth = rw c.in_err-rest-4.was at c.first_field-4.ensures.last in
    rw c.from_residual-in_err-rest-4.ensures (line_other c.args.line.now (field-then first (field-then second (field-then third fourth))) refl)

pub returns-in_err-rest-5 : goal.returns-in_err-rest-5
returns-in_err-rest-5 c =
    let first = rw c.in_ok-rest.was at c.first_field.ensures.more in
    let second = rw c.in_ok-rest-2.was at c.first_field-2.ensures.more in
    let third = rw c.in_ok-rest-3.was at c.first_field-3.ensures.more in
    let fourth = rw c.in_ok-rest-4.was at c.first_field-4.ensures.more in
    let fifth = rw c.in_err-rest-5.was at c.first_field-5.ensures.last in
    rw c.from_residual-in_err-rest-5.ensures (line_other c.args.line.now (field-then first (field-then second (field-then third (field-then fourth fifth)))) refl)

pub returns-in-Some : goal.returns-in-Some
returns-in-Some c =
    let first = rw c.in_ok-rest.was at c.first_field.ensures.more in
    let second = rw c.in_ok-rest-2.was at c.first_field-2.ensures.more in
    let third = rw c.in_ok-rest-3.was at c.first_field-3.ensures.more in
    let fourth = rw c.in_ok-rest-4.was at c.first_field-4.ensures.more in
    let fifth = rw c.in_ok-rest-5.was at c.first_field-5.ensures.more in
    let sixth = rw c.in-Some.is at c.first_field-6.ensures.more in
    line_more c.args.line.now _ (field-then first (field-then second (field-then third (field-then fourth (field-then fifth sixth)))))

pub returns-in-None : goal.returns-in-None
returns-in-None c =
    let first = rw c.in_ok-rest.was at c.first_field.ensures.more in
    let second = rw c.in_ok-rest-2.was at c.first_field-2.ensures.more in
    let third = rw c.in_ok-rest-3.was at c.first_field-3.ensures.more in
    let fourth = rw c.in_ok-rest-4.was at c.first_field-4.ensures.more in
    let fifth = rw c.in_ok-rest-5.was at c.first_field-5.ensures.more in
    let sixth = rw c.in-None.is at c.first_field-6.ensures.last in
    c.fields_answer.ensures ∙ line-six c.args.line.now (field-then first (field-then second (field-then third (field-then fourth (field-then fifth sixth)))))
