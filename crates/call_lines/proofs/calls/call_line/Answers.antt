use Rattle.std.proofs.lemmas.Result.{err_from_is_err_and}
use Rattle.call_lines.specs.Line.{fields_read}
use Rattle.call_lines.specs.GivenLaws.{option-given, option-refused}
use Rattle.call_lines.specs.LineLaws.{read_none, read_as}
use Rattle.call_lines.proofs.calls.call_line.Goals as goal

pub returns-in_err-name : goal.returns-in_err-name
unfolding fields_read
returns-in_err-name c =
    let p = err_from_is_err_and c.from_residual.result c.from_residual.ensures.1 in
    let refused = option-refused c.name_of.result c.ok_or.ensures.value (c.in_err-name.was) in
    rw (p.1, p.2, refused.1) (read_none _ _ (rw (← c.field.ensures, ← c.name_of.ensures, refused.0)))

pub returns-then-not-has_fields : goal.returns-then-not-has_fields
unfolding fields_read
returns-then-not-has_fields c =
    let name = option-given c.name_of.result c.ok_or.ensures.value (c.in_ok-name.was) in
    read_none _ _
    (rw (← c.field.ensures, ← c.name_of.ensures, name, ← c.count-count.ensures.value, ← c.has_fields.ensures, c.if-not-has_fields.true))

pub returns-in_err-serial : goal.returns-in_err-serial
unfolding fields_read
returns-in_err-serial c =
    let p = err_from_is_err_and c.from_residual-in_err-serial.result c.from_residual-in_err-serial.ensures.1 in
    let name = option-given c.name_of.result c.ok_or.ensures.value (c.in_ok-name.was) in
    let refused = option-refused c.number_at.result c.ok_or-2.ensures.value (c.in_err-serial.was) in
    rw (p.1, p.2, refused.1)
    (read_none _ _
    (rw (
      ← c.field.ensures,
      ← c.name_of.ensures,
      name,
      ← c.count-count.ensures.value,
      ← c.has_fields.ensures,
      c.if-not-has_fields.false,
      ← c.number_at.ensures,
      refused.0,
    )))

pub returns-in_err-clock : goal.returns-in_err-clock
unfolding fields_read
returns-in_err-clock c =
    let p = err_from_is_err_and c.from_residual-in_err-clock.result c.from_residual-in_err-clock.ensures.1 in
    let name = option-given c.name_of.result c.ok_or.ensures.value (c.in_ok-name.was) in
    let serial = option-given c.number_at.result c.ok_or-2.ensures.value (c.in_ok-serial.was) in
    let refused = option-refused c.number_at-2.result c.ok_or-3.ensures.value (c.in_err-clock.was) in
    rw (p.1, p.2, refused.1)
    (read_none _ _
    (rw (
      ← c.field.ensures,
      ← c.name_of.ensures,
      name,
      ← c.count-count.ensures.value,
      ← c.has_fields.ensures,
      c.if-not-has_fields.false,
      ← c.number_at.ensures,
      serial,
      ← c.number_at-2.ensures,
      refused.0,
    )))

pub returns : goal.returns
unfolding fields_read
returns c =
    let name = option-given c.name_of.result c.ok_or.ensures.value (c.in_ok-name.was) in
    let serial = option-given c.number_at.result c.ok_or-2.ensures.value (c.in_ok-serial.was) in
    let clock = option-given c.number_at-2.result c.ok_or-3.ensures.value (c.in_ok-clock.was) in
    read_as _ _ c.named_line.ensures
    (rw (
      ← c.field.ensures,
      ← c.name_of.ensures,
      name,
      ← c.count-count.ensures.value,
      ← c.has_fields.ensures,
      c.if-not-has_fields.false,
      ← c.number_at.ensures,
      serial,
      ← c.number_at-2.ensures,
      clock,
    ))
