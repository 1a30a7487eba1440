use Rattle.std.proofs.lemmas.Result.{err_from_is_err_and}
use Rattle.call_lines.specs.Line.{message_line}
use Rattle.call_lines.specs.GivenLaws.{option-given, option-refused}
use Rattle.call_lines.specs.LineLaws.{read_none, read_as}
use Rattle.call_lines.specs.MessageLineLaws.{field_short}
use Rattle.call_lines.proofs.messages.message_line.Goals as goal

pub returns-then-not-has_fields : goal.returns-then-not-has_fields
unfolding message_line
returns-then-not-has_fields c = read_none _ _ (rw (← c.has_fields.ensures, c.if-not-has_fields.true))

pub returns-in_err-clock : goal.returns-in_err-clock
unfolding message_line
returns-in_err-clock c =
    let p = err_from_is_err_and c.from_residual.result c.from_residual.ensures.1 in
    let refused = option-refused c.number_at.result c.ok_or.ensures.value (c.in_err-clock.was) in
    rw (p.1, p.2, refused.1) (read_none _ _ (rw (← c.has_fields.ensures, c.if-not-has_fields.false, ← c.number_at.ensures, refused.0)))

pub message_in-requires : goal.message_in-requires
message_in-requires c = field_short c.args.line.now 1 c.requires c.field.ensures

pub returns : goal.returns
unfolding message_line
returns c =
    let clock = option-given c.number_at.result c.ok_or.ensures.value (c.in_ok-clock.was) in
    read_as _ _ c.message_in.ensures (rw (← c.has_fields.ensures, c.if-not-has_fields.false, ← c.number_at.ensures, clock, c.field.ensures))
