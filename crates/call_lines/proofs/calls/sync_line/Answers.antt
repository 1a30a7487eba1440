use Rattle.std.proofs.lemmas.Result.{err_from_is_err_and}
use Rattle.call_lines.specs.Line.{sync_line}
use Rattle.call_lines.specs.GivenLaws.{option-given, option-refused}
use Rattle.call_lines.specs.LineLaws.{read_none, read-call}
use Rattle.call_lines.proofs.calls.sync_line.Goals as goal

pub returns-in_err-choice : goal.returns-in_err-choice
unfolding sync_line
returns-in_err-choice c =
    let p = err_from_is_err_and c.from_residual.result c.from_residual.ensures.1 in
    let refused = option-refused c.byte_at.result c.ok_or.ensures.value (c.in_err-choice.was) in
    rw (p.1, p.2, refused.1) (read_none _ _ (rw (← c.byte_at.ensures, refused.0)))

pub returns : goal.returns
unfolding sync_line
returns c =
    let choice = option-given c.byte_at.result c.ok_or.ensures.value (c.in_ok-choice.was) in
    read-call _ _ c.sync.ensures (rw (← c.byte_at.ensures, choice, c.field.ensures, c.field-2.ensures))
