use Rattle.std.proofs.Common.{sym, ◌∙◌}
use Rattle.std.proofs.lemmas.Result.{err_from_is_err_and}
use Rattle.text.specs.TextLaws.{hex_decoded}
use Rattle.call_lines.specs.Line.{challenge_line}
use Rattle.call_lines.specs.GivenLaws.{option-given, option-refused}
use Rattle.call_lines.specs.LineLaws.{read-call, challenge-bad}
use Rattle.call_lines.proofs.calls.challenge_line.Goals as goal

pub returns-in_err-challenge : goal.returns-in_err-challenge
returns-in_err-challenge c =
    let p = err_from_is_err_and c.from_residual.result c.from_residual.ensures.1 in
    let refused = option-refused c.hex.result c.ok_or.ensures.value (c.in_err-challenge.was) in
    rw (p.1, p.2, refused.1) (challenge-bad _ _ _ _ _ (rw (← c.field.ensures) (sym c.hex.ensures ∙ refused.0)))

pub returns : goal.returns
unfolding challenge_line
returns c =
    let challenge = option-given c.hex.result c.ok_or.ensures.value (c.in_ok-challenge.was) in
    let h = hex_decoded c.field.result.now (sym c.hex.ensures ∙ challenge) in
    read-call _ _ c.challenge_login.ensures (rw (← c.field.ensures, h.0, c.as_slice.ensures, c.field-2.ensures))
