use Rattle.std.proofs.Common.{sym, ◌∙◌}
use Rattle.std.proofs.lemmas.Result.{err_from_is_err_and}
use Rattle.text.specs.TextLaws.{hex_decoded}
use Rattle.call_lines.specs.Line.{load_line}
use Rattle.call_lines.specs.GivenLaws.{option-given, option-refused}
use Rattle.call_lines.specs.LineLaws.{read_none, read-call, load-bad}
use Rattle.call_lines.proofs.calls.load_line.Goals as goal

pub returns-in_err-particulars : goal.returns-in_err-particulars
unfolding load_line
returns-in_err-particulars c =
    let p = err_from_is_err_and c.from_residual.result c.from_residual.ensures.1 in
    let refused = option-refused c.particulars_of.result c.ok_or.ensures.value (c.in_err-particulars.was) in
    rw (p.1, p.2, refused.1) (read_none _ _ (rw (← c.particulars_of.ensures, refused.0)))

pub returns-in_err-key : goal.returns-in_err-key
returns-in_err-key c =
    let p = err_from_is_err_and c.from_residual-in_err-key.result c.from_residual-in_err-key.ensures.1 in
    let particulars = option-given c.particulars_of.result c.ok_or.ensures.value (c.in_ok-particulars.was) in
    let refused = option-refused c.hex.result c.ok_or-2.ensures.value (c.in_err-key.was) in
    rw (p.1, p.2, refused.1) (load-bad _ _ _ _ _ (sym c.particulars_of.ensures ∙ particulars) (rw (← c.field.ensures) (sym c.hex.ensures ∙ refused.0)))

pub returns : goal.returns
unfolding load_line
returns c =
    let particulars = option-given c.particulars_of.result c.ok_or.ensures.value (c.in_ok-particulars.was) in
    let key = option-given c.hex.result c.ok_or-2.ensures.value (c.in_ok-key.was) in
    let h = hex_decoded c.field.result.now (sym c.hex.ensures ∙ key) in
    read-call _ _ c.load.ensures (rw (← c.particulars_of.ensures, particulars, ← c.field.ensures, h.0, c.as_slice.ensures))
