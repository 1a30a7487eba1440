use Rattle.std.proofs.Common.{append-nil}
use Rattle.call_lines.specs.Line.{code_text, values_text, answer_text}
use Rattle.call_lines.proofs.printing.answer_text.Goals as goal

pub put_content-requires : goal.put_content-requires
unfolding code_text
put_content-requires c = rw c.code_text-code.ensures

pub returns-in-Ok : goal.returns-in-Ok
unfolding answer_text
returns-in-Ok c = rw (c.put_content.ensures, c.code_text-code.ensures, c.number_of.ensures, c.in-Ok.is)

pub returns-in-Err : goal.returns-in-Err
unfolding answer_text values_text
returns-in-Err c = rw (c.code_text-code.ensures, c.number_of.ensures, c.in-Err.is, append-nil)
