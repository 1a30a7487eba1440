use Rattle.call_lines.specs.Line.{code_text}
use Rattle.call_lines.proofs.printing.code_text.Goals as goal

pub returns : goal.returns
unfolding code_text
returns c = rw (c.with.ensures, c.new-nothing.ensures, c.hex_digit.ensures, c.hex_digit-2.ensures, c.hex_digit-3.ensures, c.hex_digit-4.ensures)
