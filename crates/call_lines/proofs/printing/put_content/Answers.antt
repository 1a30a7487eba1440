use Rattle.std.proofs.Common.{arith, length-append, append-nil}
use mathlib.Core.List.{append_assoc}
use Rattle.token.specs.Codes.{values_of}
use Rattle.call_lines.specs.Line.{values_text}
use Rattle.call_lines.specs.PrintingLaws.{decimal_few}
use Rattle.call_lines.proofs.printing.put_content.Goals as goal

pub put_number-requires : goal.put_number-requires
put_number-requires c = let few = decimal_few 19 c.in-Checked.step.0 (omega arith) in omega arith

pub put_offset-requires : goal.put_offset-requires
put_offset-requires c = let few = decimal_few 19 c.in-Checked.step.0 (omega arith) in rw (c.put_number.ensures, length-append) (omega arith)

pub put_number-state-requires : goal.put_number-state-requires
put_number-state-requires c = let few = decimal_few 2 c.in-Queried.status.state (omega arith) in omega arith

pub put_number-errors-requires : goal.put_number-errors-requires
put_number-errors-requires c =
    let few = decimal_few 2 c.in-Queried.status.state (omega arith) in
    let more = decimal_few 2 c.in-Queried.status.errors (omega arith) in
    rw (c.put_number-state.ensures, length-append) (omega arith)

pub put_number-requires-in-Queried : goal.put_number-requires-in-Queried
put_number-requires-in-Queried c =
    let few = decimal_few 2 c.in-Queried.status.state (omega arith) in
    let more = decimal_few 2 c.in-Queried.status.errors (omega arith) in
    let most = decimal_few 19 c.in-Queried.status.last_use.0 (omega arith) in
    simp (c.put_number-errors.ensures, c.put_number-state.ensures, length-append) (omega arith)

pub returns-in-Plain : goal.returns-in-Plain
unfolding values_of values_text
returns-in-Plain c = rw (c.in-Plain.is, append-nil)

pub returns-in-Checked : goal.returns-in-Checked
unfolding values_of values_text
returns-in-Checked c = simp (c.in-Checked.is, c.put_offset.ensures, c.put_number.ensures, append_assoc, append-nil)

pub returns-in-Queried : goal.returns-in-Queried
unfolding values_of values_text
returns-in-Queried c = simp (c.in-Queried.is, c.put_number-in-Queried.ensures, c.put_number-errors.ensures, c.put_number-state.ensures, append_assoc, append-nil)
