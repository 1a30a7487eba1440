use Rattle.std.proofs.Common.{arith, ◌-◌, length-append}
use mathlib.Core.List.{append_assoc}
use Rattle.window.specs.Window.{farthest}
use Rattle.call_lines.specs.PrintingLaws.{decimal_few, offset-plus, offset-minus}
use Rattle.call_lines.proofs.printing.put_offset.Goals as goal

pub put_number-requires : goal.put_number-requires
put_number-requires c = let few = decimal_few 4 (c.args.offset.0 - farthest) (omega arith) in omega arith

pub returns-then-held-ge-FARTHEST : goal.returns-then-held-ge-FARTHEST
returns-then-held-ge-FARTHEST c = rw (← offset-plus c.args.offset c.if-held-ge-FARTHEST.true) c.put_number.ensures

pub put_decimal-requires : goal.put_decimal-requires
put_decimal-requires c = let few = decimal_few 2 (farthest - c.args.offset.0) (omega arith) in rw (c.with.ensures, length-append) (omega arith)

pub returns : goal.returns
returns c = rw (c.put_decimal.ensures, c.with.ensures, ← offset-minus c.args.offset c.if-held-ge-FARTHEST.false, append_assoc)
