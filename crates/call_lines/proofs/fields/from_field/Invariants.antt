use Rattle.std.proofs.Common.{◌≡◌, drop}
use Rattle.text.specs.Text.{fields_of}
use Rattle.call_lines.proofs.fields.from_field.Given as goal

abbrev pub invariant-loop-passed : goal.invariant-loop-passed
invariant-loop-passed l = fields_of l.rest ≡ drop l._passed (fields_of l.line)
