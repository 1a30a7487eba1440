use Rattle.text.specs.Text.{decimal_of}
use Rattle.call_lines.specs.LineLaws.{number-is}
use Rattle.call_lines.proofs.reading.number_at.Goals as goal

pub returns : goal.returns
returns c = rw (c.decimal.ensures, ← c.field.ensures) (number-is (decimal_of c.field.result.now))
