use Rattle.text.specs.TextLaws.{decimal_range}
use Rattle.text.proofs.digit.is_decimal.Goals as goal

pub returns : goal.returns
returns c = decimal_range c.args.b
