use Rattle.text.specs.FieldLaws.{first-last, first-comma}
use Rattle.text.proofs.fields.first_field.Goals as goal

pub returns-then-end-line : goal.returns-then-end-line
returns-then-end-line c = record { last = first-last c.args.line.now c.find-end.ensures.value c.if-end-line.true; more = tt }

pub returns : goal.returns
returns c = record { last = tt; more = first-comma c.args.line.now c.find-end.ensures.value c.if-end-line.false c.find-end.ensures.upper_bound }
