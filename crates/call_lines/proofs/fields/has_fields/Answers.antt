use Rattle.text.specs.Text.{fields_of}
use Rattle.call_lines.specs.FieldsLaws.{last-test}
use Rattle.call_lines.proofs.fields.has_fields.Goals as goal

pub returns-in-Some : goal.returns-in-Some
returns-in-Some c =
    last-test (fields_of c.args.line.now) c.args.n _ _ c.first_field.result.1 c.is_none.result c.requires.n_positive c.in-Some.ensures.there c.first_field.ensures.last
    c.first_field.ensures.more c.is_none.ensures
