use Rattle.std.proofs.Common.{arith}
use Rattle.text.specs.Text.{fields_of}
use Rattle.call_lines.specs.FieldsLaws.{next-fields, count-is}
use Rattle.call_lines.proofs.fields.from_field.Goals as goal

pub loop-passed-preserved : goal.loop-passed-preserved
loop-passed-preserved c =
    next-fields (fields_of c.args.line.now) c.loop-passed._passed c.loop-passed.invariant (rw c.in_ok-rest.was at c.first_field.ensures.more)

pub returns-in_err-rest-clause-fewer : goal.returns-in_err-rest-clause-fewer
returns-in_err-rest-clause-fewer c =
    let m = c.loop-passed-test.true in
    let n = count-is (fields_of c.args.line.now) c.loop-passed._passed c.loop-passed.invariant (rw c.in_err-rest.was at c.first_field.ensures.last) in
    rw c.from_residual.ensures (omega arith)
