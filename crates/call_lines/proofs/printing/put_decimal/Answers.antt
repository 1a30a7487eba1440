use Rattle.std.proofs.Common.{◌∙◌, lit<}
use Rattle.call_lines.specs.PrintingLaws.{stored_more, stored_last}
use Rattle.call_lines.proofs.printing.put_decimal.Goals as goal

pub loop-rest-preserved : goal.loop-rest-preserved
loop-rest-preserved c = stored_more c.args.x c.loop-rest.digits c.loop-rest.start c.loop-rest.rest c.loop-rest.invariant c.loop-rest-test.true

pub with-requires : goal.with-requires
with-requires c = (
  lit< tt,
  rw (stored_last c.args.x c.loop-rest.digits c.loop-rest.start c.loop-rest.rest c.loop-rest.invariant c.loop-rest-test.false) c.requires,
)

pub returns : goal.returns
returns c =
    c.with.ensures
    ∙ rw (stored_last c.args.x c.loop-rest.digits c.loop-rest.start c.loop-rest.rest c.loop-rest.invariant c.loop-rest-test.false)
