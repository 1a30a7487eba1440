use Rattle.token.specs.StatesLaws.{wait-elsewhere, wait-before, wait-counted}
use Rattle.token.proofs.states.wait_over.Goals as goal

pub returns-then-row-ne-LOCKED_BY_ERRORS : goal.returns-then-row-ne-LOCKED_BY_ERRORS
returns-then-row-ne-LOCKED_BY_ERRORS c = wait-elsewhere c.args.row c.args.clock.0 c.if-row-ne-LOCKED_BY_ERRORS.true

pub returns-then-clock-row : goal.returns-then-clock-row
returns-then-clock-row c = wait-before c.args.row c.args.clock.0 c.if-clock-row.true

pub returns : goal.returns
returns c =
    wait-counted c.args.row c.args.clock.0 c.if-row-ne-LOCKED_BY_ERRORS.false c.if-clock-row.false
