use Rattle.std.specs.Prelude.{refl}
use Rattle.token.specs.StatesLaws.{waited-out, waited_on}
use Rattle.token.proofs.states.waited.Goals as goal

pub returns-then-wait_over : goal.returns-then-wait_over
returns-then-wait_over c = waited-out c.args.row c.args.clock.0 c.wait_over.ensures c.if-wait_over.true refl

pub returns : goal.returns
returns c = waited_on c.args.row c.args.clock.0 c.wait_over.ensures c.if-wait_over.false
