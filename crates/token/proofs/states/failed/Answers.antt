use Rattle.std.specs.Prelude.{refl}
use Rattle.token.specs.StatesLaws.{failed-locks, failed-stays}
use Rattle.token.proofs.states.failed.Goals as goal

pub returns-then-locks-row : goal.returns-then-locks-row
returns-then-locks-row c = failed-locks _ _ _ c.errors_after-errors.ensures c.if-locks-row.true refl

pub returns : goal.returns
returns c = failed-stays _ _ _ c.errors_after-errors.ensures c.if-locks-row.false refl
