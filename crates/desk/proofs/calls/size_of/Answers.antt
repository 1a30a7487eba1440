use borrow.Author.Tests.{eq-eqb, ne_eqb}
use Rattle.desk.proofs.calls.size_of.Goals as goal

pub returns : goal.returns
returns c = rw (ne_eqb c.args.choice 1 c.if-choice-eq1.false)
