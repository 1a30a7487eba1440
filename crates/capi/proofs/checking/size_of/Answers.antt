use borrow.Author.Tests.{eq-eqb, ne_eqb}
use Rattle.capi.proofs.checking.size_of.Goals as goal

pub returns : goal.returns
returns c = rw (ne_eqb c.args.number 1 c.if-number-eq1.false, ne_eqb c.args.number 2 c.if-number-eq2.false)
