use borrow.Author.Tests.{eq-eqb, ne_eqb}
use Rattle.capi.specs.Stored.{factor_of}
use Rattle.capi.proofs.factor.Goals as goal

pub returns-then-flag-eq0 : goal.returns-then-flag-eq0
unfolding factor_of
returns-then-flag-eq0 c = rw (eq-eqb c.args.flag 0 c.if-flag-eq0.true)

pub returns : goal.returns
unfolding factor_of
returns c = rw (ne_eqb c.args.flag 0 c.if-flag-eq0.false)
