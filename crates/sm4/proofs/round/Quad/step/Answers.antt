use Rattle.sm4.specs.Sm4.{round, step}
use Rattle.sm4.proofs.round.Quad.step.Goals as goal

pub returns : goal.returns
unfolding step round
returns g c = rw (← c.tau.ensures, ← c.mixed.ensures)
