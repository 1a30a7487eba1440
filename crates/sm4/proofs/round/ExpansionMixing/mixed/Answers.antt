use Rattle.sm4.specs.Sm4.{linear_key}
use Rattle.sm4.proofs.round.ExpansionMixing.mixed.Goals as goal

pub returns : goal.returns
unfolding linear_key
returns c = cc
