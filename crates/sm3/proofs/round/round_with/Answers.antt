use Rattle.sm3.specs.Sm3.{round_with}
use Rattle.sm3.proofs.round.round_with.Goals as goal

pub returns : goal.returns
unfolding round_with
returns c = cc
