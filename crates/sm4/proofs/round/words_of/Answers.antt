use Rattle.sm4.specs.Sm4.{words_of}
use Rattle.sm4.proofs.round.words_of.Goals as goal

pub returns : goal.returns
unfolding words_of
returns c = cc
