use Rattle.sm3.specs.Sm3.{next_word}
use Rattle.sm3.proofs.block.next_word.Goals as goal

pub returns : goal.returns
unfolding next_word
returns c = cc
