use Rattle.std.proofs.Common.{◌∙◌, arith}
use Rattle.words.specs.WordsLaws.{rotate-is}
use Rattle.words.proofs.word.rotate_left.Goals as goal

pub returns : goal.returns
returns c = c.rotate_left.ensures ∙ rotate-is c.args.x c.args.n (omega arith) (omega arith) (omega arith) (omega arith)
