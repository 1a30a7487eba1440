use Rattle.std.proofs.Common.{◌∙◌, rules}
use Rattle.sm3.specs.Sm3Laws.{compress_of, reached_on}
use Rattle.sm3.proofs.compress.compress.Goals as goal

pub returns : goal.returns
returns c = c.xored.ensures ∙ compress_of (search rules) c.load-w.ensures (reached_on c.rounds-early.ensures c.rounds-late.ensures)
