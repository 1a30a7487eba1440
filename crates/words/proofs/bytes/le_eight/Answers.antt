use Rattle.std.proofs.Common.{◌∙◌}
use Rattle.words.specs.SwapLaws.{le-eight}
use Rattle.words.proofs.bytes.le_eight.Goals as goal

pub returns : goal.returns
returns c = c.from_le_bytes.ensures ∙ le-eight c.args.s.now c.args.at
