use Rattle.std.proofs.Common.{◌∙◌}
use Rattle.words.specs.SwapLaws.{swap-eight}
use Rattle.words.proofs.bytes.swapped.Goals as goal

pub returns : goal.returns
returns c = c.swap_bytes.ensures ∙ swap-eight c.args.x
