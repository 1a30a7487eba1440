use Rattle.std.proofs.Common.{ap}
use Rattle.std.proofs.Math.Path.{◌∙◌}
use Rattle.words.specs.Bytes.{swap_bytes}
use Rattle.words.specs.SwapLaws.{swap_le}
use Rattle.words.proofs.bytes.be_eight.Goals as goal

pub returns : goal.returns
returns c = c.swapped.ensures ∙ ap (swap_bytes 8) c.le_eight.ensures ∙ swap_le 8 c.args.s.now c.args.at (λ i. (c.type_inv.s i).fits)
