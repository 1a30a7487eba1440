use Rattle.std.proofs.Common.{sym, ◌∙◌, rules}
use Rattle.text.specs.HexLaws.{all_more, all_end}
use Rattle.text.proofs.hexadecimal.all_hex.Goals as goal

pub loop-value-preserved : goal.loop-value-preserved
loop-value-preserved c = sym (all_more c.args.values c.loop-value.value-index c.loop-value.right (search rules)) ∙ c.loop-value.invariant

pub returns : goal.returns
returns c = sym (all_end c.args.values c.loop-value.value-index c.loop-value.right (search rules)) ∙ c.loop-value.invariant
