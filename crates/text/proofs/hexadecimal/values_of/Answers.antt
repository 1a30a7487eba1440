use Rattle.std.proofs.Common.{sym, ◌∙◌, length-set, rules}
use Rattle.text.specs.HexLaws.{values_more, values-end}
use Rattle.text.proofs.hexadecimal.values_of.Goals as goal

pub loop-i-preserved : goal.loop-i-preserved
loop-i-preserved c = (rw length-set c.loop-i.invariant.0, values_more c.args.digits c.loop-i.values c.loop-i.i (search rules) (search rules) c.digit.ensures ∙ c.loop-i.invariant.1)

pub returns : goal.returns
returns c = sym (values-end c.args.digits c.loop-i.values c.loop-i.i (search rules) (search rules)) ∙ c.loop-i.invariant.1
