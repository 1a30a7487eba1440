use Rattle.std.proofs.Common.{sym, ◌∙◌, length-set, rules}
use Rattle.text.specs.HexLaws.{pairs_more, pairs_end}
use Rattle.text.proofs.hexadecimal.pairs_of.Goals as goal

pub loop-i-preserved : goal.loop-i-preserved
loop-i-preserved c = (rw length-set c.loop-i.invariant.0, pairs_more c.args.values c.loop-i.bytes c.loop-i.i (search rules) (search rules) ∙ c.loop-i.invariant.1)

pub returns : goal.returns
returns c = sym (pairs_end c.args.values c.loop-i.bytes c.loop-i.i (search rules) (search rules)) ∙ c.loop-i.invariant.1
