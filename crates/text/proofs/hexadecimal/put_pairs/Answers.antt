use Rattle.std.proofs.Common.{rules}
use Rattle.text.specs.HexLaws.{putting_none, putting_more, putting_end}
use Rattle.text.proofs.hexadecimal.put_pairs.Goals as goal

pub loop-i-preserved : goal.loop-i-preserved
loop-i-preserved c = putting_more _ _ c.requires _ _ c.loop-i.invariant (search rules) c.digit.ensures c.digit-in-loop-i.ensures

pub returns : goal.returns
returns c = putting_end _ _ c.requires _ _ c.loop-i.invariant (search rules)
