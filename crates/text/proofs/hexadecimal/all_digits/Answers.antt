use Rattle.std.proofs.Common.{sym, ◌∙◌, rules}
use Rattle.text.specs.HexLaws.{all-digits_more, all-digits-end}
use Rattle.text.proofs.hexadecimal.all_digits.Goals as goal

pub loop-b-preserved : goal.loop-b-preserved
loop-b-preserved c = sym (all-digits_more c.args.s.now c.loop-b.b-index c.loop-b.right (search rules) c.digit.ensures) ∙ c.loop-b.invariant

pub returns : goal.returns
returns c = sym (all-digits-end c.args.s.now c.loop-b.b-index c.loop-b.right (search rules)) ∙ c.loop-b.invariant
