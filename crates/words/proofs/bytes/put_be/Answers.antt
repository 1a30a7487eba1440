use Rattle.std.proofs.Common.{sym, ◌∙◌}
use Rattle.words.specs.BytesLaws.{put_be-last, put_be-none}
use Rattle.words.proofs.bytes.put_be.Goals as goal

pub loop-i-preserved : goal.loop-i-preserved
loop-i-preserved c = sym (put_be-last c.loop-i.i c.loop-i.s c.args.at c.loop-i.rest c.loop-i-test.true) ∙ c.loop-i.invariant

pub returns : goal.returns
returns c = sym (put_be-none c.loop-i.i c.loop-i.s c.args.at c.loop-i.rest c.loop-i-test.false) ∙ c.loop-i.invariant
