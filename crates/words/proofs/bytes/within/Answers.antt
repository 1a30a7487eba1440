use Rattle.std.proofs.Common.{sym, ◌∙◌}
use Rattle.words.specs.ListsLaws.{within_more, within_end}
use Rattle.words.proofs.bytes.within.Goals as goal

pub loop-b-preserved : goal.loop-b-preserved
loop-b-preserved c =
    sym (within_more c.args.low c.args.high c.args.s.now c.loop-b.b-index c.loop-b.clean c.loop-b-test.true) ∙ c.loop-b.invariant

pub returns : goal.returns
returns c = sym (within_end c.args.low c.args.high c.args.s.now c.loop-b.b-index c.loop-b.clean c.loop-b-test.false) ∙ c.loop-b.invariant
