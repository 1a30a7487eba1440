use Rattle.sm3_lanes.specs.MessageLaws.{added_none, added_more}
use Rattle.sm3_lanes.proofs.messages.add_block.Goals as goal

pub loop-j-init : goal.loop-j-init
loop-j-init c = added_none c.args.m.now c.args.w.now

pub loop-j-preserved : goal.loop-j-preserved
loop-j-preserved c = added_more _ _ _ _ _ c.loop-j-test.true c.loop-j.invariant c.word_at.ensures c.add_word.ensures
