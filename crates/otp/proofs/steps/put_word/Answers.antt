use Rattle.otp.specs.StepLaws.{word-put}
use Rattle.otp.proofs.steps.put_word.Goals as goal

pub returns : goal.returns
returns c =
    word-put c.args.at c.args.steps.timed c.args.steps.first c.args.steps.count c.args.i _ _ c.lane_word-a.ensures c.lane_word-b.ensures c.lane_word-c.ensures c.lane_word-d.ensures c.put_four.ensures
