use Rattle.otp.specs.StepLaws.{steps-put}
use Rattle.otp.proofs.steps.put_steps.Goals as goal

pub returns : goal.returns
returns c =
    steps-put c.args.at c.args.steps.timed c.args.steps.first c.args.steps.count _ _ _ _ c.put_word.ensures c.put_word-2.ensures c.put_word-3.ensures
