use Rattle.std.proofs.Common.{sym, ◌∙◌}
use Rattle.otp.specs.StepLaws.{number-used, number-idle}
use Rattle.otp.proofs.steps.Steps.number.Goals as goal

pub returns-then-self-l : goal.returns-then-self-l
returns-then-self-l c = number-idle _ _ _ _ c.if-self-l.true

pub returns : goal.returns
returns c =
    c.id_number.ensures ∙ sym (number-used c.args.self.timed c.args.self.first c.args.self.count c.args.l c.if-self-l.false)
