use Rattle.std.proofs.Common.{◌∙◌}
use Rattle.otp_lines.specs.FeedLaws.{pending-long}
use Rattle.otp_lines.proofs.pending.put_pending.Goals as goal

pub returns-in-None-clause-put : goal.returns-in-None-clause-put
returns-in-None-clause-put c = λ p h. pending-long c.args.out.now c.args.at p (c.in-None.ensures.value ∙ h) c.put.ensures
