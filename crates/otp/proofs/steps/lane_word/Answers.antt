use Rattle.std.proofs.Common.{◌∙◌}
use Rattle.otp.proofs.steps.lane_word.Goals as goal

pub returns : goal.returns
returns c = c.span_word.ensures ∙ rw c.number.ensures
