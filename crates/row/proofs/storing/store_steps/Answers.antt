use Rattle.std.proofs.Math.Path.{◌∙◌}
use Rattle.row.proofs.storing.store_steps.Goals as goal

pub returns : goal.returns
returns c = c.renew_two.ensures ∙ rw c.renew_eight.ensures
