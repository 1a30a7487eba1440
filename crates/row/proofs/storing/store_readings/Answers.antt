use Rattle.std.proofs.Math.Path.{◌∙◌}
use Rattle.row.proofs.storing.store_readings.Goals as goal

pub returns : goal.returns
returns c = c.renew_eight-2.ensures ∙ rw c.renew_eight.ensures
