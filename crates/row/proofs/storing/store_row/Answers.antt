use Rattle.std.proofs.Math.Path.{◌∙◌}
use Rattle.row.specs.Table.{store_row}
use Rattle.row.proofs.storing.store_row.Goals as goal

pub returns : goal.returns
unfolding store_row
returns c =
    c.store_readings.ensures ∙ rw (c.store_steps.ensures, c.renew_byte-2.ensures, c.renew_byte.ensures)
