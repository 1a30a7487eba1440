use Rattle.row.specs.Row.{track_ok}
use Rattle.row.proofs.ranges.track_ok.Goals as goal

pub returns : goal.returns
unfolding track_ok
returns c = rw (c.kind_ok.ensures, c.period_ok.ensures, c.next_ok.ensures, c.offset_ok.ensures)
