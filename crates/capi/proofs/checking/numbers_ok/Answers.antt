use Rattle.capi.specs.Checked.{check_numbers_ok}
use Rattle.capi.proofs.checking.numbers_ok.Goals as goal

pub returns : goal.returns
unfolding check_numbers_ok
returns c = rw (c.in_range.ensures, c.track_ok.ensures)
