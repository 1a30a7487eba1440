use Rattle.text.specs.Text.{digit_value}
use Rattle.text.proofs.digit.digit.Goals as goal

pub returns : goal.returns
unfolding digit_value
returns c =
    rw (c.pick.ensures, c.saturating_sub-3.ensures, c.pick-letter.ensures, c.saturating_sub-2.ensures, c.pick-lower.ensures, c.saturating_sub.ensures)
