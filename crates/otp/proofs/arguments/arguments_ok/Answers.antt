use Rattle.otp.specs.Password.{arguments_ok}
use Rattle.otp.proofs.arguments.arguments_ok.Goals as goal

pub returns : goal.returns
unfolding arguments_ok
returns c = rw (c.is_some.ensures, c.is_some-2.ensures, c.is_below.ensures, c.challenge_ok.ensures)
