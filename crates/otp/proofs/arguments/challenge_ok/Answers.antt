use Rattle.otp.specs.Password.{challenge_ok}
use Rattle.otp.proofs.arguments.challenge_ok.Goals as goal

pub returns : goal.returns
unfolding challenge_ok
returns c = rw c.within.ensures
