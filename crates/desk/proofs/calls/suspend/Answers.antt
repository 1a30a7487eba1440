use Rattle.std.specs.Prelude.{refl}
use Rattle.otp.specs.Password.{challenge_ok}
use Rattle.desk.specs.Requests.{request_ok}
use Rattle.desk.proofs.CallsLaws.{call-served}
use Rattle.desk.proofs.calls.suspend.Goals as goal

pub returns : goal.returns
unfolding request_ok challenge_ok
returns c = call-served _ _ _ _ _ refl refl c.serve.ensures
