use Rattle.std.proofs.Math.Path.{◌∙◌}
use Rattle.desk.specs.Requests.{challenge_given}
use Rattle.desk.proofs.ServingLaws.{challenge_unasked}
use Rattle.desk.proofs.serving.challenge_fits.Goals as goal

pub returns-in_default : goal.returns-in_default
returns-in_default c =
    c.challenge_ok.ensures ∙ challenge_unasked c.args.request _ c.in_default.not-ChallengeLogin

pub returns : goal.returns
unfolding challenge_given
returns c = rw (c.in-ChallengeLogin.is, ← c.challenge_ok-2.ensures)
