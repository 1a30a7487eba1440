use Rattle.std.specs.Prelude.{refl}
use Rattle.token.specs.StatesLaws.{accepted-by}
use Rattle.token.proofs.states.accepted.Goals as goal

pub returns : goal.returns
returns c = accepted-by _ _ _ c.track_after-track.ensures refl
