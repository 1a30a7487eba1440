use Rattle.std.specs.Prelude.{refl}
use Rattle.token.specs.StatesLaws.{with_state_lem}
use Rattle.token.proofs.states.with_state.Goals as goal

pub returns : goal.returns
returns c = with_state_lem _ _ c.locked_after.ensures refl
