use Rattle.capi.specs.DeskLeftLaws.{left-plain}
use Rattle.capi.proofs.desk_calls.dl_void.Goals as goal

pub returns : goal.returns
returns c = left-plain _ _ c.void.ensures c.number_of.ensures
