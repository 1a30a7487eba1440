use Rattle.capi.specs.DeskLeftLaws.{left-plain}
use Rattle.capi.proofs.desk_calls.dl_lock.Goals as goal

pub returns : goal.returns
returns c = left-plain _ _ c.lock.ensures c.number_of.ensures
