use Rattle.row.specs.FindLaws.{found-empty}
use Rattle.row.proofs.finding.find_empty.Goals as goal

pub returns : goal.returns
returns c = found-empty _ _ c.first_of.ensures
