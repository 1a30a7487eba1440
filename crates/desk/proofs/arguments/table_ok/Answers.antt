use Rattle.std.specs.Prelude.{refl}
use Rattle.desk.specs.Requests.{table_ok}
use Rattle.desk.proofs.arguments.table_ok.Goals as goal

pub returns : goal.returns
unfolding table_ok
returns c = refl
