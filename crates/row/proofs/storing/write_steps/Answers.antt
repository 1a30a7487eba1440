use Rattle.row.specs.WriteLaws.{steps-written}
use Rattle.row.proofs.storing.write_steps.Goals as goal

pub returns : goal.returns
returns c =
    steps-written c.args.table.now c.args.at (c.requires) c.args.row c.store_steps.ensures c.clear.ensures
