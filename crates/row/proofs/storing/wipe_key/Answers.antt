use Rattle.row.specs.WriteLaws.{key_wiped}
use Rattle.row.proofs.storing.wipe_key.Goals as goal

pub returns : goal.returns
returns c =
    key_wiped c.args.table.now c.args.at (c.requires) c.clear.ensures
