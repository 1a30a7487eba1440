use Rattle.std.proofs.Common.{arith, length-set}
use Rattle.row.specs.WriteLaws.{head-written}
use Rattle.row.proofs.storing.write_head.Goals as goal

pub returns : goal.returns
returns c =
    head-written c.args.table.now c.args.at (c.requires) c.args.row c.put_be.ensures
