use Rattle.row.specs.WriteLaws.{times_written}
use Rattle.row.proofs.storing.write_times.Goals as goal

pub returns : goal.returns
returns c =
    times_written c.args.table.now c.args.at (c.requires) c.args.row c.put_be.ensures c.put_be-2.ensures c.store_readings.ensures c.clear.ensures
