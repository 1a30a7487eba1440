use Rattle.row.specs.WriteLaws.{row_written}
use Rattle.row.proofs.storing.write_row.Goals as goal

pub returns : goal.returns
returns c =
    row_written c.args.table.now c.args.at c.requires.row_bytes_in_bounds c.args.row c.args.key.now c.requires.key_len_bound c.write_head.ensures c.write_key.ensures c.write_steps.ensures c.write_times.ensures
