use Rattle.std.specs.Prelude.{refl}
use Rattle.row.specs.WriteLaws.{key-written}
use Rattle.row.proofs.storing.write_key.Goals as goal

pub returns : goal.returns
returns c =
    key-written c.args.table.now c.args.at c.requires.row_bytes_in_bounds c.args.key.now c.requires.key_len_bound c.copy.ensures refl c.clear.ensures
