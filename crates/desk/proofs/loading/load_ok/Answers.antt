use Rattle.std.proofs.Common.{arith}
use Rattle.desk.proofs.LoadLaws.{long-key-bad, load-tested}
use Rattle.desk.proofs.loading.load_ok.Goals as goal

-- the serial's type bounds it

pub returns-then-key-gt-KEY_BYTES : goal.returns-then-key-gt-KEY_BYTES
returns-then-key-gt-KEY_BYTES c = long-key-bad c.args.particulars c.args.key.now c.if-key-gt-KEY_BYTES.true

pub returns : goal.returns
returns c =
    load-tested c.args.particulars c.args.key.now (omega (arith, c.well_formed)) c.loaded_row.ensures c.numbers_ok.ensures
