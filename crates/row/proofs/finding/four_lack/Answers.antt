use Rattle.row.specs.FindLaws.{few-left, four-left}
use Rattle.row.proofs.finding.four_lack.Goals as goal

pub returns-then-table-at : goal.returns-then-table-at
returns-then-table-at c = few-left c.args.width c.args.table.now c.args.wanted c.args.at c.if-table-at.true

pub returns : goal.returns
returns c =
    four-left c.args.width c.args.table.now c.args.wanted c.args.at c.if-table-at.false c.serial_is.ensures c.serial_is-2.ensures c.serial_is-3.ensures c.serial_is-4.ensures
