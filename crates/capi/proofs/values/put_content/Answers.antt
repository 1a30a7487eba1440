use Rattle.std.proofs.Common.{arith, length-set}
use Rattle.capi.specs.DeskLeftLaws.{plain-written, checked-written, queried-written}
use Rattle.capi.proofs.values.put_content.Goals as goal

pub returns-in-Plain : goal.returns-in-Plain
returns-in-Plain c = rw c.in-Plain.is (plain-written c.args.values.now)

pub returns-in-Checked : goal.returns-in-Checked
returns-in-Checked c =
    rw c.in-Checked.is (checked-written c.args.values.now (c.requires) c.in-Checked.step c.in-Checked.offset c.signed.ensures)

pub returns-in-Queried : goal.returns-in-Queried
returns-in-Queried c =
    rw c.in-Queried.is (queried-written c.args.values.now (c.requires) c.in-Queried.status)
