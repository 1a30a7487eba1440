use Rattle.std.proofs.Common.{rules}
use Rattle.message.proofs.ReadingLaws.{read-said}
use Rattle.message.proofs.reading.read_message.Goals as goal

pub returns-in_err-framed : goal.returns-in_err-framed
returns-in_err-framed c = rw (read-said, ← c.framed_read.ensures) (search rules)

pub returns : goal.returns
returns c = rw (read-said, ← c.framed_read.ensures) (search rules)
