use Rattle.std.proofs.Common.{rules}
use Rattle.message.proofs.reading.framed_read.Goals as goal

pub returns-in_err-framed : goal.returns-in_err-framed
returns-in_err-framed c = search rules

pub returns : goal.returns
returns c = search rules
