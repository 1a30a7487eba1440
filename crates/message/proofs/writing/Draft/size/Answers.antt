use Rattle.std.proofs.Common.{arith}
use Rattle.message.proofs.LayingLaws.{draft-size}
use Rattle.message.proofs.writing.Draft.size.Goals as goal

pub returns-clause-value : goal.returns-clause-value
returns-clause-value c = let size = draft-size c.self.invariant in rw (← c.self.view_is) (omega arith)
