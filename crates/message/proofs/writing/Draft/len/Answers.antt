use Rattle.std.proofs.Common.{sym}
use Rattle.message.proofs.WritableLaws.{length-message}
use Rattle.message.proofs.writing.Draft.len.Goals as goal

pub returns : goal.returns
returns c = rw (c.head_length.ensures, c.size.ensures.value, ← c.self.view_is) (sym (length-message _))
