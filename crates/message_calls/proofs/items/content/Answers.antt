use Rattle.std.specs.Prelude.{refl}
use Rattle.message_calls.proofs.FindingLaws.{found-content}
use Rattle.message_calls.proofs.items.content.Goals as goal

pub returns : goal.returns
returns c = rw c.unwrap_or.ensures (found-content c.args.id _ c.content.result _ refl c.content.ensures)
