use Rattle.std.proofs.Common.{◌∙◌}
use Rattle.message_calls.proofs.FindingLaws.{found-has}
use Rattle.message_calls.proofs.items.has.Goals as goal

pub returns : goal.returns
returns c = c.is_some.ensures ∙ found-has c.args.id _ c.content.result c.content.ensures
