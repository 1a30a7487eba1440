use Rattle.std.proofs.Common.{◌++◌}
use Rattle.sm3.specs.JoinedLaws.{last-four}
use Rattle.sm3.proofs.joined.last_word.Goals as goal

pub returns : goal.returns
returns c = last-four c.joined_value.result (c.args.head.now ++ c.args.body.now) c.joined_value.ensures
