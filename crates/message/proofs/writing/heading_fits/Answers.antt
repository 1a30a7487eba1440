use Rattle.message.proofs.LendingLaws.{heading_tests}
use Rattle.message.proofs.writing.heading_fits.Goals as goal

pub returns : goal.returns
returns c = heading_tests c.args.heading c.is_named.ensures
