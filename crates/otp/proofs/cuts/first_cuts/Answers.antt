use Rattle.otp.specs.StepCutsLaws.{lane_cuts}
use Rattle.otp.specs.Chain.{prepared}
use Rattle.otp.proofs.cuts.first_cuts.Goals as goal

pub returns-clause-value : goal.returns-clause-value
returns-clause-value g c = lane_cuts (prepared c.args.key.now) c.args.timed g.row.N c.args.s c.blocks_from.ensures c.first_each.ensures.value c.cuts_of.ensures
