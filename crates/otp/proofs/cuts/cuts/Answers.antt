use Rattle.otp.specs.StepCutsLaws.{lane_cuts}
use Rattle.otp.proofs.cuts.cuts.Goals as goal

pub returns : goal.returns
returns g c = lane_cuts c.args.keys.now c.args.timed g.row.N c.args.s c.blocks_from.ensures c.rounds_each.ensures c.cuts_of.ensures
