use Rattle.sm4.specs.Sm4.{linear}
use Rattle.sm4.specs.EncryptLaws.{four-steps}
use Rattle.sm4.proofs.round.four_rounds.Goals as goal

pub returns : goal.returns
returns c = four-steps linear c.args.keys.now c.args.i c.args.q c.step.ensures c.step-2.ensures c.step-3.ensures c.step-4.ensures
