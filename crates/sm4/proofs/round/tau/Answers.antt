use Rattle.sm4.specs.EncryptLaws.{tau-sum}
use Rattle.sm4.proofs.round.tau.Goals as goal

pub returns : goal.returns
returns c = tau-sum c.args.x c.to_be_bytes.ensures c.substitute.ensures c.substitute-2.ensures c.substitute-3.ensures c.substitute-4.ensures
