use Rattle.sm4.specs.EncryptLaws.{reversed-stored}
use Rattle.sm4.proofs.encryption.reversed.Goals as goal

pub returns : goal.returns
returns c =
    reversed-stored c.args.q c.put_be.ensures c.put_be-2.ensures c.put_be-3.ensures c.put_be-4.ensures
