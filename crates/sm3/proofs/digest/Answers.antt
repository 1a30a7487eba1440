use Rattle.sm3.specs.Sm3Laws.{digest_of}
use Rattle.sm3.proofs.digest.Goals as goal

pub returns : goal.returns
returns c =
    digest_of c.args.r c.put_be.ensures c.put_be-2.ensures c.put_be-3.ensures c.put_be-4.ensures c.put_be-5.ensures c.put_be-6.ensures c.put_be-7.ensures c.put_be-8.ensures
