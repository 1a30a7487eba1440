use Rattle.sm3.specs.JoinedLaws.{join_of}
use Rattle.sm3.proofs.joined.join.Goals as goal

pub returns : goal.returns
returns c =
    join_of c.args.head.now c.args.body.now c.args.out.now c.copy.auto.out c.copy.ensures c.copy-2.ensures
