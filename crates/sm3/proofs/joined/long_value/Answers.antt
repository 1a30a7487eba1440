use Rattle.sm3.specs.JoinedLaws.{rest-length, long_hash}
use Rattle.sm3.proofs.joined.long_value.Goals as goal

pub last_value-requires : goal.last_value-requires
last_value-requires c = record { len_bound = c.requires.body_len_bound; rest_len = rest-length c.args.head.now c.args.body.now c.requires.head_len_bound c.requires.in_bounds }

pub returns : goal.returns
returns c =
    long_hash c.args.head.now c.args.body.now c.requires.head_len_bound c.requires.in_bounds _ c.join.ensures c.start.ensures c.iterate.ensures.value_value c.last_value.ensures
