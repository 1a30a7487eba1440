use Rattle.std.proofs.Common.{refl}
use Rattle.sm3.specs.Sm3Laws.{round_of}
use Rattle.sm3.proofs.round.round.Goals as goal

pub returns : goal.returns
returns g c =
    round_of c.args.j c.args.word c.args.ahead _ c.args.r c.requires.j_bound refl c.requires.early_value c.ff-left.ensures c.gg-right.ensures c.round_with.ensures
