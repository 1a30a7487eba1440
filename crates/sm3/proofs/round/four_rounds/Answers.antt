use Rattle.std.proofs.Common.{◌*◌}
use Rattle.sm3.specs.Sm3Laws.{four_of}
use Rattle.sm3.proofs.round.four_rounds.Goals as goal

pub returns : goal.returns
returns g c = four_of (4 * c.args.k) c.args.w.now c.args.r c.round-r1.ensures c.round-r2.ensures c.round-r3.ensures c.round.ensures
