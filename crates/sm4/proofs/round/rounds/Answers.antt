use Rattle.std.proofs.Common.{◌≡◌, ◌*◌, ◌+◌, refl, arith}
use Rattle.sm4.specs.Sm4.{steps}
use Rattle.sm4.specs.EncryptLaws.{rounds_more}
use Rattle.sm4.proofs.round.rounds.Goals as goal

pub loop-i-init : goal.loop-i-init
unfolding steps
loop-i-init c = refl

pub loop-i-preserved : goal.loop-i-preserved
loop-i-preserved c =
    let e : 4 * (c.loop-i.i + 1) ≡ 4 * c.loop-i.i + 4 = omega arith in
    rw e (rounds_more c.args.keys.now (4 * c.loop-i.i) c.args.block c.loop-i.invariant c.four_rounds-q.ensures)

pub returns : goal.returns
returns c = let e : c.loop-i.i ≡ 8 = omega arith in rw e at c.loop-i.invariant
