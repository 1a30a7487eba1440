use Rattle.std.proofs.Common.{◌≡◌, ◌*◌, ◌-◌, arith}
use Rattle.sm3.specs.Sm3Laws.{reached-none, reached_next}
use Rattle.sm3.proofs.compress.rounds.Goals as goal

pub loop-k-init : goal.loop-k-init
loop-k-init g c = let e : 4 * (c.args.first - c.args.first) ≡ 0 = omega arith in rw e (reached-none (4 * c.args.first) c.args.w.now c.args.v)

pub loop-k-preserved : goal.loop-k-preserved
loop-k-preserved g c =
    reached_next c.args.first c.loop-k.k c.args.w.now c.args.v c.loop-k.auto.k c.loop-k.invariant c.grow_four.ensures c.four_rounds-r.ensures
