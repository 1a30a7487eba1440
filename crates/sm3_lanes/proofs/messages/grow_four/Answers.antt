use Rattle.std.proofs.Common.{◌≡◌, ◌*◌, ◌<◌, ◌≤◌, arith, ltb-true, ltb-false, nat_lt, false, true}
use Rattle.sm3_lanes.specs.FourLaws.{grew_four, grew_past}
use Rattle.sm3_lanes.proofs.messages.grow_four.Goals as goal

pub returns-then-not-this : goal.returns-then-not-this
returns-then-not-this g c =
    let e : nat_lt c.args.k 17 ≡ false = grind arith in
    let h : 17 ≤ c.args.k = ltb-false c.args.k 17 e in
    grew_past c.args.l (4 * c.args.k) c.args.w.now (omega arith)

pub returns : goal.returns
returns g c =
    let e : nat_lt c.args.k 17 ≡ true = grind arith in
    let h : c.args.k < 17 = ltb-true c.args.k 17 e in
    grew_four c.args.w.now c.args.l (4 * c.args.k) c.requires.l_bound (omega arith) (omega arith) (omega arith) (omega arith) (omega arith) c.grow.ensures c.grow-2.ensures c.grow-3.ensures c.grow-4.ensures
