use Rattle.std.proofs.Common.{◌≡◌, ◌+◌, ◌*◌, arith}
use Rattle.sm3_lanes.specs.FourLaws.{stepped_of}
use Rattle.sm3_lanes.proofs.rounds.four_rounds.Goals as goal

pub returns : goal.returns
returns g c =
    let place : 4 * (4 + c.args.k) ≡ 16 + 4 * c.args.k = omega arith in
    stepped_of c.args.l (4 * c.args.k) c.args.s.now c.args.w.now (rw place at c.grow_four.ensures) c.value_at-r.ensures c.lane_round-r1.ensures c.lane_round-r2.ensures c.lane_round-r3.ensures c.lane_round-r4.ensures c.put_value.ensures
