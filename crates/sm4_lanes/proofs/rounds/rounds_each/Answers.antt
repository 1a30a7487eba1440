use Rattle.std.proofs.Common.{◌≡◌, ◌*◌, ◌+◌, refl, arith}
use Rattle.sm4_lanes.specs.LanesLaws.{each_none, each_more}
use Rattle.sm4_lanes.proofs.rounds.rounds_each.Goals as goal

pub loop-i-init : goal.loop-i-init
loop-i-init g c = each_none c.args.keys.now c.args.blocks

pub loop-i-preserved : goal.loop-i-preserved
loop-i-preserved g c =
    let keys = c.args.keys.now in
    let blocks = c.args.blocks in
    let i = 4 * c.loop-i.i in
    let second : i + 1 + 1 ≡ i + 2 = omega arith in
    let third : i + 2 + 1 ≡ i + 3 = omega arith in
    let fourth : i + 3 + 1 ≡ 4 * (c.loop-i.i + 1) = omega arith in
    let once = each_more keys blocks i c.loop-i.invariant c.step_each-s.ensures refl in
    let twice = each_more keys blocks (i + 1) once c.step_each-s-in-loop-i.ensures second in
    let thrice = each_more keys blocks (i + 2) twice c.step_each-s-in-loop-i-2.ensures third in
    each_more keys blocks (i + 3) thrice c.step_each-s-in-loop-i-3.ensures fourth
