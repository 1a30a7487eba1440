use Rattle.std.proofs.Common.{◌≡◌, ◌<◌, ◌*◌, ◌+◌, refl, arith}
use Rattle.sm4.specs.Sm4.{round_keys}
use Rattle.sm4.specs.ScheduleLaws.{expanded_none, expanded_all}
use Rattle.sm4_lanes.specs.LanesLaws.{each_none, fresh_more}
use Rattle.sm4_lanes.proofs.fresh.first_each.Goals as goal

pub loop-i-init : goal.loop-i-init
loop-i-init g c = (expanded_none c.args.key.now c.requires.keys_len c.words_of.ensures c.masked-k.ensures, each_none (round_keys c.args.key.now) c.args.blocks)

pub loop-i-preserved : goal.loop-i-preserved
loop-i-preserved g c =
    let key = c.args.key.now in
    let blocks = c.args.blocks in
    let i = 4 * c.loop-i.i in
    let last : i + 3 < 32 = omega arith in
    let before : i + 2 < 32 = omega arith in
    let earlier : i + 1 < 32 = omega arith in
    let first : i < 32 = omega arith in
    let second : i + 1 + 1 ≡ i + 2 = omega arith in
    let third : i + 2 + 1 ≡ i + 3 = omega arith in
    let fourth : i + 3 + 1 ≡ 4 * (c.loop-i.i + 1) = omega arith in
    let once = fresh_more key blocks i c.loop-i.invariant first c.next_key-k.ensures.value c.next_key-k.ensures.keys_after c.step_each-s.ensures refl in
    let twice = fresh_more key blocks (i + 1) once earlier c.next_key-k-in-loop-i.ensures.value c.next_key-k-in-loop-i.ensures.keys_after c.step_each-s-in-loop-i.ensures second in
    let thrice = fresh_more key blocks (i + 2) twice before c.next_key-k-in-loop-i-2.ensures.value c.next_key-k-in-loop-i-2.ensures.keys_after c.step_each-s-in-loop-i-2.ensures third in
    fresh_more key blocks (i + 3) thrice last c.next_key-k-in-loop-i-3.ensures.value c.next_key-k-in-loop-i-3.ensures.keys_after c.step_each-s-in-loop-i-3.ensures fourth

pub returns : goal.returns
returns g c =
    let e : 4 * c.loop-i.i ≡ 32 = omega arith in
    record { value = rw e at c.loop-i.invariant.1; keys_after = expanded_all c.args.key.now c.loop-i.invariant.0 e }
