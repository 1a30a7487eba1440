use Rattle.std.proofs.Common.{◌≡◌, ◌<◌, ◌*◌, ◌+◌, refl, arith}
use Rattle.sm4.specs.Sm4.{steps}
use Rattle.sm4.specs.ScheduleLaws.{expanded_none, expanded_all}
use Rattle.sm4.specs.SidesLaws.{sides_more}
use Rattle.sm4.proofs.sides.sides_from.Goals as goal

pub loop-i-init : goal.loop-i-init
unfolding steps
loop-i-init c = (expanded_none c.args.key.now c.requires.keys_len c.words_of.ensures c.masked-k.ensures, refl)

pub loop-i-preserved : goal.loop-i-preserved
loop-i-preserved c =
    let key = c.args.key.now in
    let block = c.args.block in
    let i = 4 * c.loop-i.i in
    let last : i + 3 < 32 = omega arith in
    let before : i + 2 < 32 = omega arith in
    let earlier : i + 1 < 32 = omega arith in
    let first : i < 32 = omega arith in
    let second : i + 1 + 1 ≡ i + 2 = omega arith in
    let third : i + 2 + 1 ≡ i + 3 = omega arith in
    let fourth : i + 3 + 1 ≡ 4 * (c.loop-i.i + 1) = omega arith in
    let once = sides_more key block i c.loop-i.invariant first c.next_key-k.ensures.value c.next_key-k.ensures.keys_after c.step-q.ensures refl in
    let twice = sides_more key block (i + 1) once earlier c.next_key-k-in-loop-i.ensures.value c.next_key-k-in-loop-i.ensures.keys_after c.step-q-in-loop-i.ensures second in
    let thrice = sides_more key block (i + 2) twice before c.next_key-k-in-loop-i-2.ensures.value c.next_key-k-in-loop-i-2.ensures.keys_after c.step-q-in-loop-i-2.ensures third in
    sides_more key block (i + 3) thrice last c.next_key-k-in-loop-i-3.ensures.value c.next_key-k-in-loop-i-3.ensures.keys_after c.step-q-in-loop-i-3.ensures fourth

pub returns : goal.returns
returns c =
    let e : 4 * c.loop-i.i ≡ 32 = omega arith in
    record { value = rw e at c.loop-i.invariant.1; keys_after = expanded_all c.args.key.now c.loop-i.invariant.0 e }
