use Rattle.std.proofs.Common.{◌≡◌, ◌+◌, refl, rules, arith, add-one, add-zero}
use Rattle.words.specs.Bytes.{be_at}
use Rattle.words.specs.BytesLaws.{part-length, part_byte, byte_more, eight_fit}
use Rattle.words.proofs.bytes.be_at.Goals as goal

pub loop-b-init : goal.loop-b-init
unfolding be_at
loop-b-init c = record { value = refl; below = omega arith }

pub overflow_mul-x : goal.overflow_mul-x
overflow_mul-x c =
    let n = part-length c.args.s.now c.args.at c.args.k c.requires.k_in_bounds in
    record { fits = eight_fit (c.loop-b.b-index + 1) (omega arith) (rw add-zero at (byte_more c.loop-b.b-index {b = 0} c.loop-b.invariant.below (omega arith))) }

pub overflow_add-x : goal.overflow_add-x
overflow_add-x c =
    let n = part-length c.args.s.now c.args.at c.args.k c.requires.k_in_bounds in
    record { fits = eight_fit (c.loop-b.b-index + 1) (omega arith) (byte_more c.loop-b.b-index c.loop-b.invariant.below (search rules)) }

pub loop-b-preserved : goal.loop-b-preserved
unfolding be_at
loop-b-preserved c =
    let n = part-length c.args.s.now c.args.at c.args.k c.requires.k_in_bounds in
    record {
      value = rw (add-one, ← c.loop-b.invariant.value, part_byte c.args.s.now c.args.at c.args.k c.loop-b.b-index (omega arith));
      below = byte_more c.loop-b.b-index c.loop-b.invariant.below (search rules);
    }

pub returns : goal.returns
returns c =
    let n = part-length c.args.s.now c.args.at c.args.k c.requires.k_in_bounds in
    let e : c.loop-b.b-index ≡ c.args.k = omega arith in
    record { value = (rw e at c.loop-b.invariant).value; upper_bound = (rw e at c.loop-b.invariant).below }
