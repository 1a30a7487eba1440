use Rattle.std.proofs.Common.{ℕ, ◌+◌, ◌/◌, ap, arith, length-set}
use Rattle.sm3.specs.Sm3Laws.{padded-fits, padded_in_place}
use Rattle.sm3.specs.PaddingLaws.{last_blocks_fill}
use Rattle.sm3.proofs.padding.pad.Goals as goal

pub overflow_add-blocks : goal.overflow_add-blocks
overflow_add-blocks c = let fits = padded-fits c.args.len c.requires.len_bound in omega (arith, c.last_blocks.ensures)

pub overflow_mul-blocks : goal.overflow_mul-blocks
overflow_mul-blocks c = let fits = padded-fits c.args.len c.requires.len_bound in omega (arith, c.last_blocks.ensures)

pub overflow_sub-blocks : goal.overflow_sub-blocks
overflow_sub-blocks c = let fill = last_blocks_fill c.args.len in omega (arith, c.last_blocks.ensures)

pub put_be-requires : goal.put_be-requires
put_be-requires c =
    let fits = padded-fits c.args.len c.requires.len_bound in
    let fill = last_blocks_fill c.args.len in
    rw (length-set) (omega (arith, c.last_blocks.ensures))

pub returns : goal.returns
returns c = let e = ap (λ (n : ℕ). c.args.len / 64 + n) c.last_blocks.ensures in
    record { value = e; m_after = padded_in_place c.args.m.now c.args.len (c.args.len / 64 + c.last_blocks.result) (omega arith) c.requires.len_bound c.requires.m_value e c.put_be.ensures }
