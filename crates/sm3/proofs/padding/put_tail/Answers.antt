use Rattle.std.proofs.Common.{arith, length-set}
use Rattle.sm3.specs.PaddingLaws.{last_blocks_fit, last_blocks_fill, end_of}
use Rattle.sm3.proofs.padding.put_tail.Goals as goal

pub overflow_mul-blocks : goal.overflow_mul-blocks
overflow_mul-blocks c =
    let room = rw (← c.requires.blocks_value) at (last_blocks_fit c.args.len) in
    omega arith

pub overflow_sub-blocks : goal.overflow_sub-blocks
overflow_sub-blocks c =
    let fill = rw (← c.requires.blocks_value) at (last_blocks_fill c.args.len) in
    omega arith

pub put_be-requires : goal.put_be-requires
put_be-requires c =
    let room = rw (← c.requires.blocks_value) at (last_blocks_fit c.args.len) in
    let fill = rw (← c.requires.blocks_value) at (last_blocks_fill c.args.len) in
    rw length-set (omega (arith, c.copy.auto.out))

pub returns : goal.returns
returns c =
    end_of c.args.tail.now c.args.len c.args.blocks c.requires.tail_len c.requires.blocks_value (rw c.requires.out_value at c.copy.ensures) c.put_be.ensures
