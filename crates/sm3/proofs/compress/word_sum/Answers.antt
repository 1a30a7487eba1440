use Rattle.sm3.specs.Sm3Laws.{total_of}
use Rattle.sm3.proofs.compress.word_sum.Goals as goal

pub returns : goal.returns
returns c =
    total_of c.args.r c.wrapping_add_u32.ensures.value c.wrapping_add_u32-2.ensures.value c.wrapping_add_u32-left.ensures.value c.wrapping_add_u32-3.ensures.value c.wrapping_add_u32-4.ensures.value c.wrapping_add_u32-right.ensures.value c.wrapping_add_u32-5.ensures.value
