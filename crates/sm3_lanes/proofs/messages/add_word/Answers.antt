use Rattle.sm3_lanes.specs.MessageLaws.{raised-four}
use Rattle.sm3_lanes.proofs.messages.add_word.Goals as goal

pub returns : goal.returns
returns c =
    raised-four c.args.w.now _ c.args.j c.args.x c.wrapping_add_u32-a.ensures.value c.wrapping_add_u32-b.ensures.value c.wrapping_add_u32-c.ensures.value c.wrapping_add_u32-d.ensures.value c.put_four.ensures
