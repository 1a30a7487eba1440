use Rattle.sm3_lanes.specs.FourLaws.{next_lane}
use Rattle.sm3_lanes.proofs.messages.next_word.Goals as goal

pub returns : goal.returns
returns c =
    let h = next_lane c.args.w.now c.args.l c.args.j c.requires.le_j c.requires.j_bound in cc
