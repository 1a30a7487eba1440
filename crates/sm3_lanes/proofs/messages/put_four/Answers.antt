use Rattle.std.proofs.Common.{refl, arith}
use Rattle.sm3_lanes.specs.MessageLaws.{across_four}
use Rattle.sm3_lanes.proofs.messages.put_four.Goals as goal

pub returns : goal.returns
returns c = across_four c.args.w.now c.args.j c.args.a c.args.b c.args.c c.args.d c.requires (omega arith) refl refl refl refl
