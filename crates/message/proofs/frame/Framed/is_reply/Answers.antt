use Rattle.std.proofs.Common.{rules, arith}
use Rattle.message.specs.Message.{message_at}
use Rattle.message.specs.FrameLaws.{fits-long}
use Rattle.message.proofs.frame.Framed.is_reply.Goals as goal

pub bounds-self-1 : goal.bounds-self-1
bounds-self-1 c = let long = fits-long _ c.args.self.now.whole.fits in omega arith

pub returns : goal.returns
unfolding message_at
returns c = search rules
