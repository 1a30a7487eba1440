use Rattle.std.proofs.Common.{arith}
use Rattle.message.specs.Message.{message_at}
use Rattle.message.specs.FrameLaws.{fits-long}
use Rattle.message.proofs.frame.Framed.heading.Goals as goal

pub bounds-self-1 : goal.bounds-self-1
bounds-self-1 c = let long = fits-long _ c.args.self.now.whole.fits in omega arith

pub be_eight-requires : goal.be_eight-requires
be_eight-requires c = let long = fits-long _ c.args.self.now.whole.fits in omega arith

pub be_eight-requires-2 : goal.be_eight-requires-2
be_eight-requires-2 c = let long = fits-long _ c.args.self.now.whole.fits in omega arith

pub returns : goal.returns
unfolding message_at
returns c = rw (c.be_eight.ensures, c.be_eight-2.ensures, c.service.ensures, c.options.ensures)
