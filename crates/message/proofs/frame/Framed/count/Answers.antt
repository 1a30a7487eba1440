use Rattle.message.specs.FrameLaws.{count-here}
use Rattle.message.proofs.frame.Framed.count.Goals as goal

pub returns : goal.returns
returns c = rw c.body.ensures.value (count-here _ c.args.self.now.whole.fits)
