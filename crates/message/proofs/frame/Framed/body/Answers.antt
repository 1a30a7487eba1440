use Rattle.message.specs.FrameLaws.{body-room}
use Rattle.message.proofs.frame.Framed.body.Goals as goal

pub returns-clause-value : goal.returns-clause-value
returns-clause-value c = c.args.self.now.whole.start

pub returns-clause-room : goal.returns-clause-room
returns-clause-room c = rw c.args.self.now.whole.start (body-room _ c.args.self.now.whole.fits)
