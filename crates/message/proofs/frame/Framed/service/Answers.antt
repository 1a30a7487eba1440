use Rattle.message.specs.Message.{message_at}
use Rattle.message.proofs.frame.Framed.service.Goals as goal

pub returns : goal.returns
unfolding message_at
returns c = rw (c.be_at.ensures.value, c.body.ensures.value)
