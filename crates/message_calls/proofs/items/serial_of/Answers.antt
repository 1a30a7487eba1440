use Rattle.message.specs.Message.{message_at}
use Rattle.message_calls.proofs.FindingLaws.{serial-read}
use Rattle.message_calls.proofs.items.serial_of.Goals as goal

pub returns : goal.returns
returns c = serial-read (message_at c.args.framed.now.message.now) c.content-serial.ensures c.be_eight.ensures c.if-serial-ne-SERIAL_BYTES.false
