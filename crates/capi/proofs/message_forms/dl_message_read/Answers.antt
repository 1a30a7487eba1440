use Rattle.capi.specs.MessageLeftLaws.{read_short, read-refused, read_done}
use Rattle.capi.proofs.message_forms.dl_message_read.Goals as goal

pub returns-then-fields-lt-MESSAGE_FIELDS : goal.returns-then-fields-lt-MESSAGE_FIELDS
returns-then-fields-lt-MESSAGE_FIELDS c = read_short c.args.message.now c.args.fields.now c.if-fields-lt-MESSAGE_FIELDS.true

pub returns-in-Err : goal.returns-in-Err
returns-in-Err c =
    read-refused c.args.message.now c.args.fields.now c.if-fields-lt-MESSAGE_FIELDS.false c.read_message.ensures c.in-Err.is c.number_of.ensures

pub returns-in-Ok : goal.returns-in-Ok
returns-in-Ok c =
    read_done c.args.message.now c.args.fields.now c.if-fields-lt-MESSAGE_FIELDS.false c.read_message.ensures c.in-Ok.is c.put_reading.ensures
