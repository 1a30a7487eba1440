use Rattle.capi.specs.MessageLeft.{heading_for}
use Rattle.capi.specs.MessageLeftLaws.{write_short, write_refused, write_done}
use Rattle.capi.proofs.message_forms.dl_message_write.Goals as goal

pub returns-then-written-eq0 : goal.returns-then-written-eq0
returns-then-written-eq0 c =
    write_short (heading_for c.args.kind c.args.caller c.args.number c.args.service c.args.options) c.args.identifiers.now c.args.lengths.now c.args.contents.now c.args.out.now c.args.written.now c.if-written-eq0.true

pub returns-in-Err : goal.returns-in-Err
returns-in-Err c =
    write_refused (heading_for c.args.kind c.args.caller c.args.number c.args.service c.args.options) c.args.identifiers.now c.args.lengths.now c.args.contents.now c.args.out.now c.args.written.now c.if-written-eq0.false c.write_message.ensures c.in-Err.is

pub returns-in-Ok : goal.returns-in-Ok
returns-in-Ok c =
    write_done (heading_for c.args.kind c.args.caller c.args.number c.args.service c.args.options) c.args.identifiers.now c.args.lengths.now c.args.contents.now c.args.out.now c.args.written.now c.if-written-eq0.false c.write_message.ensures c.in-Ok.is
