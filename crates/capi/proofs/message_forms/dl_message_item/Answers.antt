use Rattle.std.proofs.Common.{◌≡◌, Some, None, Ok, sym, ◌∙◌, arith}
use Rattle.message.proofs.ReadingLaws.{item-ordered}
use Rattle.capi.specs.MessageLeftLaws.{item-short, item_refused, item-none, item-done}
use Rattle.capi.proofs.message_forms.dl_message_item.Goals as goal

pub returns-then-fields-lt-ITEM_FIELDS : goal.returns-then-fields-lt-ITEM_FIELDS
returns-then-fields-lt-ITEM_FIELDS c = item-short c.args.message.now c.args.index c.args.fields.now c.if-fields-lt-ITEM_FIELDS.true

pub put_place-requires : goal.put_place-requires
put_place-requires c =
    let found : c.item.result ≡ Ok (Some c.in-Ok-Some.place) = grind arith in
    record { in_bounds = c.if-fields-lt-ITEM_FIELDS.false; start_le_end = item-ordered c.args.message.now c.args.index (sym c.item.ensures ∙ found) }

pub returns-in-Err : goal.returns-in-Err
returns-in-Err c =
    item_refused c.args.message.now c.args.index c.args.fields.now c.if-fields-lt-ITEM_FIELDS.false c.item.ensures c.in-Err.is c.number_of.ensures

pub returns-in-Ok-None : goal.returns-in-Ok-None
returns-in-Ok-None c =
    let none : c.item.result ≡ Ok None = grind arith in
    item-none c.args.message.now c.args.index c.args.fields.now c.if-fields-lt-ITEM_FIELDS.false c.item.ensures none

pub returns-in-Ok-Some : goal.returns-in-Ok-Some
returns-in-Ok-Some c =
    let found : c.item.result ≡ Ok (Some c.in-Ok-Some.place) = grind arith in
    item-done c.args.message.now c.args.index c.args.fields.now c.if-fields-lt-ITEM_FIELDS.false c.item.ensures found c.put_place.ensures
