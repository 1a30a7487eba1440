use Rattle.std.proofs.Common.{rules, tests, eq-eqb, ne_eqb}
use Rattle.std.proofs.lemmas.Iterator.{YieldsList-from_slice}
use Rattle.std.proofs.lemmas.Iterator.Search.{all_from_yields_List}
use Rattle.message.specs.Message.{message_at}
use Rattle.message_calls.specs.Finding.{has}
use Rattle.message_calls.proofs.OnlyLaws.{only_items}
use Rattle.message_calls.proofs.items.items_fit.Goals as goal

pub returns-then-count-wanted : goal.returns-then-count-wanted
returns-then-count-wanted c =
    let items = (message_at c.args.framed.now.message.now).items in
    rw (← only_items c.args.service items, ne_eqb _ _ (rw (c.count.ensures, c.items_of-wanted.ensures) at c.if-count-wanted.true))

pub returns : goal.returns
returns c =
    let items = (message_at c.args.framed.now.message.now).items in
    let all = all_from_yields_List (λ id. has id items) _ _ c.all.result c.all.ensures.ran (YieldsList-from_slice c.items_of-wanted.result.now (cc)) (λ x b q k. search (rules, tests)) in
    let as_many = rw (c.count.ensures, c.items_of-wanted.ensures) at c.if-count-wanted.false in
    rw (all, c.items_of-wanted.ensures, ← only_items c.args.service items, eq-eqb _ _ as_many)
