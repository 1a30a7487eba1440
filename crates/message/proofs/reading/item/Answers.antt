use Rattle.std.proofs.Common.{◌≡◌, Ok, sym, rules}
use Rattle.std.proofs.lemmas.Iterator.Consumers.{YieldsList-from_first, nth_from_yields_List}
use Rattle.message.specs.Reading.{places_in}
use Rattle.message.proofs.ReadingLaws.{read-said, item-placed}
use Rattle.message.proofs.reading.item.Goals as goal

pub returns-in_err-framed : goal.returns-in_err-framed
returns-in_err-framed c = rw (read-said, ← c.framed_read.ensures) (search rules)

pub returns : goal.returns
returns c =
    let there = nth_from_yields_List c.nth.result _ c.args.index c.nth.ensures.ran (YieldsList-from_first (λ x. x) (λ rest. rest) (places_in c.in_ok-framed.framed.message.now) c.items.ensures) in
    let framed : c.framed_read.result ≡ Ok c.in_ok-framed.framed = c.in_ok-framed.was in
    item-placed c.args.message.now c.args.index (sym (rw framed at c.framed_read.ensures)) there
