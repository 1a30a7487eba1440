use Rattle.std.proofs.Common.{◌≡◌, ◌+◌, ◌-◌, sym, arith, ◌∙◌}
use Rattle.message.specs.WalkLaws.{fill_none, fill_short, fill_marked, fill_next}
use Rattle.message.proofs.frame.items_fill.Goals as goal

pub returns-then-message-at : goal.returns-then-message-at
returns-then-message-at c = sym (fill_short _ _ _ (omega arith) c.if-message-at.true) ∙ c.loop.invariant.1

pub returns-then-message-at-ne0 : goal.returns-then-message-at-ne0
returns-then-message-at-ne0 c = sym (fill_marked _ _ _ (omega arith) c.if-message-at-ne0.true) ∙ c.loop.invariant.1

pub loop-preserved : goal.loop-preserved
loop-preserved c =
    let z : c.args.count - (c.loop.counter + 1) ≡ c.args.count - c.loop.counter - 1 = omega arith in
    (omega (arith, c.item_end-at.ensures, c.type_inv.message (c.loop.at + 3)), rw (z, c.item_end-at.ensures) (sym (fill_next _ _ _ (omega arith) c.if-message-at-ne0.false) ∙ c.loop.invariant.1))

pub returns : goal.returns
returns c = sym (fill_none _ _ _ (omega arith)) ∙ c.loop.invariant.1
