use Rattle.std.proofs.Common.{arith, rules, sym, ◌∙◌}
use Rattle.message.specs.WalkLaws.{left_end, item-within}
use Rattle.message.proofs.ReadingLaws.{places_none, places_next}
use Rattle.message.proofs.items.ItemsIterator.next.Goals as goal

pub returns-then-self-eq0-clause-steps : goal.returns-then-self-eq0-clause-steps
returns-then-self-eq0-clause-steps c = let none = places_none c.self.inside.left c.self.inside.message.now c.self.inside.at c.if-self-eq0.true in search rules

pub overflow_add-self-inside : goal.overflow_add-self-inside
overflow_add-self-inside c = let room = item-within c.self.inside.left c.self.inside.message.now c.self.inside.at (omega arith) c.self.invariant in omega arith

pub be_at-requires-clause-k_in_bounds : goal.be_at-requires-clause-k_in_bounds
be_at-requires-clause-k_in_bounds c = let room = item-within c.self.inside.left c.self.inside.message.now c.self.inside.at (omega arith) c.self.invariant in omega arith

pub overflow_add-item : goal.overflow_add-item
overflow_add-item c = let room = item-within c.self.inside.left c.self.inside.message.now c.self.inside.at (omega arith) c.self.invariant in omega arith

pub item_end-requires : goal.item_end-requires
item_end-requires c = let room = item-within c.self.inside.left c.self.inside.message.now c.self.inside.at (omega arith) c.self.invariant in omega arith

pub invariant_of-self : goal.invariant_of-self
invariant_of-self c = rw c.item_end.ensures (sym (left_end c.self.inside.left c.self.inside.message.now c.self.inside.at (omega arith)) ∙ c.self.invariant)

pub returns-clause-steps : goal.returns-clause-steps
returns-clause-steps c = rw (← c.self.view_is, c.be_at.ensures.value, c.item_end.ensures) (places_next c.self.inside.left c.self.inside.message.now c.self.inside.at c.if-self-eq0.false)

pub returns-clause-goes : goal.returns-clause-goes
returns-clause-goes c =
    let next = places_next c.self.inside.left c.self.inside.message.now c.self.inside.at c.if-self-eq0.false in
    rw (← c.self.view_is, c.be_at.ensures.value, c.item_end.ensures, next) (record { on = λ ends. (tt, tt, omega arith); keeps = tt; rests = λ ends. tt })
