use Rattle.std.proofs.Common.{◌≡◌, length, rules, arith}
use Rattle.std.proofs.lemmas.Slice.Zip.{Zip-more, either_empty_from_Zip}
use Rattle.std.specs.Slice.Iter.{iter_rest}
use Rattle.std.specs.Iterator.Adapters.{zip_first, zip_second}
use Rattle.message.proofs.LayingLaws.{laying_start, laying_end, next-room, laying_on}
use Rattle.message.proofs.writing.Draft.lay_items.Goals as goal

pub loop-identifier-init : goal.loop-identifier-init
loop-identifier-init c =
    let first : iter_rest (zip_first c.into_iter-identifier-iterator.result) ≡ c.self.inside.identifiers.now = search rules in
    let second : iter_rest (zip_second c.into_iter-identifier-iterator.result) ≡ c.self.inside.lengths.now = search rules in
    rw (first, second, ← c.self.view_is) (laying_start _ _ _ _ c.self.invariant.items (rw (← c.self.view_is) at c.requires))

pub split_at-requires : goal.split_at-requires
split_at-requires c =
    let turn = Zip-more c.loop-identifier.identifier-iterator c.next.new.self _ _ c.in-Some.is c.next.ensures.steps in
    let room = next-room _ _ _ _ c.loop-identifier.invariant turn.0 turn.1 in
    room.content

pub lay_item-requires-clause-content_len_bound : goal.lay_item-requires-clause-content_len_bound
lay_item-requires-clause-content_len_bound c =
    let turn = Zip-more c.loop-identifier.identifier-iterator c.next.new.self _ _ c.in-Some.is c.next.ensures.steps in
    let room = next-room _ _ _ _ c.loop-identifier.invariant turn.0 turn.1 in
    let small = room.small in
    omega (arith, c.split_at.ensures.front_len)

pub loop-identifier-preserved : goal.loop-identifier-preserved
loop-identifier-preserved c =
    let turn = Zip-more c.loop-identifier.identifier-iterator c.next.new.self _ _ c.in-Some.is c.next.ensures.steps in
    let long : length c.split_at.result.0.now ≡ c.in-Some.length.now = omega (arith, c.split_at.ensures.front_len) in
    rw (long, c.split_at.ensures.back) (laying_on _ _ _ _ c.loop-identifier.invariant turn.0 turn.1 (rw c.split_at.ensures.front at c.lay_item.ensures))

pub returns : goal.returns
returns c = laying_end _ _ _ _ _ _ c.loop-identifier.invariant (either_empty_from_Zip c.loop-identifier.identifier-iterator c.next.new.self _ c.in-None.is c.next.ensures.steps)
