use Rattle.std.proofs.Common.{◌≡◌, length, set, ◌∙◌, arith}
use Rattle.words.specs.BytesLaws.{length-put_be}
use Rattle.message.specs.Lending.{lent}
use Rattle.message.proofs.LayingLaws.{length-body, length_rest, counted-long, body-laid, body-room, draft-count}
use Rattle.message.proofs.writing.Draft.lay_body.Goals as goal

pub put_be-requires : goal.put_be-requires
put_be-requires c = let room = body-room c.self.invariant c.self.view_is c.requires in omega arith

pub put_be-requires-2 : goal.put_be-requires-2
put_be-requires-2 c =
    let room = body-room c.self.invariant c.self.view_is c.requires in
    let long : length c.put_be.new.s ≡ length c.args.out.now = rw (c.put_be.ensures, length-put_be) in
    omega arith

pub bounds-out-4 : goal.bounds-out-4
bounds-out-4 c =
    let room = body-room c.self.invariant c.self.view_is c.requires in
    let long : length c.put_be-2.new.s ≡ length c.args.out.now = rw (c.put_be-2.ensures, length-put_be, c.put_be.ensures, length-put_be) in
    omega arith

pub slice_bounds-lay_items-count : goal.slice_bounds-lay_items-count
slice_bounds-lay_items-count c =
    let room = body-room c.self.invariant c.self.view_is c.requires in
    let m = lent c.self.inside.heading c.self.inside.identifiers.now c.self.inside.lengths.now c.self.inside.contents.now in
    let long = counted-long m c.args.out.now (length c.self.inside.identifiers.now) c.put_be.ensures c.put_be-2.ensures in
    omega arith

pub slice_bounds-lay_items-start : goal.slice_bounds-lay_items-start
slice_bounds-lay_items-start c =
    let room = body-room c.self.invariant c.self.view_is c.requires in
    let m = lent c.self.inside.heading c.self.inside.identifiers.now c.self.inside.lengths.now c.self.inside.contents.now in
    let long = counted-long m c.args.out.now (length c.self.inside.identifiers.now) c.put_be.ensures c.put_be-2.ensures in
    omega arith

pub lay_items-requires : goal.lay_items-requires
lay_items-requires c =
    let m = lent c.self.inside.heading c.self.inside.identifiers.now c.self.inside.lengths.now c.self.inside.contents.now in
    let long = counted-long m c.args.out.now (length c.self.inside.identifiers.now) c.put_be.ensures c.put_be-2.ensures in
    let size = length-body c.args.self.now in
    let all = c.requires in
    length_rest (set c.put_be-2.new.s 4 (length c.self.inside.identifiers.now)) 5 ∙ omega arith

pub returns : goal.returns
returns c =
    let m = lent c.self.inside.heading c.self.inside.identifiers.now c.self.inside.lengths.now c.self.inside.contents.now in
    let room = body-room c.self.invariant c.self.view_is c.requires in
    rw (← c.self.view_is)
    (body-laid m c.args.out.now (length c.self.inside.identifiers.now) c.put_be.ensures c.put_be-2.ensures (omega arith) (draft-count c.self.invariant) (rw (← c.self.view_is) at c.lay_items.ensures))
