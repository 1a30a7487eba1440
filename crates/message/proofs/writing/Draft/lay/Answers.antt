use Rattle.std.proofs.Common.{◌≡◌, length, refl, sym, ◌∙◌, arith}
use Rattle.message.specs.Writing.{message_bytes}
use Rattle.message.specs.Lending.{lent}
use Rattle.message.proofs.LayingLaws.{draft-size, start-room, body-size, head-room, laid-plain, seal-room, laid-sealed}
use Rattle.message.proofs.writing.Draft.lay.Goals as goal

pub slice_bounds-lay_body-count : goal.slice_bounds-lay_body-count
slice_bounds-lay_body-count c =
    let m = lent c.self.inside.heading c.self.inside.identifiers.now c.self.inside.lengths.now c.self.inside.contents.now in
    let size : length c.args.out.now ≡ length (message_bytes m) = rw c.self.view_is c.requires in
    start-room m c.args.out.now c.head_length-start.ensures size

pub slice_bounds-lay_body-start : goal.slice_bounds-lay_body-start
slice_bounds-lay_body-start c =
    let m = lent c.self.inside.heading c.self.inside.identifiers.now c.self.inside.lengths.now c.self.inside.contents.now in
    let size : length c.args.out.now ≡ length (message_bytes m) = rw c.self.view_is c.requires in
    let room = start-room m c.args.out.now c.head_length-start.ensures size in
    omega arith

pub lay_body-requires : goal.lay_body-requires
lay_body-requires c =
    let m = lent c.self.inside.heading c.self.inside.identifiers.now c.self.inside.lengths.now c.self.inside.contents.now in
    let size : length c.args.out.now ≡ length (message_bytes m) = rw c.self.view_is c.requires in
    rw (← c.self.view_is) (body-size m c.args.out.now c.head_length-start.ensures size)

pub slice_bounds-lay_head-end : goal.slice_bounds-lay_head-end
slice_bounds-lay_head-end c =
    let m = lent c.self.inside.heading c.self.inside.identifiers.now c.self.inside.lengths.now c.self.inside.contents.now in
    let size : length c.args.out.now ≡ length (message_bytes m) = rw c.self.view_is c.requires in
    let body = rw (← c.self.view_is) at c.lay_body.ensures in
    head-room m c.args.out.now c.head_length-start.ensures size body

pub lay_mac-requires-clause-in_bounds : goal.lay_mac-requires-clause-in_bounds
lay_mac-requires-clause-in_bounds c =
    let m = lent c.self.inside.heading c.self.inside.identifiers.now c.self.inside.lengths.now c.self.inside.contents.now in
    let size : length c.args.out.now ≡ length (message_bytes m) = rw c.self.view_is c.requires in
    let body = rw (← c.self.view_is) at c.lay_body.ensures in
    let head = rw (← c.self.view_is) at c.lay_head.ensures in
    (seal-room m c.args.out.now c.head_length-start.ensures size body refl head refl (sym c.is_marked.ensures ∙ c.if-is_marked.true)).0

pub lay_mac-requires-clause-out_len_bound : goal.lay_mac-requires-clause-out_len_bound
lay_mac-requires-clause-out_len_bound c =
    let m = lent c.self.inside.heading c.self.inside.identifiers.now c.self.inside.lengths.now c.self.inside.contents.now in
    let size : length c.args.out.now ≡ length (message_bytes m) = rw c.self.view_is c.requires in
    let body = rw (← c.self.view_is) at c.lay_body.ensures in
    let head = rw (← c.self.view_is) at c.lay_head.ensures in
    let room = (seal-room m c.args.out.now c.head_length-start.ensures size body refl head refl (sym c.is_marked.ensures ∙ c.if-is_marked.true)).1 in
    let few = c.self.invariant.body in
    let long = draft-size c.self.invariant in
    omega arith

pub returns-then-is_marked : goal.returns-then-is_marked
returns-then-is_marked c =
    let m = lent c.self.inside.heading c.self.inside.identifiers.now c.self.inside.lengths.now c.self.inside.contents.now in
    let size : length c.args.out.now ≡ length (message_bytes m) = rw c.self.view_is c.requires in
    let body = rw (← c.self.view_is) at c.lay_body.ensures in
    let head = rw (← c.self.view_is) at c.lay_head.ensures in
    rw (← c.self.view_is)
    (laid-sealed m c.args.out.now c.head_length-start.ensures size body refl head refl (sym c.is_marked.ensures ∙ c.if-is_marked.true) c.lay_mac.ensures)

pub returns-else-is_marked : goal.returns-else-is_marked
returns-else-is_marked c =
    let m = lent c.self.inside.heading c.self.inside.identifiers.now c.self.inside.lengths.now c.self.inside.contents.now in
    let size : length c.args.out.now ≡ length (message_bytes m) = rw c.self.view_is c.requires in
    let body = rw (← c.self.view_is) at c.lay_body.ensures in
    let head = rw (← c.self.view_is) at c.lay_head.ensures in
    rw (← c.self.view_is) (laid-plain m c.args.out.now c.head_length-start.ensures size body refl head refl (sym c.is_marked.ensures ∙ c.if-is_marked.false))
