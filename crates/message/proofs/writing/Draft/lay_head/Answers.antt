use Rattle.message.specs.Lending.{lent}
use Rattle.message.proofs.LayingLaws.{head-laid}
use Rattle.message.proofs.writing.Draft.lay_head.Goals as goal

pub returns : goal.returns
returns c =
    let m = lent c.self.inside.heading c.self.inside.identifiers.now c.self.inside.lengths.now c.self.inside.contents.now in
    rw (← c.self.view_is)
    (head-laid m c.args.out.now c.requires c.head_length.ensures c.put_be.ensures c.put_be-2.ensures c.put_be-3.ensures (rw (← c.self.view_is) at c.size.ensures.value))
