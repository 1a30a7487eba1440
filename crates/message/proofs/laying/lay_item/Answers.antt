use Rattle.std.proofs.Common.{arith, length-set}
use Rattle.message.proofs.LayingLaws.{length_identified, item_room, item-kept, item-laid}
use Rattle.message.proofs.laying.lay_item.Goals as goal

pub put_be-requires : goal.put_be-requires
put_be-requires c = rw length-set (omega arith)

pub returns : goal.returns
returns c =
    item-laid c.args.out.now c.args.at c.args.identifier c.args.content.now c.requires.content_in_bounds c.put_be.ensures c.copy.ensures
