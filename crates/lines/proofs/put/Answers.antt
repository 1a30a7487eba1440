use Rattle.lines.specs.BufferLaws.{text-put}
use Rattle.lines.proofs.put.Goals as goal

pub returns : goal.returns
returns c =
    text-put c.args.out.now c.args.at c.args.text.now (c.requires) c.copy.ensures
