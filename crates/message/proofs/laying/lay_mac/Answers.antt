use Rattle.message.specs.MacLaws.{mac_laid}
use Rattle.message.proofs.laying.lay_mac.Goals as goal

pub returns : goal.returns
returns c =
    mac_laid c.args.out.now c.last_word-mac.result c.last_word-mac.ensures c.requires.in_bounds c.put_be.ensures
