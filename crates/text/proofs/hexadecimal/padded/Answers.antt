use Rattle.text.specs.HexLaws.{digits-padded}
use Rattle.text.proofs.hexadecimal.padded.Goals as goal

pub returns : goal.returns
returns c = digits-padded c.args.s.now c.copy.ensures
