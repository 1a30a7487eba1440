use Rattle.capi.specs.DeskLeftLaws.{word-ahead, word-behind}
use Rattle.capi.proofs.values.signed.Goals as goal

pub returns-then-held-ge-FARTHEST : goal.returns-then-held-ge-FARTHEST
returns-then-held-ge-FARTHEST c = word-ahead c.args.offset c.if-held-ge-FARTHEST.true

pub returns : goal.returns
returns c = word-behind c.args.offset c.if-held-ge-FARTHEST.false
