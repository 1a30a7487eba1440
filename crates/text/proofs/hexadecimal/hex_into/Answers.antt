use Rattle.text.specs.HexLaws.{into_wrong, into_room, into_done}
use Rattle.text.proofs.hexadecimal.hex_into.Goals as goal

pub returns-then-not-s-n : goal.returns-then-not-s-n
returns-then-not-s-n c = into_wrong _ _ c.all_digits.ensures c.if-not-s-n.true-raw

pub returns : goal.returns
returns c = into_done _ _ c.all_digits.ensures c.if-not-s-n.false-raw c.put_pairs.ensures
