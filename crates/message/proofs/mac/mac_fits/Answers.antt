use Rattle.message.specs.MacLaws.{mac_unmarked, mac_marked}
use Rattle.message.proofs.mac.mac_fits.Goals as goal

pub returns-then-not-is_marked : goal.returns-then-not-is_marked
returns-then-not-is_marked c = mac_unmarked _ c.is_marked.ensures c.if-not-is_marked.true-raw

pub returns : goal.returns
returns c = mac_marked c.args.message.now c.is_marked.ensures c.if-not-is_marked.false-raw c.joined_digest-digest.ensures c.same.ensures
