use Rattle.text.specs.ScanLaws.{eight_marked}
use Rattle.text.proofs.scan.zero_marks.Goals as goal

pub returns : goal.returns
returns c = eight_marked c.args.x c.wrapping_sub_u64.result c.ranges.x.fits c.wrapping_sub_u64.ensures.value
