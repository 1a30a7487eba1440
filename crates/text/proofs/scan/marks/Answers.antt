use Rattle.text.specs.ScanLaws.{eight_index}
use Rattle.text.proofs.scan.marks.Goals as goal

pub returns : goal.returns
returns c =
    eight_index c.args.s.now c.args.at c.args.b (λ i. (c.shared_slice_known-1.given i).fits) c.ranges.b.fits c.requires c.le_eight.ensures c.zero_marks.ensures
