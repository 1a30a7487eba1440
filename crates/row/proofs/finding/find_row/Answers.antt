use Rattle.row.specs.FindLaws.{found_swapped}
use Rattle.row.proofs.finding.find_row.Goals as goal

pub returns : goal.returns
returns c =
    found_swapped c.args.width c.args.table.now c.args.serial (λ i. (c.shared_slice_known-1.given i).fits) c.ranges.serial.fits c.swapped.ensures c.first_with.ensures
