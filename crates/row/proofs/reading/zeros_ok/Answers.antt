use Rattle.row.specs.ReadLaws.{zeros_read}
use Rattle.row.proofs.reading.zeros_ok.Goals as goal

pub returns : goal.returns
returns c =
    zeros_read c.args.table.now c.args.at (λ i. (c.shared_slice_known-1.given i).fits) c.requires.row_bytes_in_bounds c.requires.at_bound c.zeros.ensures c.be_at.ensures.value c.le_eight.ensures
