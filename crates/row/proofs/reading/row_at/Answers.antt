use Rattle.row.specs.Row.{row_at}
use Rattle.row.proofs.reading.row_at.Goals as goal

pub returns : goal.returns
unfolding row_at
returns c =
    rw (c.be_eight.ensures, c.be_at.ensures.value, c.be_eight-2.ensures, c.be_at-2.ensures.value, c.be_eight-3.ensures, c.be_eight-4.ensures, c.be_eight-5.ensures)
