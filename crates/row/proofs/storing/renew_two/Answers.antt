use Rattle.std.proofs.Common.{sym}
use Rattle.std.proofs.Math.Path.{◌∙◌}
use Rattle.words.specs.BytesLaws.{put_be-be_at}
use Rattle.row.proofs.storing.renew_two.Goals as goal

pub returns-else-be_at-x : goal.returns-else-be_at-x
returns-else-be_at-x c =
    sym (rw (sym c.be_at.ensures.value ∙ c.if-be_at-x.false) at (put_be-be_at 2 c.args.table.now c.args.at (λ i. (c.slice_known-1.given i).fits)))
