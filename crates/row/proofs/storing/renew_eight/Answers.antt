use Rattle.std.proofs.Common.{sym}
use Rattle.std.proofs.Math.Path.{◌∙◌}
use Rattle.words.specs.BytesLaws.{put_be-be_at}
use Rattle.row.proofs.storing.renew_eight.Goals as goal

pub returns-else-be_eight-x : goal.returns-else-be_eight-x
returns-else-be_eight-x c =
    sym (rw (sym c.be_eight.ensures ∙ c.if-be_eight-x.false) at (put_be-be_at 8 c.args.table.now c.args.at (λ i. (c.slice_known-1.given i).fits)))
