use Rattle.message.proofs.WriteLaws.{draft-made, refused_early, passed, refused-late, all-passed}
use Rattle.message.proofs.writing.Draft.of.Goals as goal

pub returns-then-not-heading_fits-count : goal.returns-then-not-heading_fits-count
returns-then-not-heading_fits-count c = refused_early _ _ _ _ c.heading_fits.ensures c.if-not-heading_fits-count.true-raw

pub returns-then-not-size-items_fit : goal.returns-then-not-size-items_fit
returns-then-not-size-items_fit c =
    refused-late _ _ _ _ c.heading_fits.ensures (passed _ _ _ _ c.heading_fits.ensures c.if-not-heading_fits-count.false-raw) c.items_fit.ensures c.if-not-size-items_fit.true-raw

pub returns : goal.returns
returns c =
    draft-made _ _ _ _ (all-passed _ _ _ _ c.heading_fits.ensures (passed _ _ _ _ c.heading_fits.ensures c.if-not-heading_fits-count.false-raw) c.items_fit.ensures c.if-not-size-items_fit.false-raw)
