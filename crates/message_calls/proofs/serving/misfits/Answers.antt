use Rattle.std.proofs.Common.{sym, ◌∙◌}
use Rattle.message_calls.proofs.ServingLaws.{misfit-none, misfit-some}
use Rattle.message_calls.proofs.serving.misfits.Goals as goal

pub returns-in_default : goal.returns-in_default
returns-in_default c = misfit-none _ (sym (rw c.heading.ensures at c.service_of.ensures) ∙ c.in_default.is)

pub returns : goal.returns
returns c = rw c.fits.ensures (misfit-some _ (sym (rw c.heading.ensures at c.service_of.ensures) ∙ c.in-Some.is))
