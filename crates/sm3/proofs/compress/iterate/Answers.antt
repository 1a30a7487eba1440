use Rattle.std.proofs.Common.{refl, ◌∙◌, add-one}
use Rattle.sm3.specs.Sm3.{iterated}
use Rattle.sm3.proofs.compress.iterate.Goals as goal

pub loop-i-init : goal.loop-i-init
unfolding iterated
loop-i-init c = refl

pub loop-i-preserved : goal.loop-i-preserved
unfolding iterated
loop-i-preserved c = c.compress-value.ensures ∙ rw (add-one, c.loop-i.invariant)
