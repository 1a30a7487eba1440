use Rattle.std.proofs.Math.Path.{◌∙◌}
use Rattle.std.specs.Prelude.{refl}
use Rattle.std.proofs.Common.{sym, rules}
use Rattle.row.specs.FindLaws.{none_left, first_passes, first_fails}
use Rattle.row.proofs.finding.first_of.Goals as goal

pub loop-at-preserved : goal.loop-at-preserved
loop-at-preserved c = (search rules, first_fails _ _ _ c.requires.width_ok.long _ _ refl c.loop-at-test.true (sym c.passes.ensures ∙ c.if-passes.false) ∙ c.loop-at.invariant.1)

pub returns : goal.returns
returns c = none_left _ _ _ c.requires.width_ok.long _ c.loop-at-test.false ∙ c.loop-at.invariant.1

pub returns-then-passes : goal.returns-then-passes
returns-then-passes c = first_passes _ _ _ c.requires.width_ok.long _ c.loop-at-test.true (sym c.passes.ensures ∙ c.if-passes.true) ∙ c.loop-at.invariant.1
