use Rattle.std.proofs.Math.Path.{◌∙◌}
use Rattle.std.specs.Prelude.{refl}
use Rattle.std.proofs.Common.{sym, arith, rules}
use Rattle.row.specs.FindLaws.{enough-left, four-passed}
use Rattle.row.proofs.finding.first_with.Goals as goal

pub loop-at-smaller : goal.loop-at-smaller
loop-at-smaller c = let h = enough-left _ _ _ _ (sym c.four_lack.ensures ∙ c.loop-at-test.true) in omega arith

pub loop-at-preserved : goal.loop-at-preserved
loop-at-preserved c = let lack = sym c.four_lack.ensures ∙ c.loop-at-test.true in (enough-left _ _ _ _ lack, four-passed _ _ _ _ c.requires.long lack ∙ c.loop-at.invariant.1)

pub returns : goal.returns
returns c = c.first_of.ensures ∙ c.loop-at.invariant.1
