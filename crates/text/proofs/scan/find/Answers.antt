use Rattle.std.proofs.Common.{◌+◌, sym, refl, ap, ◌∙◌, arith, rules}
use Rattle.std.specs.Int.Count.{trailing_le}
use Rattle.text.specs.ScanLaws.{some-marked, none-marked}
use Rattle.text.proofs.scan.find.Goals as goal

pub returns-then-found-ne0 : goal.returns-then-found-ne0
returns-then-found-ne0 c = record { value = sym (c.loop-at.invariant.1 ∙ ap (c.loop-at.at +◌) (some-marked c.args.s.now c.loop-at.at c.args.to c.args.b c.marks-found.result c.loop-at-test.true c.requires.to_in_bounds c.marks-found.ensures c.if-found-ne0.true (omega arith))); upper_bound = omega (arith, trailing_le 64 c.marks-found.result) }

pub loop-at-preserved : goal.loop-at-preserved
loop-at-preserved c =
    (search rules, c.loop-at.invariant.1 ∙ none-marked c.args.s.now c.loop-at.at c.args.to c.args.b c.marks-found.result c.loop-at-test.true c.requires.to_in_bounds c.marks-found.ensures c.if-found-ne0.false)

pub returns : goal.returns
returns c = record { value = c.find_each.ensures.value ∙ sym c.loop-at.invariant.1; upper_bound = c.find_each.ensures.upper_bound }
