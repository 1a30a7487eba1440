use Rattle.std.proofs.Common.{sym, ◌∙◌, arith}
use Rattle.text.specs.ScanLaws.{here_found, here_passed, none_left}
use Rattle.text.proofs.scan.find_each.Goals as goal

pub returns-then-s-at : goal.returns-then-s-at
returns-then-s-at c = record {
  value = sym (here_found c.args.s.now c.loop-at.at c.args.to c.args.b c.loop-at-test.true c.requires.to_in_bounds c.if-s-at.true) ∙ c.loop-at.invariant.1.1;
  upper_bound = omega arith;
}

pub loop-at-preserved : goal.loop-at-preserved
loop-at-preserved c = (
  omega arith,
  (
    omega arith,
    sym (here_passed c.args.s.now c.loop-at.at c.args.to c.args.b c.loop-at-test.true c.requires.to_in_bounds c.if-s-at.false) ∙ c.loop-at.invariant.1.1,
  ),
)

pub returns : goal.returns
returns c = record {
  value = sym (none_left c.args.s.now c.loop-at.at c.args.to c.args.b c.loop-at-test.false c.loop-at.invariant.1.0) ∙ c.loop-at.invariant.1.1;
  upper_bound = omega arith;
}
