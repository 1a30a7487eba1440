use Rattle.std.proofs.Common.{sym, ◌∙◌, arith}
use Rattle.words.specs.ListsLaws.{same_lengths, same_more, same_end}
use Rattle.words.proofs.bytes.same.Goals as goal

pub returns-then-a-b : goal.returns-then-a-b
returns-then-a-b c = sym (same_lengths c.args.a.now c.args.b.now c.if-a-b.true)

pub loop-i-preserved : goal.loop-i-preserved
loop-i-preserved c =
    sym (same_more c.args.a.now c.args.b.now c.loop-i.i c.loop-i.alike c.if-a-b.false c.loop-i-test.true) ∙ c.loop-i.invariant

pub returns : goal.returns
returns c =
    sym (same_end c.args.a.now c.args.b.now c.loop-i.i c.loop-i.alike c.if-a-b.false (omega arith)) ∙ c.loop-i.invariant
