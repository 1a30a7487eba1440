use Rattle.std.proofs.Common.{refl, arith}
use borrow.Author.Tests.{eq-eqb, ne_eqb}
use Rattle.sm4.specs.Sm4.{keys_answer}
use Rattle.sm4.specs.ScheduleLaws.{expanded_none, expanded_more, expanded_all}
use Rattle.sm4.proofs.schedule.round_keys.Goals as goal

pub returns-then-key-ne16 : goal.returns-then-key-ne16
unfolding keys_answer
returns-then-key-ne16 c = rw (ne_eqb _ 16 c.if-key-ne16.true)

pub loop-i-init : goal.loop-i-init
loop-i-init c = expanded_none c.args.key.now refl c.words_of.ensures c.masked-k.ensures

pub loop-i-preserved : goal.loop-i-preserved
loop-i-preserved c = expanded_more c.args.key.now c.loop-i.i c.loop-i.invariant c.loop-i-test.true c.next_key-k.ensures.value c.next_key-k.ensures.keys_after refl

pub returns : goal.returns
unfolding keys_answer
returns c = rw (eq-eqb _ 16 c.if-key-ne16.false, expanded_all c.args.key.now c.loop-i.invariant (omega arith))
