use Rattle.std.proofs.Common.{arith}
use Rattle.std.specs.Prelude.{length}
use Rattle.words.specs.SwapLaws.{neither_end, zero-ends}
use Rattle.words.proofs.bytes.zeros.Goals as goal

pub le_eight-requires : goal.le_eight-requires
le_eight-requires c = (neither_end (length c.args.s.now) c.if-n.false).0

pub overflow_sub-n : goal.overflow_sub-n
overflow_sub-n c = (neither_end (length c.args.s.now) c.if-n.false).0

pub le_eight-requires-2 : goal.le_eight-requires-2
le_eight-requires-2 c = let l = neither_end (length c.args.s.now) c.if-n.false in omega arith

pub returns : goal.returns
returns c = let l = neither_end (length c.args.s.now) c.if-n.false in rw (c.le_eight.ensures, c.le_eight-2.ensures) (zero-ends c.args.s.now l.0 l.1)
