use Rattle.std.proofs.Common.{arith}
use Rattle.otp.specs.ChainLaws.{sum_of_halves}
use Rattle.otp.proofs.chain.block_sum.Goals as goal

pub returns : goal.returns
returns c =
    sum_of_halves c.args.p c.args.q c.overflowing_add-low.result.1 c.joined-3.ensures c.joined.ensures c.joined-4.ensures c.joined-2.ensures (omega arith) (omega arith)
    c.overflowing_add-low.ensures.value c.overflowing_add-low.ensures.overflow
