use Rattle.otp_lines.specs.FeedLaws.{padded-length, answer-put}
use Rattle.std.proofs.Common.{arith}
use Rattle.otp_lines.proofs.output.put_answer.Goals as goal

pub put-requires : goal.put-requires
put-requires c =
    omega (arith, padded-length c.args.line.now c.answer-printed.ensures c.padded.ensures)

pub returns : goal.returns
returns c = record {
  upper_bound = omega arith;
  put = answer-put c.args.out.now c.args.at c.args.line.now c.answer-printed.ensures c.padded.ensures (omega arith) c.put.ensures c.len.ensures.value (omega (arith, padded-length c.args.line.now c.answer-printed.ensures c.padded.ensures, c.put.auto.out));
}
