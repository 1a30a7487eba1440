use Rattle.otp_lines.specs.FeedLaws.{feeding_begin, feeding_line, feeding_end}
use Rattle.std.proofs.Common.{arith}
use Rattle.otp_lines.proofs.stream.feed.Goals as goal

pub loop-end-init : goal.loop-end-init
loop-end-init c =
    feeding_begin c.args.line.now c.args.piece.now c.args.out.now c.find-end.ensures.value c.find-end.ensures.upper_bound

pub loop-end-preserved : goal.loop-end-preserved
loop-end-preserved c =
    let put = c.put_line-written in
    let next = c.find-end-in-loop-end in
    feeding_line c.args.line.now c.args.piece.now c.args.out.now c.loop-end.line c.loop-end.out c.loop-end.written c.loop-end.at c.loop-end.end c.loop-end.invariant c.loop-end-test.true put.auto.out put.ensures.upper_bound put.ensures.none put.ensures.put next.ensures.value next.ensures.upper_bound

pub returns : goal.returns
returns c = record {
  upper_bound = omega (arith, c.loop-end.invariant.room, c.loop-end.invariant.start, c.loop-end.invariant.within, c.requires);
  follows = feeding_end c.args.line.now c.args.piece.now c.args.out.now c.loop-end.line c.loop-end.out c.loop-end.written c.loop-end.at c.loop-end.end c.loop-end.invariant c.loop-end-test.false c.extend.ensures;
}
