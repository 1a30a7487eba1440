use Rattle.std.proofs.Common.{arith}
use Rattle.otp_lines.specs.StreamLaws.{follows-none}
use Rattle.otp_lines.specs.FeedLaws.{next-fed}
use Rattle.lines.specs.TurnLaws.{on_ok, nothing_taken, front_written}
use Rattle.otp_lines.proofs.input.answer_next.Goals as goal

pub returns-in-Err-clause-follows : goal.returns-in-Err-clause-follows
returns-in-Err-clause-follows g c = follows-none c.args.line.now

pub returns-in-Err-clause-taken : goal.returns-in-Err-clause-taken
returns-in-Err-clause-taken g c = nothing_taken (g.R.Read.remaining c.args.input.now) (g.R.Read.remaining c.read.new.self) c.in-Err.ensures.bytes

pub returns : goal.returns
returns g c = record {
  bounds = omega (arith, c.read.auto.buf, c.feed-written.auto.out, c.in-Ok.ensures.bound.0, c.feed-written.ensures.upper_bound);
  follows = next-fed c.args.line.now c.read.new.buf c.in-Ok.read c.feed-written.ensures.follows;
  taken = c.in-Ok.ensures.bytes.0;
  end = on_ok c.write_all-outcome.result (λ _ none. c.in-Ok.ensures.bytes.1 none (omega (arith, c.read.auto.buf)));
  written =
      front_written c.write_all-outcome.result (g.W.Write.contents c.args.output.now) (g.W.Write.contents c.write_all-outcome.new.self)
      c.feed-written.result c.feed-written.new.out c.write_all-outcome.ensures.bytes;
}
