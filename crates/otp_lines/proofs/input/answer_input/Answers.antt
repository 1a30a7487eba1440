use Rattle.std.proofs.Common.{rules}
use Rattle.std.specs.Prelude.{is_ok}
use Rattle.otp_lines.specs.FeedLaws.{input_stopped, input-ended}
use Rattle.lines.specs.TurnLaws.{on_ok, from_ok, went_well, front_written}
use Rattle.otp_lines.specs.PassLaws.{passes_all}
use Rattle.otp_lines.proofs.input.answer_input.Goals as goal

pub returns-then-is_err-clause-answers : goal.returns-then-is_err-clause-answers
returns-then-is_err-clause-answers g c = input_stopped (search rules) c.answer_pieces-last.ensures.leaves

pub returns-clause-answers : goal.returns-clause-answers
returns-clause-answers g c = input-ended (is_ok c.write_all.result) c.answer_pieces-last.ensures.leaves c.finish-written.ensures.printed

pub returns-clause-output : goal.returns-clause-output
returns-clause-output g c =
    let last = c.answer_pieces-last in
    let ok = went_well c.is_err.result (is_ok last.result.outcome) c.is_err.ensures.negation c.if-is_err.false in
    let written = front_written c.write_all.result (g.W.Write.contents last.new.output) (g.W.Write.contents c.write_all.new.self)
    c.finish-written.result c.finish-written.new.out c.write_all.ensures.bytes in
    on_ok c.write_all.result
    (λ done.
    passes_all (g.W.Write.contents c.write_all.new.self) (from_ok last.result.outcome last.ensures.passes ok)
    (from_ok last.result.outcome last.ensures.end ok) c.finish-written.ensures.printed (from_ok c.write_all.result written done))
