use Rattle.std.specs.Prelude.{is_ok}
use Rattle.otp_lines.specs.StreamLaws.{leaves_none, leaves_more}
use Rattle.lines.specs.TurnLaws.{on_ok, from_ok, turn_ends, turn_goes_on}
use Rattle.otp_lines.specs.PassLaws.{passes_none, passes_more}
use Rattle.otp_lines.proofs.input.answer_pieces.Goals as goal

pub loop-init : goal.loop-init
loop-init g c =
    record {
      leaves = rw c.requires leaves_none;
      passes = rw c.requires (passes_none (g.R.Read.remaining c.args.input.now) (g.W.Write.contents c.args.output.now));
    }

pub returns-then-is_err-turn-clause-leaves : goal.returns-then-is_err-turn-clause-leaves
returns-then-is_err-turn-clause-leaves g c = leaves_more c.loop.invariant.leaves c.answer_next-turn.ensures.follows

pub returns-then-is_err-turn-clause-passes : goal.returns-then-is_err-turn-clause-passes
returns-then-is_err-turn-clause-passes g c =
    let turn = c.answer_next-turn in
    on_ok turn.result.outcome (λ ok. passes_more c.loop.invariant.passes turn.ensures.follows turn.ensures.taken (from_ok turn.result.outcome turn.ensures.written ok))

pub returns-then-is_err-turn-clause-end : goal.returns-then-is_err-turn-clause-end
returns-then-is_err-turn-clause-end g c =
    let turn = c.answer_next-turn in
    on_ok turn.result.outcome
    (λ ok.
    from_ok turn.result.outcome turn.ensures.end ok
    (turn_ends c.is_err.result (is_ok turn.result.outcome) turn.result.read c.is_err.ensures.negation c.if-is_err-turn.true ok))

pub loop-preserved : goal.loop-preserved
loop-preserved g c =
    let turn = c.answer_next-turn in
    let ok = turn_goes_on c.is_err.result (is_ok turn.result.outcome) turn.result.read c.is_err.ensures.negation c.if-is_err-turn.false in
    record {
      leaves = leaves_more c.loop.invariant.leaves turn.ensures.follows;
      passes = passes_more c.loop.invariant.passes turn.ensures.follows turn.ensures.taken (from_ok turn.result.outcome turn.ensures.written ok);
    }

pub returns-clause-leaves : goal.returns-clause-leaves
returns-clause-leaves g c = c.loop.invariant.leaves
