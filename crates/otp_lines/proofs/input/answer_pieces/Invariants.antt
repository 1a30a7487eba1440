use Rattle.otp_lines.specs.Stream.{Leaves, Passes}
use Rattle.otp_lines.proofs.input.answer_pieces.Given as goal

abbrev pub invariant-loop : goal.invariant-loop
invariant-loop g l =
    record {
      leaves : Leaves l.line;
      passes :
          Passes (g.R.Read.remaining l.initial.input) (g.R.Read.remaining l.input) (g.W.Write.contents l.initial.output) (g.W.Write.contents l.output) l.line;
    }
