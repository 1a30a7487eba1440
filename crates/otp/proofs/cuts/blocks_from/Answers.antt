use Rattle.std.proofs.Common.{◌+◌, arith}
use Rattle.std.proofs.lemmas.List.FromFn.{fill_by_all}
use Rattle.otp.specs.StepCuts.{step_block}
use Rattle.otp.proofs.cuts.blocks_from.Goals as goal

pub returns : goal.returns
returns g c = fill_by_all (λ k. step_block c.args.timed (c.args.s + k)) c.loop-l.lanes g.row.N (record { a = 0; b = 0; c = 0; d = 0 }) c.loop-l.invariant.0 (λ k h. c.loop-l.invariant.1 k (omega arith))
