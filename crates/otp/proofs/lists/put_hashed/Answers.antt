use Rattle.std.proofs.Common.{arith, rules}
use Rattle.otp.specs.CutListsLaws.{cut_hashed, put_one, hashed_put, several-left}
use Rattle.otp.proofs.lists.put_hashed.Goals as goal

pub returns-then-challenge-out : goal.returns-then-challenge-out
returns-then-challenge-out c = let left = several-left c.args.challenge.now c.args.out.now c.if-challenge-out.true in
    record { result_nonzero = omega (arith, left.1, c.min-n.ensures); put = hashed_put _ _ _ _ _ _ _ left.0 _ (omega (arith, c.min-n.ensures)) c.copy.ensures c.requires.algorithm_value c.hashed_cuts-cuts.ensures }

pub returns : goal.returns
returns c = record { result_nonzero = search rules; put = put_one _ _ _ c.requires.out_nonzero (cut_hashed _ _ _ _ _ c.time_at.ensures c.count_at.ensures c.requires.algorithm_value c.hashed.ensures) }
