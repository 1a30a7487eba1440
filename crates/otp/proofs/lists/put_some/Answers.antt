use Rattle.std.proofs.Common.{length, ap, ◌∙◌, arith, rules}
use Rattle.otp.specs.ChainLaws.{length-prepared}
use Rattle.otp.specs.CutListsLaws.{cut-chained, put_one, keyed-put}
use Rattle.otp.proofs.lists.put_some.Goals as goal

pub returns-then-challenge-gt0 : goal.returns-then-challenge-gt0
returns-then-challenge-gt0 c = let by = c.if-maker-eq-SM3.false in
    record { result_nonzero = search rules; put = put_one _ _ _ c.requires.out_nonzero (cut-chained _ _ _ _ _ c.time_at.ensures c.count_at.ensures by c.ciphered.ensures) }

pub put_keyed-requires : goal.put_keyed-requires
put_keyed-requires c = let keys = c.requires.ready c.if-maker-eq-SM3.false in
    record { keys_len = ap length keys ∙ length-prepared c.args.key.now; s_bound = search rules; out_nonzero = search rules }

pub returns : goal.returns
returns c = let by = c.if-maker-eq-SM3.false in
    record { result_nonzero = c.put_keyed.ensures.result_nonzero; put = keyed-put _ _ _ _ _ _ _ c.if-challenge-gt0.false by (c.requires.ready by) (omega arith) c.put_keyed.ensures.put }
