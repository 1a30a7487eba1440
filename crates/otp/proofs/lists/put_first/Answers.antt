use Rattle.std.proofs.Common.{refl, arith}
use Rattle.otp.specs.ChainLaws.{keys_ok, keys_put}
use Rattle.otp.specs.CutListsLaws.{put-none, keyed-put}
use Rattle.otp.proofs.lists.put_first.Goals as goal

pub returns-then-maker-eq-SM3-clause-put : goal.returns-then-maker-eq-SM3-clause-put
returns-then-maker-eq-SM3-clause-put c = put-none _ _ _

pub unwrap-requires : goal.unwrap-requires
unwrap-requires c = keys_ok c.args.key.now c.requires.in_bounds c.round_keys.ensures

pub returns-then-challenge-gt0-clause-put : goal.returns-then-challenge-gt0-clause-put
returns-then-challenge-gt0-clause-put c = put-none _ _ _

pub returns-then-challenge-gt0-clause-ready : goal.returns-then-challenge-gt0-clause-ready
returns-then-challenge-gt0-clause-ready c n = keys_put c.args.key.now c.requires.in_bounds c.round_keys.ensures c.args.ready.now c.unwrap.ensures c.requires.ready_len c.copy.ensures

pub returns-then-out-lt3-clause-put : goal.returns-then-out-lt3-clause-put
returns-then-out-lt3-clause-put c = keyed-put _ _ _ _ _ _ _ c.if-challenge-gt0.false c.if-maker-eq-SM3.false refl (omega arith) c.put_fresh.ensures.put

pub returns-clause-put : goal.returns-clause-put
returns-clause-put c = keyed-put _ _ _ _ _ _ _ c.if-challenge-gt0.false c.if-maker-eq-SM3.false refl (omega arith) c.put_fresh-2.ensures.put
