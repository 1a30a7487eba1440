use Rattle.std.proofs.Common.{refl, arith, rules}
use Rattle.otp.specs.CutListsLaws.{length-left, put-none, put-length, put_all, put_more}
use Rattle.otp.proofs.lists.put_cuts.Goals as goal

pub loop-i-init : goal.loop-i-init
loop-i-init c = (refl, put-none _ _ _)

pub loop-i-preserved : goal.loop-i-preserved
loop-i-preserved c = let more = put_more _ _ c.loop-i.invariant.1 c.put_some-i.ensures.put in (put-length _ _ more, more)

pub returns : goal.returns
returns c = put_all _ _ (omega arith) c.loop-i.invariant.1
