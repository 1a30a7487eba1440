use Rattle.std.proofs.Common.{arith}
use Rattle.otp.specs.CutListsLaws.{put-none, put_all, put-room, put_rest}
use Rattle.otp.proofs.lists.put_first_cuts.Goals as goal

pub returns-then-out-eq0 : goal.returns-then-out-eq0
returns-then-out-eq0 c = record { out_after = put_all _ _ (omega arith) (put-none _ _ _); ready = λ h n. absurd (omega arith) }

pub returns : goal.returns
returns c = record { out_after = put_rest _ _ c.put_first-made.ensures.put c.put_cuts.ensures; ready = λ h. c.put_first-made.ensures.ready }
