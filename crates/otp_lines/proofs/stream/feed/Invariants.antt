use Rattle.std.proofs.Common.{◌-◌, length}
use Rattle.otp_lines.specs.FeedLaws.{Feeding}
use Rattle.otp_lines.proofs.stream.feed.Given as goal

abbrev pub invariant-loop-end : goal.invariant-loop-end
invariant-loop-end l = Feeding l.initial.line l.piece l.initial.out l.line l.out l.written l.at l.end

abbrev pub decreases-loop-end : goal.decreases-loop-end
decreases-loop-end l = length l.piece - l.at
