use Rattle.std.proofs.Common.{◌≡◌, ◌-◌, length}
use Rattle.otp.specs.CutLists.{step_cut, Put}
use Rattle.otp.proofs.lists.put_cuts.Given as goal

abbrev pub invariant-loop-i : goal.invariant-loop-i
invariant-loop-i l = (length l.out ≡ length l.initial.out) × Put (step_cut l.maker.algorithm l.key l.challenge l.maker.timed) l.i l.s l.initial.out l.out

abbrev pub decreases-loop-i : goal.decreases-loop-i
decreases-loop-i l = length l.initial.out - l.i
