use Rattle.std.specs.Prelude.{◌≡◌, ◌-◌, ◌<◌, false, ◌&&◌, ltb}
use Rattle.otp.specs.CutLists.{step_cut, Ready}
use Rattle.window.specs.Goal.{seeks_pair}
use Rattle.window.proofs.SweepLaws.{Sweeping}
use Rattle.window.proofs.sweep.sweep.Given as goal

-- a pair that hits ends the loop
abbrev pub invariant-loop-i : goal.invariant-loop-i
invariant-loop-i l = record {
  sweeping : Sweeping l.goal (step_cut l.maker.algorithm l.key l.challenge l.maker.timed) l.ahead l.first l.end l.next l.cuts l.made l.met l.i;
  unmet : seeks_pair l.goal && ltb 0 l.met.fresh ≡ false;
  ready : 0 < l.end - l.first → Ready l.maker.algorithm l.key l.ready;
}
