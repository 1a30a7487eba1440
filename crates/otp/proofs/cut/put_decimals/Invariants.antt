use Rattle.std.proofs.Common.{◌≡◌, ◌++◌, drop}
use Rattle.otp.specs.Password.{decimals}
use Rattle.otp.proofs.cut.put_decimals.Given as goal

abbrev pub invariant-loop-i : goal.invariant-loop-i
invariant-loop-i l = decimals l.i l.rest ++ drop l.i l.out ≡ decimals l.n l.x ++ drop l.n l.initial.out
