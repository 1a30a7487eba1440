use Rattle.std.proofs.Common.{◌≡◌, ◌-◌}
use Rattle.sm4.specs.Sm4.{words_of}
use Rattle.otp.specs.Chain.{chain}
use Rattle.otp.proofs.chain.chain.Given as goal

abbrev pub invariant-loop-i : goal.invariant-loop-i
invariant-loop-i l = l.out ≡ words_of (chain l.keys l.s (l.i - 1))
