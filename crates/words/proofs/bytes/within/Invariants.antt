use Rattle.std.proofs.Common.{◌≡◌, ◌&&◌, drop}
use Rattle.words.specs.Lists.{all_within}
use Rattle.words.proofs.bytes.within.Given as goal

abbrev pub invariant-loop-b : goal.invariant-loop-b
invariant-loop-b l = l.clean && all_within l.low l.high (drop l.b-index l.s) ≡ all_within l.low l.high l.s
