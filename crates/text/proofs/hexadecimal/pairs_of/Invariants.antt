use Rattle.std.proofs.Common.{◌≡◌, ◌*◌, ◌++◌, length, take, drop}
use Rattle.text.specs.Steps.{pairs_of}
use Rattle.text.proofs.hexadecimal.pairs_of.Given as goal

abbrev pub invariant-loop-i : goal.invariant-loop-i
invariant-loop-i l = (length l.bytes ≡ 32) × (take l.i l.bytes ++ pairs_of (drop (2 * l.i) l.values) ≡ pairs_of l.values)
