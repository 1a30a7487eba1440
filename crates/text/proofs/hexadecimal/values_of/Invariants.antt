use Rattle.std.proofs.Common.{◌≡◌, ◌++◌, map, length, take, drop}
use Rattle.text.specs.Text.{digit_value}
use Rattle.text.proofs.hexadecimal.values_of.Given as goal

abbrev pub invariant-loop-i : goal.invariant-loop-i
invariant-loop-i l = (length l.values ≡ 64) × (take l.i l.values ++ map digit_value (drop l.i l.digits) ≡ map digit_value l.digits)
