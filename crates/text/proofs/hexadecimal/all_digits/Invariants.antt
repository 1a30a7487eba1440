use Rattle.std.proofs.Common.{◌≡◌, ◌&&◌, map, drop}
use Rattle.text.specs.Text.{digit_value}
use Rattle.text.specs.Steps.{all_hex}
use Rattle.text.proofs.hexadecimal.all_digits.Given as goal

abbrev pub invariant-loop-b : goal.invariant-loop-b
invariant-loop-b l = l.right && all_hex (drop l.b-index (map digit_value l.s)) ≡ all_hex (map digit_value l.s)
