use Rattle.std.proofs.Common.{◌≡◌, ◌&&◌, drop}
use Rattle.text.specs.Steps.{all_hex}
use Rattle.text.proofs.hexadecimal.all_hex.Given as goal

abbrev pub invariant-loop-value : goal.invariant-loop-value
invariant-loop-value l = l.right && all_hex (drop l.value-index l.value-items) ≡ all_hex l.value-items
