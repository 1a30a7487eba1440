use Rattle.text.specs.DecimalLaws.{ReadAll}
use Rattle.text.proofs.numbers.few_digits.Given as goal

abbrev pub invariant-loop-b : goal.invariant-loop-b
invariant-loop-b l = ReadAll l.s l.value l.b-index l.right
