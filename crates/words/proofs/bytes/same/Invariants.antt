use Rattle.std.proofs.Common.{◌≡◌, ◌&&◌, drop}
use Rattle.words.specs.Lists.{same_bytes}
use Rattle.words.proofs.bytes.same.Given as goal

abbrev pub invariant-loop-i : goal.invariant-loop-i
invariant-loop-i l = l.alike && same_bytes (drop l.i l.a) (drop l.i l.b) ≡ same_bytes l.a l.b
