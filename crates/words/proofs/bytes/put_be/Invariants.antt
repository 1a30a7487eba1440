use Rattle.std.proofs.Common.{◌≡◌}
use Rattle.words.specs.Bytes.{put_be}
use Rattle.words.proofs.bytes.put_be.Given as goal

abbrev pub invariant-loop-i : goal.invariant-loop-i
invariant-loop-i l = put_be l.i l.s l.at l.rest ≡ put_be l.k l.initial.s l.at l.x
