use Rattle.std.proofs.Common.{◌≡◌, ◌<◌, ◌^◌}
use Rattle.words.specs.Bytes.{be_at}
use Rattle.words.proofs.bytes.be_at.Given as goal

abbrev pub invariant-loop-b : goal.invariant-loop-b
invariant-loop-b l = record { value : l.x ≡ be_at l.b-index l.s l.at; below : l.x < 256 ^ l.b-index }
