use Rattle.std.specs.Prelude.{refl}
use Rattle.sm4.specs.Sm4.{masked}
use Rattle.sm4.proofs.schedule.masked.Goals as goal

pub returns : goal.returns
unfolding masked
returns c = refl
