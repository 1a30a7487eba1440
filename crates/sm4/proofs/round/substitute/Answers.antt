use Rattle.std.proofs.Common.{List, ℕ, get_or, ap}
use Rattle.sm4.specs.Sbox.{substitute}
use Rattle.sm4.specs.SboxLaws.{table-sbox}
use Rattle.sm4.proofs.round.substitute.Goals as goal

pub returns : goal.returns
unfolding substitute
returns c = ap (λ (t : List ℕ). get_or t c.args.i 0) table-sbox
