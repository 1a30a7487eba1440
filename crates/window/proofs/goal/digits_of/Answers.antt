use Rattle.window.proofs.goal.digits_of.Goals as goal

pub returns-then-modulus-eq1000000 : goal.returns-then-modulus-eq1000000
returns-then-modulus-eq1000000 c = rw c.if-modulus-eq1000000.true
