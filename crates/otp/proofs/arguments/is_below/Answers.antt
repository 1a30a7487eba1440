use Rattle.otp.proofs.arguments.is_below.Goals as goal

pub returns-in-Some : goal.returns-in-Some
returns-in-Some c = rw c.in-Some.is
