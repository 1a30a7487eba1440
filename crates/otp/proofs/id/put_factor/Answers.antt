use Rattle.otp.specs.IdLaws.{factor_absent, factor_present}
use Rattle.otp.proofs.id.put_factor.Goals as goal

pub returns-in-None : goal.returns-in-None
returns-in-None c = record { value = rw c.in-None.is (factor_absent c.args.width c.args.at c.args.out.now).0; out_after = rw c.in-None.is (factor_absent c.args.width c.args.at c.args.out.now).1 }

pub returns-in-Some : goal.returns-in-Some
returns-in-Some c = record { value = rw c.in-Some.is (factor_present c.args.width c.args.at c.in-Some.x c.args.out.now (c.requires) c.put_be.ensures).0; out_after = rw c.in-Some.is (factor_present c.args.width c.args.at c.in-Some.x c.args.out.now (c.requires) c.put_be.ensures).1 }
