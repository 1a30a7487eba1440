use Rattle.otp.specs.Password.{password_answer}
use Rattle.capi.specs.StoredLaws.{left_both, coded, stored_not}
use Rattle.capi.proofs.dl_password.Goals as goal

pub returns-in-Ok : goal.returns-in-Ok
returns-in-Ok c =
    left_both (
      coded _ (rw (c.in-Ok.is, c.factor-at.ensures, c.factor-number.ensures) at c.password.ensures.value),
      rw (c.factor-at.ensures, c.factor-number.ensures) at c.password.ensures.out_after,
    )

pub returns-in-Err : goal.returns-in-Err
unfolding password_answer
returns-in-Err c =
    left_both (
      stored_not _ _ _ (rw (c.in-Err.is, c.factor-at.ensures, c.factor-number.ensures) at c.password.ensures.value),
      rw (c.factor-at.ensures, c.factor-number.ensures) at c.password.ensures.out_after,
    )
