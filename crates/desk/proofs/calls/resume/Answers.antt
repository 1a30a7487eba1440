use Rattle.std.proofs.Common.{ap}
use Rattle.std.proofs.lemmas.Result.{err_from_is_err_and}
use Rattle.otp.specs.Password.{challenge_ok}
use Rattle.otp.specs.TypedLaws.{typed-given, typed-refused}
use Rattle.token.specs.declared.lines.Request.{Request}
use Rattle.desk.specs.Requests.{request_ok}
use Rattle.desk.proofs.CallsLaws.{call-unfit, call-served}
use Rattle.desk.proofs.calls.resume.Goals as goal

pub returns-in_err-p : goal.returns-in_err-p
unfolding request_ok
returns-in_err-p c =
    let p = err_from_is_err_and c.from_residual.result c.from_residual.ensures.1 in
    let refused = typed-refused _ _ c.password_of.ensures c.ok_or.ensures.value (c.in_err-p.was) in
    rw (p.1, p.2, refused.1) (call-unfit _ _ _ _ _ refused.0)

pub returns : goal.returns
unfolding request_ok challenge_ok
returns c =
    let typed = typed-given _ _ c.password_of.ensures c.ok_or.ensures.value (c.in_ok-p.was) in
    call-served _ _ _ _ _ typed.0 (ap Request.Resume typed.1) c.serve.ensures
