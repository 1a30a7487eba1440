use Rattle.std.proofs.Math.Path.{◌≡◌}
use Rattle.std.specs.Prelude.{true, false, eqb}
use Rattle.std.proofs.Math.Bool.{◌||◌}
use Rattle.std.proofs.lemmas.Bool.{not-true, not-false}
use Rattle.std.proofs.lemmas.Result.{err_from_is_err_and}
use Rattle.words.specs.BoolLaws.{and_false}
use Rattle.otp.specs.Password.{challenge_ok}
use Rattle.otp.specs.TypedLaws.{typed-given, typed-refused}
use Rattle.desk.specs.Requests.{request_ok}
use Rattle.desk.proofs.CallsLaws.{call-unfit, call-served}
use Rattle.desk.proofs.calls.sync.Goals as goal

pub returns-then-not-choice : goal.returns-then-not-choice
unfolding request_ok
returns-then-not-choice c =
    let choice = c.args.choice in
    let wrong : eqb choice 1 || eqb choice 2 ≡ false = not-true _ c.if-not-choice.true-raw in
    call-unfit _ _ _ _ _ (rw wrong)

pub returns-in_err-p : goal.returns-in_err-p
unfolding request_ok
returns-in_err-p c =
    let p = err_from_is_err_and c.from_residual.result c.from_residual.ensures.1 in
    let refused = typed-refused _ _ c.password_of.ensures c.ok_or.ensures.value (c.in_err-p.was) in
    rw (p.1, p.2, refused.1) (call-unfit _ _ _ _ _ (rw (refused.0, and_false)))

pub returns-in_err-q : goal.returns-in_err-q
unfolding request_ok
returns-in_err-q c =
    let p = err_from_is_err_and c.from_residual-in_err-q.result c.from_residual-in_err-q.ensures.1 in
    let refused = typed-refused _ _ c.password_of-2.ensures c.ok_or-2.ensures.value (c.in_err-q.was) in
    rw (p.1, p.2, refused.1) (call-unfit _ _ _ _ _ (rw (refused.0, and_false, and_false)))

pub returns : goal.returns
unfolding request_ok challenge_ok
returns c =
    let choice = c.args.choice in
    let right : eqb choice 1 || eqb choice 2 ≡ true = not-false _ c.if-not-choice.false-raw in
    let first = typed-given _ _ c.password_of.ensures c.ok_or.ensures.value (c.in_ok-p.was) in
    let second = typed-given _ _ c.password_of-2.ensures c.ok_or-2.ensures.value (c.in_ok-q.was) in
    call-served _ _ _ _ _ (rw (right, first.0, second.0)) (rw (c.size_of.ensures, first.1, second.1)) c.serve.ensures
