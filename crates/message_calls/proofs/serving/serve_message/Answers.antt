use Rattle.std.proofs.Common.{◌≡◌, Some, None, Err, arith}
use Rattle.token.specs.declared.answers.Refusal.{Refusal}
use Rattle.message_calls.proofs.ServingLaws.{malformed-refused, unfit-refused, mac_refused, no-call, message-served}
use Rattle.message_calls.proofs.serving.serve_message.Goals as goal

pub returns-in_err-framed : goal.returns-in_err-framed
returns-in_err-framed c =
    let none : c.frame_of.result ≡ None = grind arith in
    let answer : c.from_residual.result ≡ Err Refusal.BadMessage = grind arith in
    rw answer (malformed-refused _ c.frame_of.ensures _ _ _ (rw none))

pub returns-then-is_reply-misfits : goal.returns-then-is_reply-misfits
returns-then-is_reply-misfits c =
    let whole : c.frame_of.result ≡ Some c.in_ok-framed.framed = grind arith in
    unfit-refused _ c.frame_of.ensures _ _ _ (rw whole) c.is_reply.ensures c.misfits.ensures c.if-is_reply-misfits.true

pub returns-then-not-mac_fits : goal.returns-then-not-mac_fits
returns-then-not-mac_fits c =
    let whole : c.frame_of.result ≡ Some c.in_ok-framed.framed = grind arith in
    mac_refused _ c.frame_of.ensures _ _ _ (rw whole) c.is_reply.ensures c.misfits.ensures c.if-is_reply-misfits.false c.mac_fits.ensures c.if-not-mac_fits.true-raw

pub returns-in_err-service : goal.returns-in_err-service
returns-in_err-service c =
    let whole : c.frame_of.result ≡ Some c.in_ok-framed.framed = grind arith in
    let none : c.service_of.result ≡ None = grind arith in
    let answer : c.from_residual-in_err-service.result ≡ Err Refusal.NoService = grind arith in
    rw answer (no-call _ c.frame_of.ensures _ _ _ (rw whole) c.is_reply.ensures c.misfits.ensures c.if-is_reply-misfits.false c.mac_fits.ensures c.if-not-mac_fits.false-raw (rw c.service.ensures at c.service_of.ensures) none)

pub returns : goal.returns
returns c =
    let whole : c.frame_of.result ≡ Some c.in_ok-framed.framed = grind arith in
    let some : c.service_of.result ≡ Some c.in_ok-service.service = grind arith in
    message-served _ c.frame_of.ensures _ _ _ (rw whole) c.is_reply.ensures c.misfits.ensures c.if-is_reply-misfits.false c.mac_fits.ensures c.if-not-mac_fits.false-raw (rw c.service.ensures at c.service_of.ensures) some c.serve_call.ensures
