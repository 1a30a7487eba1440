use Rattle.std.proofs.Common.{refl, arith}
use Rattle.message.specs.Message.{message_at}
use Rattle.message_calls.specs.Serving.{call_for}
use Rattle.message_calls.proofs.ServingLaws.{serial-given, serial-is, sync-options, call-served}
use Rattle.message_calls.proofs.serving.serve_call.Goals as goal

pub unwrap-serial-requires : goal.unwrap-serial-requires
unwrap-serial-requires c = rw (c.serial_of.ensures, serial-given _ c.requires.service_value c.requires.message_value) refl

pub overflow_cast-options : goal.overflow_cast-options
overflow_cast-options c =
    let few = sync-options (message_at c.args.framed.now.message.now) c.requires.service_value c.requires.message_value c.in-Sync.is in
    rw c.options.ensures (omega arith)

pub returns-in-Login : goal.returns-in-Login
unfolding call_for
returns-in-Login c =
    let serial = serial-is (message_at c.args.framed.now.message.now) c.requires.service_value c.requires.message_value c.serial_of.ensures c.unwrap-serial.ensures in
    call-served _ _ c.login.ensures (rw (c.in-Login.is, c.content.ensures, serial))

pub returns-in-ChallengeLogin : goal.returns-in-ChallengeLogin
unfolding call_for
returns-in-ChallengeLogin c =
    let serial = serial-is (message_at c.args.framed.now.message.now) c.requires.service_value c.requires.message_value c.serial_of.ensures c.unwrap-serial.ensures in
    call-served _ _ c.challenge_login.ensures (rw (c.in-ChallengeLogin.is, c.content-in-ChallengeLogin.ensures, c.content-in-ChallengeLogin-2.ensures, serial))

pub returns-in-Activate : goal.returns-in-Activate
unfolding call_for
returns-in-Activate c =
    let serial = serial-is (message_at c.args.framed.now.message.now) c.requires.service_value c.requires.message_value c.serial_of.ensures c.unwrap-serial.ensures in
    call-served _ _ c.activate.ensures (rw (c.in-Activate.is, c.content-in-Activate.ensures, c.content-in-Activate-2.ensures, serial))

pub returns-in-Lock : goal.returns-in-Lock
unfolding call_for
returns-in-Lock c =
    let serial = serial-is (message_at c.args.framed.now.message.now) c.requires.service_value c.requires.message_value c.serial_of.ensures c.unwrap-serial.ensures in
    call-served _ _ c.lock.ensures (rw (c.in-Lock.is, serial))

pub returns-in-Unlock : goal.returns-in-Unlock
unfolding call_for
returns-in-Unlock c =
    let serial = serial-is (message_at c.args.framed.now.message.now) c.requires.service_value c.requires.message_value c.serial_of.ensures c.unwrap-serial.ensures in
    call-served _ _ c.unlock.ensures (rw (c.in-Unlock.is, c.content-in-Unlock.ensures, serial))

pub returns-in-Suspend : goal.returns-in-Suspend
unfolding call_for
returns-in-Suspend c =
    let serial = serial-is (message_at c.args.framed.now.message.now) c.requires.service_value c.requires.message_value c.serial_of.ensures c.unwrap-serial.ensures in
    call-served _ _ c.suspend.ensures (rw (c.in-Suspend.is, serial))

pub returns-in-Resume : goal.returns-in-Resume
unfolding call_for
returns-in-Resume c =
    let serial = serial-is (message_at c.args.framed.now.message.now) c.requires.service_value c.requires.message_value c.serial_of.ensures c.unwrap-serial.ensures in
    call-served _ _ c.resume.ensures (rw (c.in-Resume.is, c.content-in-Resume.ensures, serial))

pub returns-in-Sync : goal.returns-in-Sync
unfolding call_for
returns-in-Sync c =
    let serial = serial-is (message_at c.args.framed.now.message.now) c.requires.service_value c.requires.message_value c.serial_of.ensures c.unwrap-serial.ensures in
    call-served _ _ c.sync.ensures (rw (c.in-Sync.is, c.content-in-Sync.ensures, c.content-in-Sync-2.ensures, c.options.ensures, serial))

pub returns-in-Void : goal.returns-in-Void
unfolding call_for
returns-in-Void c =
    let serial = serial-is (message_at c.args.framed.now.message.now) c.requires.service_value c.requires.message_value c.serial_of.ensures c.unwrap-serial.ensures in
    call-served _ _ c.void.ensures (rw (c.in-Void.is, serial))

pub returns-in-Query : goal.returns-in-Query
unfolding call_for
returns-in-Query c =
    let serial = serial-is (message_at c.args.framed.now.message.now) c.requires.service_value c.requires.message_value c.serial_of.ensures c.unwrap-serial.ensures in
    call-served _ _ c.query.ensures (rw (c.in-Query.is, serial))
