use Rattle.call_lines.specs.Line.{call_by}
use Rattle.call_lines.specs.LineLaws.{read_as, read-call}
use Rattle.call_lines.proofs.calls.named_line.Goals as goal

pub returns-in-Load : goal.returns-in-Load
unfolding call_by
returns-in-Load c = read_as _ _ c.load_line.ensures (rw c.in-Load.is)

pub returns-in-Login : goal.returns-in-Login
unfolding call_by
returns-in-Login c = read-call _ _ c.login.ensures (rw (c.in-Login.is, c.field.ensures))

pub returns-in-Challenge : goal.returns-in-Challenge
unfolding call_by
returns-in-Challenge c = read_as _ _ c.challenge_line.ensures (rw c.in-Challenge.is)

pub returns-in-Activate : goal.returns-in-Activate
unfolding call_by
returns-in-Activate c = read-call _ _ c.activate.ensures (rw (c.in-Activate.is, c.field-in-Activate.ensures, c.field-in-Activate-2.ensures))

pub returns-in-Lock : goal.returns-in-Lock
unfolding call_by
returns-in-Lock c = read-call _ _ c.lock.ensures (rw c.in-Lock.is)

pub returns-in-Suspend : goal.returns-in-Suspend
unfolding call_by
returns-in-Suspend c = read-call _ _ c.suspend.ensures (rw c.in-Suspend.is)

pub returns-in-Void : goal.returns-in-Void
unfolding call_by
returns-in-Void c = read-call _ _ c.void.ensures (rw c.in-Void.is)

pub returns-in-Query : goal.returns-in-Query
unfolding call_by
returns-in-Query c = read-call _ _ c.query.ensures (rw c.in-Query.is)

pub returns-in-Unlock : goal.returns-in-Unlock
unfolding call_by
returns-in-Unlock c = read-call _ _ c.unlock.ensures (rw (c.in-Unlock.is, c.field-in-Unlock.ensures))

pub returns-in-Resume : goal.returns-in-Resume
unfolding call_by
returns-in-Resume c = read-call _ _ c.resume.ensures (rw (c.in-Resume.is, c.field-in-Resume.ensures))

pub returns-in-Sync : goal.returns-in-Sync
unfolding call_by
returns-in-Sync c = read_as _ _ c.sync_line.ensures (rw c.in-Sync.is)
