use Rattle.message.specs.FrameLaws.{frame_short, head-unfit, items-fit}
use Rattle.message.proofs.frame.frame_fits.Goals as goal

pub returns-then-message-lt-HEAD-clause-value : goal.returns-then-message-lt-HEAD-clause-value
returns-then-message-lt-HEAD-clause-value c = frame_short _ c.if-message-lt-HEAD.true

pub returns-then-not-is_named-message-clause-value : goal.returns-then-not-is_named-message-clause-value
returns-then-not-is_named-message-clause-value c = head-unfit _ c.head_length-body.ensures c.be_at-size.ensures.value c.is_named.ensures c.if-not-is_named-message.true-raw

pub returns-clause-value : goal.returns-clause-value
returns-clause-value c = items-fit _ c.head_length-body.ensures c.be_at-size.ensures.value c.is_named.ensures c.if-not-is_named-message.false-raw c.items_fill.ensures
