use Rattle.capi.specs.DeskLeftLaws.{left-short, left-answered}
use Rattle.capi.proofs.desk_calls.dl_login.Goals as goal

pub returns-then-values-lt-MOST_VALUES : goal.returns-then-values-lt-MOST_VALUES
returns-then-values-lt-MOST_VALUES c = left-short _ _ _ c.if-values-lt-MOST_VALUES.true

pub returns : goal.returns
returns c = left-answered _ _ c.login-answer.ensures c.put_answer.ensures.value _ c.if-values-lt-MOST_VALUES.false c.put_answer.ensures.values_after
