use Rattle.capi.specs.CheckedLaws.{presented-bad, presented-one, presented-challenged, following-bad, presented_two, pair-challenged}
use Rattle.capi.proofs.checking.presented_of.Goals as goal

pub returns-in_err-p : goal.returns-in_err-p
returns-in_err-p c = rw c.from_residual.ensures (presented-bad _ _ _ _ c.password_of.ensures (c.in_err-p.was))

pub returns-then-challenge-eq0 : goal.returns-then-challenge-eq0
returns-then-challenge-eq0 c =
    presented-one _ _ _ _ c.password_of.ensures (c.in_ok-p.was) c.if-following-eq0.true c.if-challenge-eq0.true

pub returns-then-following-eq0 : goal.returns-then-following-eq0
returns-then-following-eq0 c =
    presented-challenged _ _ _ _ c.password_of.ensures (c.in_ok-p.was) c.if-following-eq0.true c.if-challenge-eq0.false

pub returns-in_err-q : goal.returns-in_err-q
returns-in_err-q c =
    rw c.from_residual-in_err-q.ensures (following-bad _ _ _ _ c.password_of.ensures (c.in_ok-p.was) c.if-following-eq0.false c.password_of-2.ensures (c.in_err-q.was))

pub returns-then-challenge-gt0 : goal.returns-then-challenge-gt0
returns-then-challenge-gt0 c =
    pair-challenged _ _ _ _ c.password_of.ensures (c.in_ok-p.was) c.if-following-eq0.false c.password_of-2.ensures (c.in_ok-q.was) c.if-challenge-gt0.true

pub returns : goal.returns
returns c =
    presented_two _ _ _ _ c.password_of.ensures (c.in_ok-p.was) c.if-following-eq0.false c.password_of-2.ensures (c.in_ok-q.was) c.if-challenge-gt0.false
