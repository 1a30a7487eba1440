use Rattle.std.proofs.lemmas.Result.{err_from_is_err_and}
use Rattle.desk.proofs.ServingLaws.{query-unfit, query-missing, query-told}
use Rattle.desk.proofs.serving.query.Goals as goal

pub returns-then-not-lent_ok : goal.returns-then-not-lent_ok
returns-then-not-lent_ok c = query-unfit _ _ _ _ c.lent_ok.ensures c.if-not-lent_ok.true-raw

pub returns-in_err-located : goal.returns-in_err-located
returns-in_err-located c =
    let p = err_from_is_err_and c.from_residual.result c.from_residual.ensures.1 in
    rw p.1 (query-missing _ _ _ _ c.lent_ok.ensures c.if-not-lent_ok.false-raw c.locate.ensures (c.in_err-located.was) p.2)

pub returns : goal.returns
returns c =
    query-told _ _ _ _ c.lent_ok.ensures c.if-not-lent_ok.false-raw c.locate.ensures (c.in_ok-located.was) c.report.ensures
