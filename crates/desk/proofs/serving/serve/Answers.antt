use Rattle.std.proofs.Common.{arith}
use Rattle.std.proofs.lemmas.Result.{err_from_is_err_and}
use Rattle.desk.proofs.ServingLaws.{serve_unfit, serve_missing, serve_made, row_within, key-within, lent_in_range, clock-lent, challenge-lent}
use Rattle.desk.proofs.serving.serve.Goals as goal

pub returns-then-not-lent_ok-challenge_fits : goal.returns-then-not-lent_ok-challenge_fits
returns-then-not-lent_ok-challenge_fits c = serve_unfit _ _ _ _ _ _ c.lent_ok.ensures c.challenge_fits.ensures c.if-not-lent_ok-challenge_fits.true-raw

pub returns-in_err-located : goal.returns-in_err-located
returns-in_err-located c =
    let p = err_from_is_err_and c.from_residual.result c.from_residual.ensures.1 in
    rw p.1 (serve_missing _ _ _ _ _ _ c.lent_ok.ensures c.challenge_fits.ensures c.if-not-lent_ok-challenge_fits.false-raw c.locate.ensures (c.in_err-located.was) p.2)

pub overflow_add-start : goal.overflow_add-start
overflow_add-start c = omega (arith, row_within _ _ c.locate.ensures (c.in_ok-located.was))

pub overflow_add-end : goal.overflow_add-end
overflow_add-end c = omega (arith, key-within _ _ c.locate.ensures (c.in_ok-located.was))

pub slice_bounds-decide-end : goal.slice_bounds-decide-end
slice_bounds-decide-end c = omega (arith, key-within _ _ c.locate.ensures (c.in_ok-located.was))

pub decide-decision-requires : goal.decide-decision-requires
decide-decision-requires c =
    let lent = c.lent_ok.result in
    let fits = c.challenge_fits.result in
    let clock = clock-lent lent fits c.if-not-lent_ok-challenge_fits.false-raw _ _ c.lent_ok.ensures in
    let challenge = challenge-lent lent fits c.if-not-lent_ok-challenge_fits.false-raw c.args.request _ c.challenge_fits.ensures in
    let p = lent_in_range _ _ c.locate.ensures (c.in_ok-located.was) _ clock challenge in
    record { sound = p.0; challenge_value = p.1 }

pub leave-requires : goal.leave-requires
leave-requires c = row_within _ _ c.locate.ensures (c.in_ok-located.was)

pub returns : goal.returns
returns c =
    serve_made _ _ _ _ _ _ c.lent_ok.ensures c.challenge_fits.ensures c.if-not-lent_ok-challenge_fits.false-raw c.locate.ensures (c.in_ok-located.was) c.decide-decision.ensures c.leave.ensures
