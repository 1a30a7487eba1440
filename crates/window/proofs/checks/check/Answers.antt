use Rattle.std.proofs.Common.{zero-le}
use Rattle.window.specs.PasswordAtLaws.{range-fits}
use Rattle.window.specs.GoalLaws.{single-modulus, pair-modulus}
use Rattle.window.proofs.AskedLaws.{check_miscounted, counted, check_one, check_challenged, check_two}
use Rattle.window.proofs.checks.check.Goals as goal

pub returns-then-not-counts_right : goal.returns-then-not-counts_right
returns-then-not-counts_right c = let r = check_miscounted c.args.track c.args.clock.0 c.args.key.now c.args.challenge.now c.args.asked c.counts_right.ensures c.if-not-counts_right.true-raw in
    record { outcome_value = r.found; computed_value = r.counted; fresh_value = r.matched }

pub single_goal-requires : goal.single_goal-requires
single_goal-requires c =
    let fits = range-fits c.args.track.scheme c.args.key.now c.args.challenge.now c.requires.challenge_value in
    let few = counted c.args.track c.args.clock.0 c.args.key.now c.args.challenge.now c.args.asked c.counts_right.ensures c.if-not-counts_right.false-raw fits.counted in
    rw c.in-One.is at few

pub sweep-requires : goal.sweep-requires
sweep-requires c = let fits = range-fits c.args.track.scheme c.args.key.now c.args.challenge.now c.requires.challenge_value in
    record { sound = c.requires.sound; in_bounds = fits.long; key_len_bound = fits.short; challenge_len_bound = zero-le; modulus_nonzero = single-modulus _ c.single_goal.ensures }

pub single_goal-requires-in-Challenged : goal.single_goal-requires-in-Challenged
single_goal-requires-in-Challenged c =
    let fits = range-fits c.args.track.scheme c.args.key.now c.args.challenge.now c.requires.challenge_value in
    let few = counted c.args.track c.args.clock.0 c.args.key.now c.args.challenge.now c.args.asked c.counts_right.ensures c.if-not-counts_right.false-raw fits.counted in
    rw c.in-Challenged.is at few

pub sweep-requires-in-Challenged : goal.sweep-requires-in-Challenged
sweep-requires-in-Challenged c = let fits = range-fits c.args.track.scheme c.args.key.now c.args.challenge.now c.requires.challenge_value in
    record { sound = c.requires.sound; in_bounds = fits.long; key_len_bound = fits.short; challenge_len_bound = fits.room; modulus_nonzero = single-modulus _ c.single_goal-in-Challenged.ensures }

pub pair_goal-requires : goal.pair_goal-requires
pair_goal-requires c =
    let fits = range-fits c.args.track.scheme c.args.key.now c.args.challenge.now c.requires.challenge_value in
    let few = counted c.args.track c.args.clock.0 c.args.key.now c.args.challenge.now c.args.asked c.counts_right.ensures c.if-not-counts_right.false-raw fits.counted in
    rw c.in-Two.is at few

pub sweep-requires-in-Two : goal.sweep-requires-in-Two
sweep-requires-in-Two c = let fits = range-fits c.args.track.scheme c.args.key.now c.args.challenge.now c.requires.challenge_value in
    record { sound = c.requires.sound; in_bounds = fits.long; key_len_bound = fits.short; challenge_len_bound = zero-le; modulus_nonzero = pair-modulus _ _ c.pair_goal.ensures }

pub returns-in-One : goal.returns-in-One
returns-in-One c = let r = check_one c.args.track c.args.clock.0 c.args.key.now c.args.challenge.now c.args.asked c.counts_right.ensures c.if-not-counts_right.false-raw c.in-One.is c.single_goal.ensures c.sweep.ensures in
    record { outcome_value = r.found; computed_value = r.counted; fresh_value = r.matched }

pub returns-in-Challenged : goal.returns-in-Challenged
returns-in-Challenged c = let r = check_challenged c.args.track c.args.clock.0 c.args.key.now c.args.challenge.now c.args.asked c.counts_right.ensures c.if-not-counts_right.false-raw c.in-Challenged.is c.single_goal-in-Challenged.ensures c.sweep-in-Challenged.ensures in
    record { outcome_value = r.found; computed_value = r.counted; fresh_value = r.matched }

pub returns-in-Two : goal.returns-in-Two
returns-in-Two c = let r = check_two c.args.track c.args.clock.0 c.args.key.now c.args.challenge.now c.args.asked c.counts_right.ensures c.if-not-counts_right.false-raw c.in-Two.is c.pair_goal.ensures c.sweep-in-Two.ensures in
    record { outcome_value = r.found; computed_value = r.counted; fresh_value = r.matched }
