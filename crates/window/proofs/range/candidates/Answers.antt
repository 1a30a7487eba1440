use Rattle.std.proofs.Math.Nat.{div-le_self, lt_of_le_of_lt}
use borrow.Author.Tests.{eq-eqb, ne_eqb}
use Rattle.window.specs.Range.{first_step, end_step}
use Rattle.window.proofs.range.candidates.Goals as goal

pub step_at-t-requires : goal.step_at-t-requires
step_at-t-requires c = c.requires.divided c.if-track-eq-TIME_TOKEN.true

pub time_range-requires : goal.time_range-requires
time_range-requires c = record { t_bound = rw c.step_at-t.ensures (lt_of_le_of_lt (div-le_self c.args.clock.0 c.args.track.period) c.requires.timely); offset_bound = c.requires.within; w_bound = c.widths-time_width.ensures.time_bound }

pub returns-then-track-eq-TIME_TOKEN : goal.returns-then-track-eq-TIME_TOKEN
unfolding first_step end_step
returns-then-track-eq-TIME_TOKEN c = record { first_value = rw (eq-eqb c.args.track.scheme.kind 0 c.if-track-eq-TIME_TOKEN.true, ← c.step_at-t.ensures, ← c.widths-time_width.ensures.time_value) c.time_range.ensures.first_value; end_value = rw (eq-eqb c.args.track.scheme.kind 0 c.if-track-eq-TIME_TOKEN.true, ← c.step_at-t.ensures, ← c.widths-time_width.ensures.time_value) c.time_range.ensures.end_value }

pub returns : goal.returns
unfolding first_step end_step
returns c = record { first_value = rw (ne_eqb c.args.track.scheme.kind 0 c.if-track-eq-TIME_TOKEN.false) c.event_range.ensures.first_value; end_value = rw (ne_eqb c.args.track.scheme.kind 0 c.if-track-eq-TIME_TOKEN.false, ← c.widths-time_width.ensures.event_value) c.event_range.ensures.end_value }
