use Rattle.window.proofs.StandLaws.{stand-begun, sure_some, goes-on}
use Rattle.window.proofs.SweepLaws.{told-begun, swept-made, first-put, Reached, more-made, enough-made, looked-at, met-below, all-placed, pair-met}
use Rattle.window.specs.WindowLaws.{first_small, candidates_few}
use Rattle.std.specs.Prelude.{ℕ, ◌+◌, ◌-◌, length, replicate}
use Rattle.std.proofs.Common.{sym, ap, ◌∙◌, arith, le-ltb}
use Rattle.window.specs.declared.met.Met.{Met}
use Rattle.words.specs.BoolLaws.{and_false}
use borrow.Rule.Slice.PartMut.{same_len_mid}
use Rattle.window.proofs.sweep.sweep.Goals as goal
use Rattle.window.proofs.sweep.sweep.Goals.{else-loop-i-test, then-loop-i-test+then-met-gt0+then-pair, then-made-i, else-made-i, else-met-gt0-via-then-met-gt0+else-pair, else-met-gt0-via-else-met-gt0}

pub slice_bounds-cuts-end : goal.slice_bounds-cuts-end
slice_bounds-cuts-end c =
    let few = candidates_few c.args.track c.args.clock.0 c.args.size in
    omega (arith, few, c.sure_cuts-made.ensures.upper_bound, c.saturating_sub-all.ensures, c.candidates-range.ensures.first_value, c.candidates-range.ensures.end_value)

pub put_first_cuts-requires-clause-out_bound : goal.put_first_cuts-requires-clause-out_bound
put_first_cuts-requires-clause-out_bound c =
    let few = candidates_few c.args.track c.args.clock.0 c.args.size in
    let small = first_small c.args.track c.args.clock.0 c.args.size c.requires.sound in
    omega (arith, few, small, c.sure_cuts-made.ensures.upper_bound, c.saturating_sub-all.ensures, c.candidates-range.ensures.first_value, c.candidates-range.ensures.end_value)

pub loop-i-init : goal.loop-i-init
loop-i-init c =
    let few = candidates_few c.args.track c.args.clock.0 c.args.size in
    let small = first_small c.args.track c.args.clock.0 c.args.size c.requires.sound in
    record {
      sweeping = record {
        stand = stand-begun c.args.goal _ _ _ _ c.ahead_by-ahead.ensures.value (rw (c.candidates-range.ensures.first_value, c.candidates-range.ensures.end_value) few) (rw c.candidates-range.ensures.first_value small) (c.sure_cuts-made.ensures.value ∙ rw (c.saturating_sub-all.ensures, c.saturating_sub.ensures));
        told = told-begun c.candidates-range.result.first.0 c.candidates-range.result.end.0 c.args.track.next.0 c.args.goal _;
        room = same_len_mid 0 (c.sure_cuts-made.result - 0) (replicate {A = ℕ} 51 0) c.put_first_cuts.new.out c.put_first_cuts.auto.out;
        are = first-put _ _ c.sure_cuts-made.result _ (omega arith) c.put_first_cuts.ensures.out_after;
      };
      unmet = and_false _;
      ready = λ l. c.put_first_cuts.ensures.ready (omega (arith, sure_some c.args.goal _ c.sure_cuts-made.ensures.value (omega (arith, l, c.saturating_sub-all.ensures))));
    }

pub loop-i-preserved : goal.loop-i-preserved
loop-i-preserved c =
    let inv = c.loop-i.invariant.sweeping in
    let still = goes-on inv.stand (omega arith) c.loop-i.invariant.unmet in
    let reached : Reached inv still c.if-made-i.cuts c.if-made-i.made = elim c.if-made-i.branch [
      | then-made-i w ↦ more-made inv still _ w.if-made-i.true (w.more_sure-more.ensures.value, (w.more_sure-more.ensures.lower_bound, w.more_sure-more.ensures.upper_bound)) w.put_cuts.ensures w.cuts-is
          (ap length w.cuts-is ∙ same_len_mid c.loop-i.made (c.loop-i.made + w.more_sure-more.result - c.loop-i.made) c.loop-i.cuts w.put_cuts.new.out w.put_cuts.auto.out) w.made-is
      | else-made-i w ↦ enough-made inv still w.if-made-i.false w.cuts-is w.made-is
    ] in
    record {
      sweeping = looked-at inv still reached c.hits-hit.ensures c.met_by-met.ensures;
      unmet = elim c.else-met-gt0.branch [
        | else-met-gt0-via-then-met-gt0+else-pair w ↦ rw (sym c.is_some-pair.ensures ∙ w.if-pair.false)
        | else-met-gt0-via-else-met-gt0 w ↦ rw (le-ltb 0 c.met_by-met.result.fresh w.if-met-gt0.false) (and_false _)
      ];
      ready = c.loop-i.invariant.ready;
    }

pub met_outcome-requires-clause-at_bound : goal.met_outcome-requires-clause-at_bound
met_outcome-requires-clause-at_bound c =
    let stand = c.loop-i.invariant.sweeping.stand in
    elim c.loop-i-test.branch [
      | else-loop-i-test w ↦ omega (arith, ap (λ (m : Met). m.at) w.met-is, stand.near, stand.looked, stand.few)
      | then-loop-i-test+then-met-gt0+then-pair w ↦ omega (arith, met-below c.loop-i.met c.loop-i-test.met _ _ _ c.loop-i.i (w.met-is ∙ w.met_by-met.ensures) stand.near, stand.looked, stand.few)
    ]

pub returns : goal.returns
returns c =
    let inv = c.loop-i.invariant.sweeping in
    elim c.loop-i-test.branch [
      | else-loop-i-test w ↦
          let ended = all-placed c.candidates-range.result.first.0 c.candidates-range.result.end.0 c.ahead_by-ahead.result c.loop-i.i _ (omega (arith, w.loop-i-test.false, c.saturating_sub-i-end.ensures, c.saturating_sub-all.ensures)) in
          rw (w.made-is, w.met-is)
          (swept-made c.args.track c.args.clock.0 c.args.size c.args.goal c.args.key.now c.args.challenge.now c.candidates-range.ensures.first_value c.candidates-range.ensures.end_value c.ahead_by-ahead.ensures.value c.maker_of-maker.ensures inv ended (rw w.met-is at c.met_outcome.ensures))
      | then-loop-i-test+then-met-gt0+then-pair w ↦
          let still = goes-on inv.stand (omega arith) c.loop-i.invariant.unmet in
          let reached : Reached inv still w.if-made-i.cuts w.if-made-i.made = elim w.if-made-i.branch [
            | then-made-i v ↦ more-made inv still _ v.if-made-i.true (v.more_sure-more.ensures.value, (v.more_sure-more.ensures.lower_bound, v.more_sure-more.ensures.upper_bound)) v.put_cuts.ensures v.cuts-is
                (ap length v.cuts-is ∙ same_len_mid c.loop-i.made (c.loop-i.made + v.more_sure-more.result - c.loop-i.made) c.loop-i.cuts v.put_cuts.new.out v.put_cuts.auto.out) v.made-is
            | else-made-i v ↦ enough-made inv still v.if-made-i.false v.cuts-is v.made-is
          ] in
          let looked = looked-at inv still reached w.hits-hit.ensures w.met_by-met.ensures in
          let ended = pair-met c.args.goal w.met_by-met.result _ (sym c.is_some-pair.ensures ∙ w.if-pair.true) w.if-met-gt0.true in
          rw (w.made-is, w.met-is)
          (swept-made c.args.track c.args.clock.0 c.args.size c.args.goal c.args.key.now c.args.challenge.now c.candidates-range.ensures.first_value c.candidates-range.ensures.end_value c.ahead_by-ahead.ensures.value c.maker_of-maker.ensures looked ended (rw w.met-is at c.met_outcome.ensures))
    ]
