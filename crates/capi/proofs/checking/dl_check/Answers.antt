use Rattle.std.proofs.Math.Path.{◌∙◌}
use Rattle.capi.specs.CheckedLaws.{check_refused, step_room, computed-room, fresh-room, check_asked, check_unread, check_made, all-written}
use Rattle.capi.proofs.checking.dl_check.Goals as goal

pub returns-then-not-ok-room : goal.returns-then-not-ok-room
returns-then-not-ok-room c = check_refused _ _ _ _ _ _ _ _ c.numbers_ok-ok.ensures _ _ c.if-not-ok-room.true-raw

pub returns-in_default : goal.returns-in_default
returns-in_default c =
    check_unread _ _ _ _ _ _ _ _ c.numbers_ok-ok.ensures c.if-not-ok-room.false-raw _ _ c.size_of.ensures c.presented_of.ensures c.in_default.is

pub check-swept-requires : goal.check-swept-requires
check-swept-requires c = record { sound = (check_asked _ _ _ _ _ c.args.step.now c.args.computed.now c.args.fresh.now c.numbers_ok-ok.ensures c.if-not-ok-room.false-raw).0; challenge_value = (check_asked _ _ _ _ _ c.args.step.now c.args.computed.now c.args.fresh.now c.numbers_ok-ok.ensures c.if-not-ok-room.false-raw).1 }

pub returns : goal.returns
returns c =
    let computed = computed-room _ _ _ _ _ c.args.step.now c.args.computed.now c.args.fresh.now c.numbers_ok-ok.ensures c.if-not-ok-room.false-raw in
    let fresh = fresh-room _ _ _ _ _ c.args.step.now c.args.computed.now c.args.fresh.now c.numbers_ok-ok.ensures c.if-not-ok-room.false-raw in
    all-written c.args.step.now c.args.computed.now c.args.fresh.now c.check-swept.result computed fresh c.put_outcome.ensures
    ∙ check_made _ _ _ _ _ _ _ _ c.numbers_ok-ok.ensures c.if-not-ok-room.false-raw _ _ c.size_of.ensures c.presented_of.ensures c.in-Some.is c.check-swept.ensures.outcome_value c.check-swept.ensures.computed_value c.check-swept.ensures.fresh_value
