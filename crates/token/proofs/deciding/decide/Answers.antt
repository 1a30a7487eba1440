use Rattle.std.proofs.Math.Path.{◌≡◌, ◌∙◌}
use Rattle.std.specs.Prelude.{refl}
use Rattle.std.proofs.Common.{ap}
use Rattle.window.specs.Window.{Sound}
use Rattle.window.specs.PasswordAt.{password_at}
use Rattle.row.specs.declared.Row.{Row}
use Rattle.token.specs.StatesLaws.{waited-track}
use Rattle.token.specs.DecidingLaws.{checked-near, decided-refused, decided-doing, decided-expired, decided-checked}
use Rattle.token.proofs.deciding.decide.Goals as goal

pub returns-then-not-allowed : goal.returns-then-not-allowed
returns-then-not-allowed c =
    decided-refused _ _ _ _ _ c.line_of-line.ensures c.waited-found.ensures c.allowed.ensures c.if-not-allowed.true-raw c.state_refusal.ensures c.refusing.ensures

pub returns-then-found-clock : goal.returns-then-found-clock
returns-then-found-clock c =
    decided-expired _ _ _ _ _ c.line_of-line.ensures c.waited-found.ensures c.allowed.ensures c.if-not-allowed.false-raw refl c.in-Checks.is c.if-found-clock.true c.refusing-then-found-clock.ensures

pub check-swept-requires : goal.check-swept-requires
check-swept-requires c = let e : c.waited-found.result.track ≡ c.args.row.track = ap (λ (x : Row). x.track) c.waited-found.ensures ∙ waited-track c.args.row c.args.clock.0 in
    record { sound = rw e c.requires.sound; challenge_value = rw e c.requires.challenge_value }

pub judging-requires : goal.judging-requires
judging-requires c = let e : c.waited-found.result.track ≡ c.args.row.track = ap (λ (x : Row). x.track) c.waited-found.ensures ∙ waited-track c.args.row c.args.clock.0 in
    let good : Sound c.waited-found.result.track c.args.clock.0 = rw e c.requires.sound in
    record { sound = good; if_accepted = checked-near password_at c.waited-found.result.track c.args.clock.0 c.args.key.now c.args.challenge.now c.in-Checks.asked c.check-swept.result.outcome good c.check-swept.ensures.outcome_value }

pub returns-in-Changes : goal.returns-in-Changes
returns-in-Changes c =
    decided-doing _ _ _ _ _ c.line_of-line.ensures c.waited-found.ensures c.allowed.ensures c.if-not-allowed.false-raw c.in-Changes.is c.changing.ensures

pub returns-in-Tells : goal.returns-in-Tells
returns-in-Tells c =
    decided-doing _ _ _ _ _ c.line_of-line.ensures c.waited-found.ensures c.allowed.ensures c.if-not-allowed.false-raw c.in-Tells.is c.telling.ensures

pub returns-else-found-clock : goal.returns-else-found-clock
returns-else-found-clock c =
    decided-checked _ _ _ _ _ c.line_of-line.ensures c.waited-found.ensures c.allowed.ensures c.if-not-allowed.false-raw refl c.in-Checks.is c.if-found-clock.false c.check-swept.ensures.outcome_value c.judging.ensures
