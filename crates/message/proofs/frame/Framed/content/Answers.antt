use Rattle.std.proofs.Common.{◌≡◌, arith, rules, tests, sym, Some, None}
use Rattle.std.specs.Prelude.{find}
use Rattle.std.proofs.lemmas.Iterator.Consumers.{YieldsList-from_first}
use Rattle.std.proofs.lemmas.Iterator.Search.{find_from_yields_List}
use Rattle.message.specs.Reading.{places_in}
use Rattle.message.proofs.ReadingLaws.{is_place, content-none, content-room, content-there}
use Rattle.message.proofs.frame.Framed.content.Goals as goal

pub returns-in_err-place : goal.returns-in_err-place
returns-in_err-place c =
    let found = find_from_yields_List (is_place c.args.identifier) _ _ c.find.result c.find.ensures.ran (YieldsList-from_first (λ x. x) (λ rest. rest) (places_in c.args.self.now.message.now) c.items.ensures) (λ x b q k. search (rules, tests)) in
    let none : c.find.result ≡ None = c.in_err-place.was in
    rw c.from_residual.ensures (content-none c.args.identifier c.args.self.now.message.now (sym (rw none at found)))

pub slice_bounds-result-count : goal.slice_bounds-result-count
slice_bounds-result-count c =
    let found = find_from_yields_List (is_place c.args.identifier) _ _ c.find.result c.find.ensures.ran (YieldsList-from_first (λ x. x) (λ rest. rest) (places_in c.args.self.now.message.now) c.items.ensures) (λ x b q k. search (rules, tests)) in
    let some : c.find.result ≡ Some c.in_ok-place.place = c.in_ok-place.was in
    let there : find (is_place c.args.identifier) (places_in c.args.self.now.message.now) ≡ Some c.in_ok-place.place = sym (rw some at found) in
    (content-room c.args.identifier c.args.self.now.message.now there c.args.self.now.whole.fits).0

pub slice_bounds-result-start : goal.slice_bounds-result-start
slice_bounds-result-start c =
    let found = find_from_yields_List (is_place c.args.identifier) _ _ c.find.result c.find.ensures.ran (YieldsList-from_first (λ x. x) (λ rest. rest) (places_in c.args.self.now.message.now) c.items.ensures) (λ x b q k. search (rules, tests)) in
    let some : c.find.result ≡ Some c.in_ok-place.place = c.in_ok-place.was in
    let there : find (is_place c.args.identifier) (places_in c.args.self.now.message.now) ≡ Some c.in_ok-place.place = sym (rw some at found) in
    let room = content-room c.args.identifier c.args.self.now.message.now there c.args.self.now.whole.fits in
    omega arith

pub slice_bounds-result-end : goal.slice_bounds-result-end
slice_bounds-result-end c =
    let found = find_from_yields_List (is_place c.args.identifier) _ _ c.find.result c.find.ensures.ran (YieldsList-from_first (λ x. x) (λ rest. rest) (places_in c.args.self.now.message.now) c.items.ensures) (λ x b q k. search (rules, tests)) in
    let some : c.find.result ≡ Some c.in_ok-place.place = c.in_ok-place.was in
    let there : find (is_place c.args.identifier) (places_in c.args.self.now.message.now) ≡ Some c.in_ok-place.place = sym (rw some at found) in
    let room = content-room c.args.identifier c.args.self.now.message.now there c.args.self.now.whole.fits in
    omega arith

pub returns : goal.returns
returns c =
    let found = find_from_yields_List (is_place c.args.identifier) _ _ c.find.result c.find.ensures.ran (YieldsList-from_first (λ x. x) (λ rest. rest) (places_in c.args.self.now.message.now) c.items.ensures) (λ x b q k. search (rules, tests)) in
    let some : c.find.result ≡ Some c.in_ok-place.place = c.in_ok-place.was in
    content-there c.args.identifier c.args.self.now.message.now (sym (rw some at found))
