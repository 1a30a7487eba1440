use Rattle.std.proofs.Common.{sym}
use Rattle.std.proofs.lemmas.Slice.Zip.{Zip-more, either_empty_from_Zip}
use Rattle.message.proofs.LendingLaws.{fit-counts, fit-end, fit_not, fit_next}
use Rattle.message.proofs.writing.items_fit.Goals as goal

pub returns-then-identifiers-lengths : goal.returns-then-identifiers-lengths
returns-then-identifiers-lengths c = sym (fit-counts _ _ _ c.if-identifiers-lengths.true)

pub returns-then-id-low : goal.returns-then-id-low
returns-then-id-low c =
    let turn = Zip-more c.loop-identifier.identifier-iterator c.next.new.self _ _ c.in-Some.is c.next.ensures.steps in
    fit_not _ _ _ _ _ c.loop-identifier.invariant turn.0 turn.1 c.if-id-low.true

pub loop-identifier-preserved : goal.loop-identifier-preserved
loop-identifier-preserved c =
    let turn = Zip-more c.loop-identifier.identifier-iterator c.next.new.self _ _ c.in-Some.is c.next.ensures.steps in
    fit_next _ _ _ _ _ c.loop-identifier.invariant turn.0 turn.1 c.if-id-low.false

pub returns : goal.returns
returns c = fit-end _ _ _ _ _ _ _ c.loop-identifier.invariant (either_empty_from_Zip c.loop-identifier.identifier-iterator c.next.new.self _ c.in-None.is c.next.ensures.steps)
