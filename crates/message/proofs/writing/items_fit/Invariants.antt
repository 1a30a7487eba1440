use Rattle.std.specs.Slice.Iter.{iter_rest}
use Rattle.std.specs.Iterator.Adapters.{zip_first, zip_second}
use Rattle.message.proofs.LendingLaws.{Fitting}
use Rattle.message.proofs.writing.items_fit.Given as goal

abbrev pub invariant-loop-identifier : goal.invariant-loop-identifier
invariant-loop-identifier l = Fitting l.identifiers l.lengths l.contents l.low l.left (iter_rest (zip_first l.identifier-iterator)) (iter_rest (zip_second l.identifier-iterator))
