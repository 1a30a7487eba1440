use Rattle.std.specs.Slice.Iter.{iter_rest}
use Rattle.std.specs.Iterator.Adapters.{zip_first, zip_second}
use Rattle.message.proofs.LayingLaws.{Laying}
use Rattle.message.proofs.writing.Draft.lay_items.Given as goal

abbrev pub invariant-loop-identifier : goal.invariant-loop-identifier
invariant-loop-identifier l = Laying l.self.items l.out l.at (iter_rest (zip_first l.identifier-iterator)) (iter_rest (zip_second l.identifier-iterator)) l.contents
