use Rattle.row.specs.Row.{number_tests, numbers_ok}
use Rattle.row.specs.ReadLaws.{all_made_lem, within-range}
use Rattle.row.proofs.ranges.numbers_ok.Goals as goal

pub returns : goal.returns
unfolding numbers_ok number_tests
returns c =
    rw (
      c.kind_ok.ensures,
      within-range _ c.new.ensures.start c.new.ensures.end c.new.ensures.exhausted c.contains.ensures.value,
      c.period_ok.ensures,
      within-range _ c.new-2.ensures.start c.new-2.ensures.end c.new-2.ensures.exhausted c.contains-2.ensures.value,
      within-range _ c.new-3.ensures.start c.new-3.ensures.end c.new-3.ensures.exhausted c.contains-3.ensures.value,
      c.next_ok.ensures,
      c.offset_ok.ensures,
      within-range _ c.new-4.ensures.start c.new-4.ensures.end c.new-4.ensures.exhausted c.contains-4.ensures.value,
    )
    (all_made_lem (number_tests c.args.highest c.args.row))
