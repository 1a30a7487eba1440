use Rattle.sm3_lanes.specs.FourLaws.{all-sums}
use Rattle.sm3_lanes.proofs.four_sums.Goals as goal

pub returns : goal.returns
returns c =
    all-sums _ _ _ _ _ _ _ _ _ c.start-v.ensures c.spread-s.ensures c.rounds.ensures c.rounds-2.ensures c.rounds-3.ensures c.sum_at.ensures c.sum_at-2.ensures c.sum_at-3.ensures c.sum_at-4.ensures
