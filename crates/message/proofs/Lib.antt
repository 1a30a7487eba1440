-- Theorems and the lemmas behind them.
pub mod ItemsGivenLaws
pub mod ItemsReadLaws
pub mod LayingLaws
pub mod LendingLaws
pub mod ReadCodesLaws
pub mod ReadLaws
pub mod ReadingLaws
pub mod RoundTripLaws
pub mod WritableLaws
pub mod WriteLaws
