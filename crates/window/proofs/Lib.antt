-- Theorems and the lemmas behind them.
pub mod AskedLaws
pub mod CheckLaws
pub mod Counted
pub mod ManyLaws
pub mod Meaning
pub mod StandLaws
pub mod SweepLaws
