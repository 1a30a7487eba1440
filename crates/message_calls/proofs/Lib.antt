-- Theorems and the lemmas behind them.
pub mod CodesLaws
pub mod FindingLaws
pub mod OnlyLaws
pub mod PromiseLaws
pub mod ServingLaws
