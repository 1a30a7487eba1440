-- Theorems and the lemmas behind them.
pub mod BranchLaws
pub mod CallsLaws
pub mod Demand1BytesLaws
pub mod Demand1Laws
pub mod Demand2Laws
pub mod EventMarks
pub mod FirstLineLaws
pub mod LaidLaws
pub mod LoadLaws
pub mod No8106Laws
pub mod OtherBytesLaws
pub mod PressLaws
pub mod RowBytesLaws
pub mod ServedLocalLaws
pub mod ServingLaws
